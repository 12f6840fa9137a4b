use Rattle.kn_mark.proofs.Words.{length_told}
use Rattle.kn_mark.proofs.heap.fields_told.Goals as goal

pub returns-clause-value : goal.returns-clause-value
returns-clause-value c = length_told c.args.header
