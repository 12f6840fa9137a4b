use Rattle.kn_view.proofs.Tellings.{layout_told, length_told}
use Rattle.kn_view.proofs.words.shape_told.Goals as goal

pub returns-clause-layout : goal.returns-clause-layout
returns-clause-layout c = layout_told c.args.word

pub returns-clause-length : goal.returns-clause-length
returns-clause-length c = length_told c.args.word
