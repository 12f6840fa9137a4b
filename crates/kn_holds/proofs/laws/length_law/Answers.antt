use Rattle.kn_holds.proofs.Counts.{short_lists}
use Rattle.kn_holds.proofs.laws.length_law.Goals as goal

pub returns : goal.returns
returns c = short_lists
