use Rattle.kn_holds.proofs.Places.{lies_in_one}
use Rattle.kn_holds.proofs.laws.cell_law.Goals as goal

pub returns : goal.returns
returns c = lies_in_one
