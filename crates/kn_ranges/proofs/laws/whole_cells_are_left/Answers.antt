use Rattle.kn_ranges.proofs.CellLists.{cells_left}
use Rattle.kn_ranges.proofs.laws.whole_cells_are_left.Goals as goal

pub returns : goal.returns
returns c = cells_left
