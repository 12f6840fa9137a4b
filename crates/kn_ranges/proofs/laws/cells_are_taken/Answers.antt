use Rattle.kn_ranges.proofs.CellLists.{cell_taken}
use Rattle.kn_ranges.proofs.laws.cells_are_taken.Goals as goal

pub returns : goal.returns
returns c = cell_taken
