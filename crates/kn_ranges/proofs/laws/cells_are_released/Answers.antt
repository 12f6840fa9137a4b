use Rattle.kn_ranges.proofs.CellLists.{cell_released}
use Rattle.kn_ranges.proofs.laws.cells_are_released.Goals as goal

pub returns : goal.returns
returns c = cell_released
