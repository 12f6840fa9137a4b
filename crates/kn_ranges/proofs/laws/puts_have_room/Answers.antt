use Rattle.kn_ranges.proofs.CellLists.{put_has_room}
use Rattle.kn_ranges.proofs.laws.puts_have_room.Goals as goal

pub returns : goal.returns
returns c = put_has_room
