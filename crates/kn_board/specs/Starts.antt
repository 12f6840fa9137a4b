-- Where the places of each sort begin in the words of a board.
use Rattle.kn_base.specs.declared.heap.Sizes.{Sizes}
use Rattle.kn_rule.specs.Places.{base}
use Rattle.kn_board.specs.declared.starts.Starts.{Starts}

-- the places of each sort begin behind the words of the sorts before them
abbrev pub starts_of : Sizes → Starts
starts_of z = record {
  states = base z 3;
  root_sets = base z 4;
  locals = base z 5;
  globals = base z 6;
  nodes = base z 7;
  frames = base z 8;
  sides = base z 9;
  bodies = base z 10;
}
