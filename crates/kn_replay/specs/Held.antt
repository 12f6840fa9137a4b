-- What holds of a graph that is kept, between any two steps.
use Rattle.std.specs.Prelude.{◌≡◌, ℕ, ◌+◌, ◌≤◌, List, length}
use Rattle.kn_base.specs.Sizes.{word_count}
use Rattle.kn_graph.specs.Ground.{Ground}
use Rattle.kn_graph.specs.Graph.{Graph, pointers}
use Rattle.kn_graph.specs.Answers.{greatest_count}
use Rattle.kn_graph.specs.Sound.{WasBorn}
use Rattle.kn_objects.specs.Replay.{Replay}
use Rattle.kn_objects.specs.Kept.{KeptObjects}
use Rattle.kn_objects.specs.Holders.{KeptHolders, AreSized}

-- each object that a local, a global, a name or a field holds was born, and no count is above the greatest one
pub record IsHeld (g : Graph) : Type 0 where
  pub local : (thread r : ℕ) → WasBorn g.born (g.local thread r)
  pub global : (i : ℕ) → WasBorn g.born (g.global i)
  pub stable : (h : ℕ) → WasBorn g.born (g.stable h)
  pub weak : (w : ℕ) → WasBorn g.born (g.weak w)
  pub back : (b : ℕ) → WasBorn g.born (g.back b)
  pub field : (n f : ℕ) → WasBorn g.born (pointers g n f)
  pub counted : (b : ℕ) → g.count b ≤ greatest_count

-- the parts of what is kept of a graph
abbrev pub replay_of : (ground : Ground) → KeptObjects → KeptHolders → ℕ → ℕ → List ℕ → Replay
replay_of z o h paused done entered = record {
  ground = z;
  objects = o.kept;
  points = o.points;
  numbers = o.numbers;
  locals = h.locals;
  globals = h.globals;
  stable = h.stable;
  weak = h.weak;
  back = h.back;
  counts = h.counts;
  paused = paused;
  done = done;
  entered = entered;
}

-- the parts fit the sizes, each word of the heap has its place for an owner, each caller its last epoch, each object its
-- place on the work list, and what is held was born
pub record FitTogether (z : Ground) (o : KeptObjects) (h : KeptHolders) (g : Graph) (entered : List ℕ) (places : ℕ) : Type 0 where
  pub sized : AreSized z.sizes h
  pub words : o.words ≡ 1 + word_count z.sizes
  pub callers : length entered ≡ z.sizes.threads + 2
  pub work : places ≡ length o.kept
  pub held : IsHeld g
