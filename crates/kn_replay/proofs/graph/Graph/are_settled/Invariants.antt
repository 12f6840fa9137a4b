use Rattle.std.proofs.Common.{ℕ, ◌<◌}
use Rattle.kn_graph.specs.Collections.{IsSettled}
use Rattle.kn_objects.specs.Replay.{graph_of}
use Rattle.kn_replay.proofs.graph.Graph.are_settled.Given as goal

abbrev pub invariant-loop-n : goal.invariant-loop-n
invariant-loop-n l = (k : ℕ) → k < l.n → IsSettled l.epoch ((graph_of l.self).object k)
