use Rattle.std.proofs.Common.{ℕ, ◌<◌}
use Rattle.kn_alloc.specs.declared.stage.Hand.{Hand}
use Rattle.kn_alloc.specs.Keeps.{HasHand}
use Rattle.kn_alloc.proofs.alloc.ThreadAlloc.next_home.Given as goal

abbrev pub invariant-loop-class : goal.invariant-loop-class
invariant-loop-class l = (k : ℕ) (hand : Hand) → k < l.class → ¬ HasHand l.self.hands k hand
