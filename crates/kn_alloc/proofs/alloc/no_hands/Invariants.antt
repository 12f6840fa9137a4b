use Rattle.std.proofs.Common.{◌≡◌, None, replicate}
use Rattle.kn_alloc.proofs.alloc.no_hands.Given as goal

abbrev pub invariant-loop-number : goal.invariant-loop-number
invariant-loop-number l = l.hands.items ≡ replicate l._number None
