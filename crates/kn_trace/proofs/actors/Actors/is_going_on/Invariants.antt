use Rattle.std.proofs.Common.{◌≡◌, ℕ, ◌<◌, true, false, get_or}
use Rattle.kn_trace.proofs.actors.Actors.is_going_on.Given as goal

abbrev pub invariant-loop-ended : goal.invariant-loop-ended
invariant-loop-ended l = (thread : ℕ) → thread < l.ended-index → get_or l.ended-items thread false ≡ true
