use Rattle.std.proofs.Common.{◌≡◌, ℕ, ◌<◌, true, false, get_or}
use Rattle.kn_cms_trace.proofs.runner.CoreRunner.is_going_on.Given as goal

abbrev pub invariant-loop-ended : goal.invariant-loop-ended
invariant-loop-ended l = (i : ℕ) → i < l.ended-index → get_or l.ended-items i false ≡ true
