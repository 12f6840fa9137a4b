use Rattle.std.proofs.Common.{◌≡◌, ◌<◌, ℕ, get_or}
use Rattle.kn_io.proofs.calls.Calls.next_fails.Given as goal

abbrev pub invariant-loop-failing : goal.invariant-loop-failing
invariant-loop-failing l = (k : ℕ) → k < l.failing-index → get_or l.self.failing k 0 ≡ l.number → ⊥
