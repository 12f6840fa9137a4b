use Rattle.std.proofs.Common.{◌≡◌, ℕ, ◌<◌, false, get_or}
use Rattle.kn_lines.specs.Orders.{is_sign}
use Rattle.kn_lines.proofs.orders.find_sign.Given as goal

abbrev pub invariant-loop-i : goal.invariant-loop-i
invariant-loop-i l = (k : ℕ) → k < l.i → is_sign (get_or l.word k 0) ≡ false
