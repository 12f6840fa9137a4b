-- Sums over the numbers below a limit.
use Rattle.std.specs.Prelude.{ℕ, zero, suc, ◌+◌}

-- the sum of what a function has for the numbers below n
abbrev pub total : ℕ → (ℕ → ℕ) → ℕ
total zero f = 0
total (suc n) f = f n + total n f
