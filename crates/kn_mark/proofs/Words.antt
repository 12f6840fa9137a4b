-- What a header tells.
use Rattle.std.proofs.Common.{◌≡◌, ℕ, ◌%◌, ◌/◌, ◌^◌, ◌<◌, refl, lit<}
use Rattle.std.proofs.Math.Nat.{div-lt_iff_lt-mul, mod-lt}
use Rattle.kn_rule.specs.Decoding.{header_of}

pub length_told : (w : ℕ) → w % 2 ^ 48 / 2 ^ 24 ≡ (header_of w).length
unfolding header_of
length_told w = refl

pub length_short : (w : ℕ) → (header_of w).length < 2 ^ 24
unfolding header_of
length_short w = (div-lt_iff_lt-mul {k = 2 ^ 24} {x = w % 2 ^ 48} {y = 2 ^ 24} (lit< tt)).1 (mod-lt w {m = 2 ^ 48} (lit< tt))
