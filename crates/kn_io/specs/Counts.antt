-- Counts of 64 bits that never fall, and that stand still at their last value.
use Rattle.std.specs.Prelude.{◌≡◌, ℕ, ◌+◌, ◌-◌, ◌^◌, ◌<◌, ◌≤◌, ◌⊎◌, min}

-- the last value of a count
abbrev pub last_count : ℕ
last_count = 2 ^ 64 - 1

-- n more, as far as the last value lets it
abbrev pub counted_on : ℕ → ℕ → ℕ
counted_on count n = min (count + n) last_count

-- the count never falls
abbrev pub NeverFalls : ℕ → ℕ → Type 0
NeverFalls old new = old ≤ new

-- the count rose, or stands at its last value
abbrev pub Rose : ℕ → ℕ → Type 0
Rose old new = (old < new) ⊎ (new ≡ last_count)
