-- Functions over numbers, changed at one place.
use Rattle.std.specs.Prelude.{◌≡◌, ◌≢◌, ℕ, ◌==◌, ◌⊎◌, cond, true, false}

-- a function with the value at i changed
abbrev pub upd : {A : Type 0} → (ℕ → A) → ℕ → A → ℕ → A
upd f i a j = cond (i == j) a (f j)

-- the test whether two numbers are one tells so
abbrev pub Tells : ℕ → ℕ → Type 0
Tells i j = (((i == j) ≡ true) × (i ≡ j)) ⊎ (((i == j) ≡ false) × (i ≢ j))
