-- The words of marks and of root sets.
use Rattle.std.specs.Prelude.{◌≡◌, ◌⊎◌, ℕ, ◌+◌, ◌-◌, ◌*◌, ◌==◌, cond}

-- the marks of an epoch: gray, scanned and black
abbrev pub gray : ℕ → ℕ
gray e = 4 * e + 1

abbrev pub scanned : ℕ → ℕ
scanned e = 4 * e + 2

abbrev pub black : ℕ → ℕ
black e = 4 * e + 3

-- the words of a root set that was claimed, or is finished, for an epoch
abbrev pub claimed : ℕ → ℕ
claimed e = 4 * e + 2

abbrev pub finished : ℕ → ℕ
finished e = 4 * e + 3

-- the word of a root set before the marking of an epoch comes to it: finished for the epoch before, and 0 before the first
abbrev pub before : ℕ → ℕ
before e = cond (e == 1) 0 (4 * (e - 1) + 3)

-- 1 where a word is v, and else 0
abbrev pub one : ℕ → ℕ → ℕ
one v w = cond (w == v) 1 0

-- 0 where a word is v, and else 1
abbrev pub but : ℕ → ℕ → ℕ
but v w = cond (w == v) 0 1

-- a word is a mark of the epoch
abbrev pub IsColour : ℕ → ℕ → Type 0
IsColour e v = (v ≡ gray e) ⊎ ((v ≡ scanned e) ⊎ (v ≡ black e))

-- a word is that of a root set in the marking of the epoch
abbrev pub SetIs : ℕ → ℕ → Type 0
SetIs e w = (w ≡ before e) ⊎ ((w ≡ claimed e) ⊎ (w ≡ finished e))
