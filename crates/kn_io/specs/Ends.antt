-- The answers of a read to the end.
use Rattle.std.specs.Prelude.{◌≡◌, ℕ, ◌+◌, ◌<◌, List, length, take, ⊤}
use Rattle.kn_base.specs.Texts.{line_behind}
use Rattle.kn_io.specs.declared.transfers.TheConstants.{BUFFER}
use Rattle.kn_io.specs.declared.transfers.ReadEnd.{ReadEnd}
use Rattle.kn_io.specs.declared.transfers.ReadEnd.TheVariants.{Failed, TooLong, Memory}

-- there is a byte past the limit, and the line is the one that the bytes up to the limit have reached
abbrev pub PassesLimit : ℕ → List ℕ → ℕ → Type 0
PassesLimit limit bytes line = (limit < length bytes) × (line ≡ line_behind (take limit bytes))

-- the most bytes that were given where a read to the end has no text: the limit, and a buffer more where too much came
abbrev pub most_given : ℕ → ReadEnd → ℕ
most_given limit Failed = limit
most_given limit (TooLong line) = limit + BUFFER
most_given limit Memory = limit

-- a fact where the source failed
abbrev pub OnFailed : ReadEnd → Type 0 → Type 0
OnFailed Failed P = P
OnFailed (TooLong line) P = ⊤
OnFailed Memory P = ⊤

-- a fact where a read ended otherwise than by a fault of the source
abbrev pub UnlessFailed : ReadEnd → Type 0 → Type 0
UnlessFailed Failed P = ⊤
UnlessFailed (TooLong line) P = P
UnlessFailed Memory P = P

-- a fact of the line where too much came
abbrev pub IfTooLong : ReadEnd → (ℕ → Type 0) → Type 0
IfTooLong Failed P = ⊤
IfTooLong (TooLong line) P = P line
IfTooLong Memory P = ⊤
