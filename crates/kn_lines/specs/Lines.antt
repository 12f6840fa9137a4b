-- Bytes as numbered lines, and lines as words.
use Rattle.std.specs.Prelude.{ℕ, ◌+◌, ◌==◌, nat_lt, Bool, true, false, not, ◌||◌, List, [], ◌∷◌, filter, length, if◌then◌else◌}
use Rattle.std.specs.List.{list_any}

-- a byte in front of the first piece
abbrev pub with_first : ℕ → List (List ℕ) → List (List ℕ)
with_first byte [] = (byte ∷ []) ∷ []
with_first byte (piece ∷ pieces) = (byte ∷ piece) ∷ pieces

-- the pieces of bytes: what each separator ends, and what stands behind the last one unless that is nothing
abbrev pub pieces_at : ℕ → List ℕ → List (List ℕ)
pieces_at separator [] = []
pieces_at separator (byte ∷ bytes) = if byte == separator then [] ∷ pieces_at separator bytes else with_first byte (pieces_at separator bytes)

-- the lines of a text
abbrev pub lines_of : List ℕ → List (List ℕ)
lines_of bytes = pieces_at 10 bytes

-- the line without a carriage return at its end
abbrev pub without_return : List ℕ → List ℕ
without_return [] = []
without_return (byte ∷ []) = if byte == 13 then [] else byte ∷ []
without_return (byte ∷ next ∷ bytes) = byte ∷ without_return (next ∷ bytes)

abbrev pub is_empty_list : List ℕ → Bool
is_empty_list [] = true
is_empty_list (x ∷ xs) = false

-- a line whose first byte is `#`
abbrev pub is_comment : List ℕ → Bool
is_comment [] = false
is_comment (byte ∷ bytes) = byte == 35

-- the words of a line: what stands between spaces
abbrev pub line_words : List ℕ → List (List ℕ)
line_words line = filter (λ piece. not (is_empty_list piece)) (pieces_at 32 line)

-- the words of a line that is not a comment
abbrev pub words_unless_comment : List ℕ → List (List ℕ)
words_unless_comment line = if is_comment line then [] else line_words line

-- a line that is not passed over: its number, its bytes, its first word and the words behind it
pub record Numbered : Type 0 where
  pub number : ℕ
  pub text : List ℕ
  pub name : List ℕ
  pub arguments : List (List ℕ)

-- a line in front of others, unless it has no words
abbrev pub with_line : ℕ → List ℕ → List (List ℕ) → List Numbered → List Numbered
with_line number text [] rest = rest
with_line number text (name ∷ arguments) rest = record { number = number; text = text; name = name; arguments = arguments } ∷ rest

-- the lines that are not passed over, each with its number; those that are passed over are counted, too
abbrev pub numbered : ℕ → List (List ℕ) → List Numbered
numbered number [] = []
numbered number (line ∷ lines) =
    with_line number (without_return line) (words_unless_comment (without_return line)) (numbered (number + 1) lines)

-- a byte that no line may have
abbrev pub is_odd_byte : ℕ → Bool
is_odd_byte byte = nat_lt byte 32 || nat_lt 126 byte

abbrev pub has_odd_byte : List ℕ → Bool
has_odd_byte text = list_any is_odd_byte text

-- what is left of a text: its lines, the number of the next line, and that of the line after the last
pub record Unread : Type 0 where
  pub left : List Numbered
  pub next : ℕ
  pub end : ℕ

-- what is left, where the next line has this number
abbrev pub unread : ℕ → List ℕ → Unread
unread number bytes = record { left = numbered number (lines_of bytes); next = number; end = number + length (lines_of bytes) }
