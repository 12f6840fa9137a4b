-- Numbers as they are spelled in a script.
use Rattle.std.specs.Prelude.{ℕ, ◌+◌, ◌-◌, ◌*◌, ◌^◌, Bool, ◌&&◌, nat_le, nat_lt, Option, Some, None, List, [], ◌∷◌, length}
use Rattle.std.specs.Prelude.{unwrap_or, slice_index_or, if◌then◌else◌}
use Rattle.std.specs.List.{list_all}

abbrev pub is_digit : ℕ → Bool
is_digit byte = nat_le 48 byte && nat_le byte 57

-- the value of more digits behind a value
abbrev pub value_from : ℕ → List ℕ → ℕ
value_from value [] = value
value_from value (digit ∷ digits) = value_from (10 * value + (digit - 48)) digits

-- one to twenty decimal digits
abbrev pub are_digits : List ℕ → Bool
are_digits word = nat_le 1 (length word) && (nat_le (length word) 20 && list_all is_digit word)

-- the number that a word spells: one to twenty decimal digits with a value below 2^64; leading zeros count as digits
abbrev pub number_of : List ℕ → Option ℕ
number_of word = if are_digits word && nat_lt (value_from 0 word) (2 ^ 64) then Some (value_from 0 word) else None

-- the number that a word spells, and 0 where it spells none
abbrev pub value_of : List ℕ → ℕ
value_of word = unwrap_or (number_of word) 0

-- the number that the word at a place spells, and 0 where there is none
abbrev pub value_at : List (List ℕ) → ℕ → ℕ
value_at words place = value_of (slice_index_or words place [])
