-- Numbers, one digit at a time.
use Rattle.std.proofs.Common.{◌≡◌, ℕ, ◌+◌, ◌-◌, ◌*◌, ◌^◌, ◌<◌, ◌≤◌, nat_le, nat_lt, ◌&&◌, cond, Bool, true, false, Some}
use Rattle.std.proofs.Common.{None, List, [], ◌∷◌, length, refl, arith}
use Rattle.std.specs.List.{list_all}
use Rattle.std.proofs.lemmas.Bool.{and_from, and_parts, and_right, lt-ltb, le-ltb, le-leb, cond-true, cond-false}
use Rattle.kn_lines.specs.Numbers.{is_digit, are_digits, value_from, number_of}

-- more digits make no number smaller
pub value_from-at_least : (value : ℕ) (digits : List ℕ) → value ≤ value_from value digits
value_from-at_least value [] = omega arith
value_from-at_least value (d ∷ ds) = omega (arith, value_from-at_least (10 * value + (d - 48)) ds)

-- what spells a number, and what spells none
pub number_of-digits : (word : List ℕ) → 1 ≤ length word → length word ≤ 20 → list_all is_digit word ≡ true → value_from 0 word < 2 ^ 64 →
    number_of word ≡ Some (value_from 0 word)
number_of-digits word least most digits small =
    let few = and_from _ _ (le-leb 1 (length word) least) (and_from _ _ (le-leb (length word) 20 most) digits) in
    cond-true _ (Some (value_from 0 word)) None (and_from _ _ few (lt-ltb (value_from 0 word) (2 ^ 64) small))

pub number_of-are_digits : (word : List ℕ) (n : ℕ) → number_of word ≡ Some n → list_all is_digit word ≡ true
number_of-are_digits word n some = at (are_digits word && nat_lt (value_from 0 word) (2 ^ 64)) refl some
  where
    at : (b : Bool) → (are_digits word && nat_lt (value_from 0 word) (2 ^ 64)) ≡ b → cond b (Some (value_from 0 word)) None ≡ Some n →
        list_all is_digit word ≡ true
    at false e is = absurd cc
    at true e is =
        let digits = (and_parts (are_digits word) (nat_lt (value_from 0 word) (2 ^ 64)) e).0 in
        (and_parts (nat_le (length word) 20) _ (and_parts (nat_le 1 (length word)) _ digits).1).1

pub number_of-large : (word : List ℕ) → 2 ^ 64 ≤ value_from 0 word → number_of word ≡ None
number_of-large word large =
    cond-false _ (Some (value_from 0 word)) None (and_right _ _ (le-ltb (value_from 0 word) (2 ^ 64) large))
