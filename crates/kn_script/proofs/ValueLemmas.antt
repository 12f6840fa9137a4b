-- The numbers at the first places of a line.
use Rattle.std.proofs.Common.{◌≡◌, ℕ, zero, suc, ◌+◌, ◌≤◌, List, [], ◌∷◌, length, set, refl, ap, sym, ◌∙◌, arith}
use Rattle.kn_lines.specs.Numbers.{value_of}
use Rattle.kn_lines.specs.Values.{values_of}
use Rattle.kn_script.specs.Readings.{written}

-- the value of one more word is written
pub written-more : (values next : List ℕ) (place value : ℕ) (words rest : List (List ℕ)) (word : List ℕ) (total : List ℕ) →
    words ≡ word ∷ rest → value ≡ value_of word → next ≡ set values place value → written values place words ≡ total →
    written next (place + 1) rest ≡ total
written-more values next place value words rest word total is spelled then so_far =
    ap (λ vs. written vs (place + 1) rest) (then ∙ ap (λ v. set values place v) spelled)
    ∙ ap (λ ws. written values place ws) (sym is)
    ∙ so_far

-- past the last place
set-past : (values : List ℕ) (place v : ℕ) → length values ≤ place → set values place v ≡ values
set-past [] place v h = refl
set-past (x ∷ xs) zero v h = absurd (omega arith)
set-past (x ∷ xs) (suc place) v h = ap (λ ys. x ∷ ys) (set-past xs place v (omega arith))

pub written-past : (values : List ℕ) (place : ℕ) (words : List (List ℕ)) → length values ≤ place → written values place words ≡ values
written-past values place [] h = refl
written-past values place (word ∷ words) h = rw (set-past values place (value_of word) h) (written-past values (place + 1) words (omega arith))

pub written-all : (words : List (List ℕ)) → written (0 ∷ 0 ∷ 0 ∷ 0 ∷ 0 ∷ 0 ∷ []) 0 words ≡ values_of words
written-all [] = refl
written-all (a ∷ []) = refl
written-all (a ∷ b ∷ []) = refl
written-all (a ∷ b ∷ c ∷ []) = refl
written-all (a ∷ b ∷ c ∷ d ∷ []) = refl
written-all (a ∷ b ∷ c ∷ d ∷ e ∷ []) = refl
written-all (a ∷ b ∷ c ∷ d ∷ e ∷ f ∷ words) =
    written-past (value_of a ∷ value_of b ∷ value_of c ∷ value_of d ∷ value_of e ∷ value_of f ∷ []) 6 words (omega arith)
