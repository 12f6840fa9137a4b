-- Pieces, words and lines, one piece at a time.
use Rattle.std.proofs.Common.{◌≡◌, ◌≢◌, ℕ, zero, suc, ◌<◌, ◌≤◌, ◌==◌, Bool, true, false, cond, not, if◌then◌else◌, filter}
use Rattle.std.proofs.Common.{List, [], ◌∷◌, length, get_or, take, drop, refl, ap, arith}
use Rattle.std.proofs.lemmas.Bool.{eq-eqb, ne_eqb}
use Rattle.kn_lines.specs.Lines.{pieces_at, with_first, is_empty_list, line_words, without_return}

-- up to the first separator stands the first piece
pub pieces_at-split : (separator : ℕ) (bytes : List ℕ) (i : ℕ) → i < length bytes → ((k : ℕ) → k < i → get_or bytes k 0 ≢ separator) →
    get_or bytes i 0 ≡ separator → pieces_at separator bytes ≡ take i bytes ∷ pieces_at separator (drop (suc i) bytes)
pieces_at-split s [] i h before found = absurd (omega arith)
pieces_at-split s (b ∷ bs) zero h before found = rw (eq-eqb b s found) refl
pieces_at-split s (b ∷ bs) (suc i) h before found =
    let other : b ≢ s = before 0 (omega arith) in
    rw (ne_eqb b s other, pieces_at-split s bs i (omega arith) (λ k below. before (suc k) (omega arith)) found) refl

-- without a separator there is one piece
pub pieces_at-whole : (separator : ℕ) (bytes : List ℕ) → 0 < length bytes → ((k : ℕ) → k < length bytes → get_or bytes k 0 ≢ separator) →
    pieces_at separator bytes ≡ bytes ∷ []
pieces_at-whole s [] some none = absurd (omega arith)
pieces_at-whole s (b ∷ []) some none =
    let other : b ≢ s = none 0 (omega arith) in
    rw (ne_eqb b s other) refl
pieces_at-whole s (b ∷ c ∷ bs) some none =
    let other : b ≢ s = none 0 (omega arith) in
    rw (ne_eqb b s other, pieces_at-whole s (c ∷ bs) (omega arith) (λ k below. none (suc k) (omega arith))) refl

-- a carriage return at the end goes
pub without_return-at : (line : List ℕ) (n : ℕ) → length line ≡ suc n → get_or line n 0 ≡ 13 → take n line ≡ without_return line
without_return-at [] n h last = absurd (omega arith)
without_return-at (b ∷ []) zero h last = rw (eq-eqb b 13 last) refl
without_return-at (b ∷ []) (suc n) h last = absurd (omega arith)
without_return-at (b ∷ c ∷ bs) zero h last = absurd (omega arith)
without_return-at (b ∷ c ∷ bs) (suc n) h last = ap (λ l. b ∷ l) (without_return-at (c ∷ bs) n (omega arith) last)

-- a line without one stays
pub without_return-without : (line : List ℕ) (n : ℕ) → length line ≡ suc n → get_or line n 0 ≢ 13 → line ≡ without_return line
without_return-without [] n h last = absurd (omega arith)
without_return-without (b ∷ []) zero h last = rw (ne_eqb b 13 last) refl
without_return-without (b ∷ []) (suc n) h last = absurd (omega arith)
without_return-without (b ∷ c ∷ bs) zero h last = absurd (omega arith)
without_return-without (b ∷ c ∷ bs) (suc n) h last = ap (λ l. b ∷ l) (without_return-without (c ∷ bs) n (omega arith) last)

pub without_return-none : (line : List ℕ) → length line ≡ 0 → line ≡ without_return line
without_return-none [] h = refl
without_return-none (b ∷ bs) h = absurd (omega arith)

-- there are at most as many pieces as bytes
pub pieces_at-few : (separator : ℕ) (bytes : List ℕ) → length (pieces_at separator bytes) ≤ length bytes
pieces_at-few s [] = omega arith
pieces_at-few s (b ∷ bs) = longer (b == s) b (pieces_at s bs) (length bs) (pieces_at-few s bs)
  where
    longer : (test : Bool) (b : ℕ) (pieces : List (List ℕ)) (n : ℕ) → length pieces ≤ n →
        length (if test then [] ∷ pieces else with_first b pieces) ≤ suc n
    longer true b pieces n h = omega arith
    longer false b [] n h = omega arith
    longer false b (p ∷ pieces) n h = omega arith

pub filter-few : {X : Type 0} (test : X → Bool) (xs : List X) → length (filter test xs) ≤ length xs
filter-few test [] = omega arith
filter-few test (x ∷ xs) = longer (test x) x (filter test xs) (length xs) (filter-few test xs)
  where
    longer : {X : Type 0} (b : Bool) (x : X) (ys : List X) (n : ℕ) → length ys ≤ n → length (cond b (x ∷ ys) ys) ≤ suc n
    longer true x ys n h = omega arith
    longer false x ys n h = omega arith

pub line_words-few : (line : List ℕ) → length (line_words line) ≤ length line
line_words-few line =
    let few = filter-few (λ piece. not (is_empty_list piece)) (pieces_at 32 line) in
    omega (arith, few, pieces_at-few 32 line)
