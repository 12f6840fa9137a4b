-- Call words are looked for among those that begin with the same byte.
use Rattle.std.proofs.Common.{◌≡◌, ℕ, ◌==◌, Bool, true, false, List, [], ◌∷◌, find, filter, get_or, bytes_eq, refl, ap, sym, ◌∙◌}
use Rattle.std.proofs.lemmas.Bool.{eq-eqb}
use Rattle.std.proofs.lemmas.Slice.Eq.{bytes_eq-Decides}
use Rattle.kn_lines.specs.Built.{call_spelling, call_words, call_among, call_word_of}

-- what is found is found among those that may be it
find-filter : {X : Type 0} (p q : X → Bool) (xs : List X) → ((x : X) → p x ≡ true → q x ≡ true) → find p xs ≡ find p (filter q xs)
find-filter p q [] also = refl
find-filter p q (x ∷ xs) also = at (p x) (q x) refl refl (find-filter p q xs also)
  where
    at : (a b : Bool) → p x ≡ a → q x ≡ b → find p xs ≡ find p (filter q xs) → find p (x ∷ xs) ≡ find p (filter q (x ∷ xs))
    at true true is may rest = rw (is, may, is) refl
    at true false is may rest = let wrong : true ≡ false = sym (also x is) ∙ may in absurd cc
    at false true is may rest = rw (is, may, is) rest
    at false false is may rest = rw (is, may) rest

pub calls-by_first : (word : List ℕ) (first : ℕ) → get_or word 0 0 ≡ first →
    call_word_of word ≡ call_among (filter (λ c. get_or (call_spelling c) 0 0 == first) call_words) word
calls-by_first word first is =
    find-filter (λ c. bytes_eq word (call_spelling c)) (λ c. get_or (call_spelling c) 0 0 == first) call_words
    (λ c same. eq-eqb _ first (ap (λ w. get_or w 0 0) (sym ((bytes_eq-Decides word (call_spelling c)).0 same)) ∙ is))
