-- A list of one word.
use Rattle.std.proofs.Common.{◌≡◌, ◌∷◌, [], List, ℕ, length, Bool, true, refl, sym, map, eqb, ◌∙◌}
use Rattle.std.specs.Prelude.{IsTrue}
use Rattle.std.specs.Str.{bytes_eq}
use Rattle.std.proofs.lemmas.Slice.Eq.{bytes_eq-Decides}
use Rattle.std.specs.Borrow.{Bor}
use Rattle.std.proofs.lemmas.Bool.{eqb-true, eq-eqb}
use Rattle.std.proofs.lemmas.List.{nil_from_length}

only_if : (word : Bor (List ℕ)) (rest : List (Bor (List ℕ))) (text : List ℕ) → map (λ (w : Bor (List ℕ)). w.now) (word ∷ rest) ≡ text ∷ [] →
    length rest ≡ 0
only_if word [] text e = refl
only_if word (x ∷ xs) text e = cc

pub only_word : (words : List (Bor (List ℕ))) (word : Bor (List ℕ)) (rest : List (Bor (List ℕ))) (text : List ℕ) (empty : Bool) →
    words ≡ word ∷ rest → true ≡ bytes_eq word.now text → empty ≡ eqb (length rest) 0 →
    (IsTrue empty → map (λ (w : Bor (List ℕ)). w.now) words ≡ text ∷ [])
    × (map (λ (w : Bor (List ℕ)). w.now) words ≡ text ∷ [] → IsTrue empty)
only_word words word rest text empty words_are same is_empty =
    let word_is : word.now ≡ text = (bytes_eq-Decides word.now text).0 (sym same) in (
      λ yes. rw words_are (let none : rest ≡ [] = nil_from_length rest (eqb-true (length rest) 0 (sym is_empty ∙ yes)) in rw (word_is, none) refl),
      λ e. is_empty ∙ eq-eqb (length rest) 0 (only_if word rest text (rw words_are at e)),
    )
