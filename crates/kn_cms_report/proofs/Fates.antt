-- A list of what became of objects grows by one.
use Rattle.std.proofs.Common.{◌≡◌, ◌∙◌, ℕ, ◌+◌, ◌<◌, ◌↔◌, Bool, true, false, List, [], ◌∷◌, ◌++◌, get_or}
use Rattle.std.proofs.Common.{length, inl, inr, sym, subst, arith}
use Rattle.std.proofs.lemmas.List.{get_or_append_left, get_or_push}
use Rattle.std.proofs.lemmas.Bool.Decides.{eqb_tells}
use Rattle.kn_base.specs.Functions.{Tells}

pub fate_more : (P : ℕ → Type 0) (flags : List Bool) (n : ℕ) (fate : Bool) → length flags ≡ n →
    ((j : ℕ) → j < n → (get_or flags j false ≡ true) ↔ P j) → ((fate ≡ true) ↔ P n) →
    (j : ℕ) → j < n + 1 → (get_or (flags ++ fate ∷ []) j false ≡ true) ↔ P j
fate_more P flags n fate count each last j near = by (eqb_tells j n)
  where
    by : Tells j n → (get_or (flags ++ fate ∷ []) j false ≡ true) ↔ P j
    by (inl t) =
        let at = get_or_push flags fate false j (count ∙ sym t.1) in
        (λ h. subst P (sym t.1) (last.0 (sym at ∙ h)), λ p. at ∙ last.1 (subst P t.1 p))
    by (inr t) =
        let ne = t.1 in
        let less : j < n = omega arith in
        let at = get_or_append_left flags (fate ∷ []) false j (omega (arith, less, count)) in
        (λ h. (each j less).0 (sym at ∙ h), λ p. at ∙ (each j less).1 p)
