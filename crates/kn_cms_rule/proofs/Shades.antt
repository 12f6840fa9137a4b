-- Colours, where a value becomes gray.
use Rattle.std.proofs.Common.{◌≡◌, ℕ, ◌<◌, ◌≤◌, ◌⊎◌, inl, inr, Bool, true, Option, Some, None, refl, ap, ◌∙◌, arith}
use Rattle.kn_base.proofs.Updates.{upd_case, upd_here}
use Rattle.kn_graph.specs.Graph.{Graph}
use Rattle.kn_cms_rule.specs.declared.stages.Colour.{Colour}
use Rattle.kn_cms_rule.specs.declared.stages.Colour.TheVariants.{White, Gray, Black}
use Rattle.kn_cms_rule.specs.State.{is_coloured, shaded, shade}
use Rattle.kn_cms_rule.specs.MarkRule.{IsNullOrColoured, IsKept, IsNullOrKept, ColouredKept, IsFieldKept, RootsColoured}

shaded_coloured : (c : Colour) → is_coloured (shaded c) ≡ true
shaded_coloured White = refl
shaded_coloured Gray = refl
shaded_coloured Black = refl

shaded_black : (c : Colour) → shaded c ≡ Black → c ≡ Black
shaded_black White e = absurd (cc)
shaded_black Gray e = absurd (cc)
shaded_black Black e = refl

shaded_gray : (c : Colour) → c ≡ Gray → shaded c ≡ Gray
shaded_gray c e = ap shaded e

pub coloured_of : (c d : Colour) → c ≡ d → is_coloured d ≡ true → is_coloured c ≡ true
coloured_of c d e h = ap is_coloured e ∙ h

module _ (colour : ℕ → Colour) where
  pub shade_grows : (v : Option ℕ) (n : ℕ) → is_coloured (colour n) ≡ true → is_coloured (shade colour v n) ≡ true
  shade_grows None n e = e
  shade_grows (Some m) n e = upd_case (λ k (c : Colour). is_coloured (colour k) ≡ true → is_coloured c ≡ true)
      colour m (shaded (colour m)) (λ _. shaded_coloured (colour m)) n (λ _ h. h) e

  pub shade_here : (v : Option ℕ) → IsNullOrColoured (shade colour v) v
  shade_here None = tt
  shade_here (Some m) = ap is_coloured (upd_here colour m (shaded (colour m))) ∙ shaded_coloured (colour m)

  pub shade_black : (v : Option ℕ) (n : ℕ) → shade colour v n ≡ Black → colour n ≡ Black
  shade_black None n e = e
  shade_black (Some m) n e = upd_case (λ k (c : Colour). c ≡ Black → colour k ≡ Black)
      colour m (shaded (colour m)) (shaded_black (colour m)) n (λ _ h. h) e

  pub black_shade : (v : Option ℕ) (n : ℕ) → colour n ≡ Black → shade colour v n ≡ Black
  black_shade None n e = e
  black_shade (Some m) n e = upd_case (λ k (c : Colour). colour k ≡ Black → c ≡ Black)
      colour m (shaded (colour m)) (λ h. ap shaded h) n (λ _ h. h) e

  pub gray_shade : (v : Option ℕ) (n : ℕ) → colour n ≡ Gray → shade colour v n ≡ Gray
  gray_shade None n e = e
  gray_shade (Some m) n e = upd_case (λ k (c : Colour). colour k ≡ Gray → c ≡ Gray)
      colour m (shaded (colour m)) (λ h. ap shaded h) n (λ _ h. h) e

  -- where what has a colour, and the value, is of a kind, so is what has one then
  pub shade_kept : (at : Graph) (born : ℕ) (v : Option ℕ) → ColouredKept at born colour → IsNullOrKept at born v →
      ColouredKept at born (shade colour v)
  shade_kept at born None k h n = k n
  shade_kept at born (Some m) k h n = upd_case (λ k (c : Colour). is_coloured c ≡ true → IsKept at born k)
      colour m (shaded (colour m)) (λ _. h) n (λ _. k n)

-- no object loses its colour
module _ (at : Graph) (colour colour' : ℕ → Colour) (grows : (n : ℕ) → is_coloured (colour n) ≡ true → is_coloured (colour' n) ≡ true) where
  pub still_coloured : (v : Option ℕ) → IsNullOrColoured colour v → IsNullOrColoured colour' v
  still_coloured None h = tt
  still_coloured (Some n) h = grows n h

  pub roots_still : RootsColoured at colour → RootsColoured at colour'
  roots_still r = record { locals = λ i q. still_coloured (at.local i q) (r.locals i q); globals = λ i. still_coloured (at.global i) (r.globals i) }

  pub field_still : (before now : Option ℕ) (looked : Bool) → IsFieldKept colour before now looked → IsFieldKept colour' before now looked
  field_still before now looked (inl h) = inl h
  field_still before now looked (inr h) = inr (still_coloured before h)

  pub or_still : {A : Type 0} (v : Option ℕ) → A ⊎ IsNullOrColoured colour v → A ⊎ IsNullOrColoured colour' v
  or_still v (inl h) = inl h
  or_still v (inr h) = inr (still_coloured v h)

-- more objects were born
module _ (at : Graph) (born born' : ℕ) (more : born ≤ born') where
  pub kept_more : (n : ℕ) → IsKept at born n → IsKept at born' n
  kept_more n (inl r) = inl r
  kept_more n (inr p) = let near = p.1 in inr (p.0, omega arith)

  pub value_more : (v : Option ℕ) → IsNullOrKept at born v → IsNullOrKept at born' v
  value_more None h = tt
  value_more (Some n) h = kept_more n h

pub kept_less : (at : Graph) (born born' n : ℕ) → n < born → IsKept at born' n → IsKept at born n
kept_less at born born' n near (inl r) = inl r
kept_less at born born' n near (inr p) = inr (p.0, near)
