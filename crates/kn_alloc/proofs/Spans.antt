-- Free spans that have a word or a length.
use Rattle.std.proofs.Common.{◌≡◌, ℕ, ◌<◌, ◌≤◌, ◌⊎◌, ◌↔◌, inl, inr, Bool, true, false, ◌||◌, List, [], ◌∷◌}
use Rattle.std.proofs.Common.{Option, Some, None, All, cond, refl, sym, ap, ◌∙◌, subst, arith}
use Rattle.std.specs.List.{AllByRecursion}
use Rattle.std.specs.Option.{option_map, option_or}
use Rattle.std.proofs.lemmas.Bool.Decides.{leb_tells}
use Rattle.std.proofs.lemmas.List.Elements.{All-from_recursion, recursion_from_All}
use Rattle.std.proofs.lemmas.Option.{none-some, same_Some}
use Rattle.std.proofs.Math.Dec.{leb}
use Rattle.kn_base.specs.declared.numbers.Span.{Span}
use Rattle.kn_base.specs.SpanLists.{Covers, first_fit, front_of, spans_from}
use Rattle.kn_rule.specs.Requests.{AreFree, has_span}

-- all spans are shorter exactly where none has as many words
short_by : (n len : ℕ) (rest : Bool) → ((leb n len ≡ true) × (n ≤ len)) ⊎ ((leb n len ≡ false) × (len < n)) →
    (leb n len || rest) ≡ false → (len < n) × (rest ≡ false)
short_by n len rest (inl t) e = let h : true ≡ false = sym (ap (λ b. b || rest) t.0) ∙ e in absurd (cc)
short_by n len rest (inr t) e = (t.1, sym (ap (λ b. b || rest) t.0) ∙ e)

all_short : (n : ℕ) (spans : List Span) → has_span n spans ≡ false → AllByRecursion (λ s. s.len < n) spans
all_short n [] e = tt
all_short n (s ∷ rest) e =
    let h = short_by n s.len (has_span n rest) (leb_tells n s.len) e in
    (h.0, all_short n rest h.1)

lacks_by : (n len : ℕ) → len < n → ((leb n len ≡ true) × (n ≤ len)) ⊎ ((leb n len ≡ false) × (len < n)) → leb n len ≡ false
lacks_by n len l (inl t) = let h = t.1 in absurd (omega arith)
lacks_by n len l (inr t) = t.0

has_none : (n : ℕ) (spans : List Span) → AllByRecursion (λ s. s.len < n) spans → has_span n spans ≡ false
has_none n [] h = refl
has_none n (s ∷ rest) h = ap (λ b. b || has_span n rest) (lacks_by n s.len h.0 (leb_tells n s.len)) ∙ has_none n rest h.1

pub short_is : (n : ℕ) (spans : List Span) → All (λ s. s.len < n) spans ↔ (has_span n spans ≡ false)
short_is n spans = (
  λ h. has_none n spans (recursion_from_All (λ (s : Span). s.len < n) spans h),
  λ e. All-from_recursion (λ (s : Span). s.len < n) spans (all_short n spans e),
)

-- the front of a first fit has its length, and its words are those of a span of the list
front_free : (n : ℕ) (s : Span) (rest : List Span) → n ≤ s.len → AreFree (s ∷ rest) (front_of n s)
front_free n s rest l a h = let b = h.1 in inl (h.0, omega arith)

module _ (n : ℕ) (cell : Span) where
  pub fit_at : (s : Span) (rest : List Span) → ((leb n s.len ≡ true) × (n ≤ s.len)) ⊎ ((leb n s.len ≡ false) × (s.len < n)) →
      (Some cell ≡ option_map (front_of n) (first_fit n rest) → (cell.len ≡ n) × AreFree rest cell) →
      Some cell ≡ option_map (front_of n) (cond (leb n s.len) (Some s) (first_fit n rest)) → (cell.len ≡ n) × AreFree (s ∷ rest) cell
  fit_at s rest (inl t) more e =
      let is : cell ≡ front_of n s = same_Some cell (front_of n s) (e ∙ ap (λ b. option_map (front_of n) (cond b (Some s) (first_fit n rest))) t.0) in
      (ap (λ (c : Span). c.len) is, subst (AreFree (s ∷ rest)) (sym is) (front_free n s rest t.1))
  fit_at s rest (inr t) more e =
      let h = more (e ∙ ap (λ b. option_map (front_of n) (cond b (Some s) (first_fit n rest))) t.0) in
      (h.0, λ a w. inr (h.1 a w))

  pub fit_is : (spans : List Span) → Some cell ≡ option_map (front_of n) (first_fit n spans) → (cell.len ≡ n) × AreFree spans cell
  fit_is [] e = absurd (none-some cell (sym e))
  fit_is (s ∷ rest) e = fit_at s rest (leb_tells n s.len) (λ e. fit_is rest e) e

  covers_some : (b : Bool) (s : Span) (rest left : List Span) (a : ℕ) → (Covers left a → Covers rest a) →
      Covers (cond b (s ∷ left) left) a → Covers (s ∷ rest) a
  covers_some true s rest left a more (inl h) = inl h
  covers_some true s rest left a more (inr h) = inr (more h)
  covers_some false s rest left a more h = inr (more h)

  -- the words of the spans behind an address are words of the list
  covers_from : (low : ℕ) (spans : List Span) (a : ℕ) → Covers (spans_from low spans) a → Covers spans a
  covers_from low [] a h = h
  covers_from low (s ∷ rest) a h = covers_some (leb low s.start) s rest (spans_from low rest) a (λ h. covers_from low rest a h) h

  next_by : (low : ℕ) (spans : List Span) (x : Option Span) → first_fit n (spans_from low spans) ≡ x →
      Some cell ≡ option_map (front_of n) (option_or x (first_fit n spans)) → (cell.len ≡ n) × AreFree spans cell
  next_by low spans None e is = fit_is spans is
  next_by low spans (Some s) e is =
      let h = fit_is (spans_from low spans) (is ∙ ap (option_map (front_of n)) (sym e)) in
      (h.0, λ a w. covers_from low spans a (h.1 a w))

  pub next_fit_is : (low : ℕ) (spans : List Span) →
      Some cell ≡ option_map (front_of n) (option_or (first_fit n (spans_from low spans)) (first_fit n spans)) → (cell.len ≡ n) × AreFree spans cell
  next_fit_is low spans e = next_by low spans (first_fit n (spans_from low spans)) refl e
