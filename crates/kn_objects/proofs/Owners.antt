-- Who has which word, as objects are born and released.
use Rattle.std.proofs.Common.{◌≡◌, ℕ, ◌<◌, ◌≤◌, ◌≢◌, ◌⊎◌, inl, inr, List, get_or, Option, Some, None, sym, ◌∙◌, subst}
use Rattle.std.proofs.Common.{arith}
use Rattle.std.proofs.lemmas.Option.{none-some, same_Some}
use Rattle.kn_base.specs.declared.numbers.Span.{Span}
use Rattle.kn_base.specs.Spans.{end_of}
use Rattle.kn_base.specs.Functions.{upd}
use Rattle.kn_base.proofs.Updates.{split_at, upd_else, upd_here}
use Rattle.kn_objects.specs.Kept.{AreOwners, Gives, HasWord}

-- a word is in a span, or before it, or behind it
word_tells : (span : Span) (w : ℕ) → ((span.start ≤ w) × (w < end_of span)) ⊎ ((w < span.start) ⊎ (end_of span ≤ w))
word_tells span w = grind arith

module _ (cell : ℕ → Option Span) (n : ℕ) (at_n : Option Span) where
  -- what has a word after a change at n
  has_here : (w : ℕ) → HasWord at_n w → HasWord (upd cell n at_n n) w
  has_here w h = subst (λ c. HasWord c w) (sym (upd_here cell n at_n)) h

  has_else : (w m : ℕ) → n ≢ m → HasWord (cell m) w → HasWord (upd cell n at_n m) w
  has_else w m ne h = subst (λ c. HasWord c w) (sym (upd_else cell n at_n m ne)) h

  -- what had a word, where it has it after the change
  had : (w m : ℕ) → HasWord (upd cell n at_n m) w → (n ≢ m → HasWord (cell m) w) × (n ≡ m → HasWord at_n w)
  had w m h = (
    λ ne. subst (λ c. HasWord c w) (upd_else cell n at_n m ne) h,
    λ e. subst (λ c. HasWord c w) (upd_here cell n at_n) (subst (λ k. HasWord (upd cell n at_n k) w) (sym e) h),
  )

module _ (owners owners' : List (Option ℕ)) (cell : ℕ → Option Span) (n : ℕ) (span : Span) (owned : AreOwners owners cell) where
  owner_is : (w m : ℕ) → cell n ≡ Some span → HasWord (cell m) w → (span.start ≤ w) × (w < end_of span) → n ≡ m
  owner_is w m at_n has inside =
      same_Some n m (sym ((owned w n).1 (subst (λ c. HasWord c w) (sym at_n) inside)) ∙ (owned w m).1 has)

  not_outside : (w : ℕ) → (w < span.start) ⊎ (end_of span ≤ w) → HasWord (Some span) w → ⊥
  not_outside w out inside = elim out [ inl a ↦ omega (arith, a, inside.0) | inr a ↦ omega (arith, a, inside.1) ]

  -- the owner of each word once n is released
  pub owned_released : cell n ≡ Some span → Gives span.start (end_of span) None owners owners' → AreOwners owners' (upd cell n None)
  owned_released at_n gives w m = elim (word_tells span w) [
    | inl inside ↦ (
      λ e. absurd (none-some m (sym (gives.inside w inside.0 inside.1) ∙ e)),
      λ has. let was = had cell n None w m has in let e : n ≡ m = owner_is w m at_n (was.0 (λ e. was.1 e)) inside in absurd (was.1 e),
    )
    | inr out ↦ (
      λ e. let has = (owned w m).0 (sym (gives.outside w out) ∙ e) in
          has_else cell n None w m (λ same. not_outside w out (subst (λ c. HasWord c w) at_n (subst (λ k. HasWord (cell k) w) (sym same) has))) has,
      λ has. gives.outside w out ∙ (owned w m).1 ((had cell n None w m has).0 (λ e. (had cell n None w m has).1 e)),
    )
  ]

  -- the owner of each word once n is born over words that nothing has
  pub owned_born : cell n ≡ None → ((w : ℕ) → span.start ≤ w → w < end_of span → get_or owners w None ≡ None) →
      Gives span.start (end_of span) (Some n) owners owners' → AreOwners owners' (upd cell n (Some span))
  owned_born at_n free gives w m = elim (word_tells span w) [
    | inl inside ↦ (
      λ e. let same : n ≡ m = same_Some n m (sym (gives.inside w inside.0 inside.1) ∙ e) in
          subst (λ k. HasWord (upd cell n (Some span) k) w) same (has_here cell n (Some span) w inside),
      λ has. split_at (λ k. HasWord (upd cell n (Some span) k) w → get_or owners' w None ≡ Some k) n (λ _. gives.inside w inside.0 inside.1) m
          (λ ne has. absurd (none-some m (sym (free w inside.0 inside.1) ∙ (owned w m).1 ((had cell n (Some span) w m has).0 ne)))) has,
    )
    | inr out ↦ (
      λ e. let has = (owned w m).0 (sym (gives.outside w out) ∙ e) in
          has_else cell n (Some span) w m (λ same. subst (λ c. HasWord c w) at_n (subst (λ k. HasWord (cell k) w) (sym same) has)) has,
      λ has. gives.outside w out ∙ (owned w m).1 ((had cell n (Some span) w m has).0 (λ e. not_outside w out ((had cell n (Some span) w m has).1 e))),
    )
  ]
