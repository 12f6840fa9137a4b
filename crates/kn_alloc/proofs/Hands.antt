-- The pages in hand, from one stage to the next.
use Rattle.std.proofs.Common.{◌≡◌, ◌≢◌, ℕ, zero, suc, ◌<◌, ◌⊎◌, Bool, List, [], ◌∷◌, length, Option, Some, None, slice_get}
use Rattle.std.proofs.Common.{slice_set, refl, sym, ap, ◌∙◌, subst}
use Rattle.std.proofs.lemmas.Option.{none-some, same_Some}
use Rattle.kn_base.proofs.Updates.{get_set_here, get_set_else}
use Rattle.kn_base.specs.declared.heap.Sizes.{Sizes}
use Rattle.kn_rule.specs.Moves.{IsPageOf}
use Rattle.kn_rule.specs.Views.{Open, View, owns}
use Rattle.kn_page.specs.PageViews.{page_view}
use Rattle.kn_steps.specs.Made.{Stand}
use Rattle.kn_alloc.specs.declared.stage.Hand.{Hand}
use Rattle.kn_alloc.specs.declared.stage.Stage.{Stage}
use Rattle.kn_alloc.specs.Keeps.{Keeps, HasHand}
use Rattle.kn_alloc.specs.Agree.{Agrees, AtStage, InHand, IsHeld, IsStaged, held_as}

-- a list in which the element at a place is set to what it is, and one in which it is set twice
pub set_same : {A : Type 0} (l : List A) (k : ℕ) (x : A) → slice_get l k ≡ Some x → slice_set l k x ≡ l
set_same [] k x e = refl
set_same (y ∷ l) zero x e = ap (λ z. z ∷ l) (sym (same_Some y x e))
set_same (y ∷ l) (suc k) x e = ap (λ r. y ∷ r) (set_same l k x e)

pub set_twice : {A : Type 0} (l : List A) (k : ℕ) (x y : A) → slice_set (slice_set l k x) k y ≡ slice_set l k y
set_twice [] k x y = refl
set_twice (z ∷ l) zero x y = refl
set_twice (z ∷ l) (suc k) x y = ap (λ r. z ∷ r) (set_twice l k x y)

-- a page in hand stays one where its frame stays owned and its page out of the slot
pub still_in_hand : (z : Sizes) (v v' : View) (here here' : ℕ → Bool) (s s' : Stage) (class class' k : ℕ) (hand : Hand) →
    InHand z v here s class k hand → owns v' hand.frame ≡ owns v hand.frame → here' hand.frame ≡ here hand.frame →
    ((o : Open) → held_as z s' class' k hand.frame o ≡ held_as z s class k hand.frame o) → InHand z v' here' s' class' k hand
still_in_hand z v v' here here' s s' class class' k hand h own lies same = record {
  hold = h.hold;
  owned = own ∙ h.owned;
  near = h.near;
  out = lies ∙ h.out;
  class_is = h.class_is;
  stamp_is = h.stamp_is;
  page_class = h.page_class;
  page_is = subst (λ (o : Open). IsPageOf z hand.frame o (page_view hand.page)) (sym (same h.hold)) h.page_is;
}

-- what holds of each hand but one holds after that one is put away
pub others_in_hand : (hands : List (Option Hand)) (class : ℕ) (x : Option Hand) (k : ℕ) (hand : Hand) → class ≢ k →
    HasHand (slice_set hands class x) k hand → HasHand hands k hand
others_in_hand hands class x k hand ne h = sym (get_set_else hands class x k ne) ∙ h

pub put_in_hand : (hands : List (Option Hand)) (class : ℕ) (hand : Hand) → class < length hands →
    HasHand (slice_set hands class (Some hand)) class hand
put_in_hand hands class hand l = get_set_here hands class (Some hand) l

none_there : (x : Option Hand) (hand : Hand) → x ≡ None → Some x ≡ Some (Some hand) → ⊥
none_there x hand n e = none-some hand (sym n ∙ same_Some x (Some hand) e)

pub put_away : (hands : List (Option Hand)) (class : ℕ) (hand : Hand) → class < length hands → HasHand (slice_set hands class None) class hand → ⊥
put_away hands class hand l h = none_there None hand refl (sym (get_set_here hands class None l) ∙ h)

-- the pieces of an agreement at a stage that is known
module _ (m : Keeps) (a : Stand) (here : ℕ → Bool) (g : Agrees m a here) (s : Stage) (is : m.stage ≡ s) where
  pub at_is : AtStage s m a here
  at_is = subst (λ s. AtStage s m a here) is g.at

  pub hands_are : (k : ℕ) (hand : Hand) → HasHand m.hands k hand → InHand a.heap.sizes a.view here s m.class k hand
  hands_are k hand h = subst (λ s. InHand a.heap.sizes a.view here s m.class k hand) is (g.hands k hand h)

  pub held_are : (p : ℕ) (o : Open) → owns a.view p ≡ Some o → IsHeld m.hands p ⊎ IsStaged s p
  held_are p o e = subst (λ s. IsHeld m.hands p ⊎ IsStaged s p) is (g.held p o e)
