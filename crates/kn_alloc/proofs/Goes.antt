-- Pages in hand go home.
use Rattle.std.proofs.Common.{◌≡◌, ◌≢◌, ℕ, zero, suc, IsTrue, ◌<◌, ◌≤◌, ◌⊎◌, ◌↔◌, inl, inr, Bool, true, cond, List, []}
use Rattle.std.proofs.Common.{◌∷◌, length, Option, Some, None, is_some, slice_get, slice_set, get_or, ne_eqb, refl, sym, ap, ◌∙◌, subst, arith}
use Rattle.std.proofs.Common.{length-set}
use Rattle.std.proofs.lemmas.Bool.{cases_lt, true≢false}
use Rattle.std.proofs.lemmas.Option.{none-some, same_Some}
use Rattle.kn_base.specs.declared.heap.Sizes.{Sizes}
use Rattle.kn_base.specs.declared.places.Place.TheVariants.{Frame}
use Rattle.kn_base.specs.declared.classes.TheConstants.{SINGLE_CLASS}
use Rattle.kn_base.specs.Functions.{upd}
use Rattle.kn_rule.specs.declared.positions.Position.{Position}
use Rattle.kn_rule.specs.declared.positions.Position.TheVariants as positions
use Rattle.kn_rule.specs.declared.steps.Action.TheVariants.{Stores}
use Rattle.kn_rule.specs.declared.steps.Kind.TheVariants.{K11}
use Rattle.kn_rule.specs.Allowed.{MayGiveBack}
use Rattle.kn_rule.specs.Outcomes.{given_back, home_at}
use Rattle.kn_rule.specs.Steps.{Found, does, logged, quietly}
use Rattle.kn_rule.specs.Views.{Open, View}
use Rattle.kn_steps.specs.Made.{LieAs, Made, Stand}
use Rattle.kn_alloc.specs.declared.stage.Hand.{Hand}
use Rattle.kn_alloc.specs.declared.stage.Stage.TheVariants.{PutsHome, Resting}
use Rattle.kn_alloc.specs.Keeps.{HasHand, Keeps, home_number}
use Rattle.kn_alloc.specs.Homes.{IsFirstHome, home_rank}
use Rattle.kn_alloc.specs.Agree.{Agrees, GoesHome, IsNoCall, IsQuiet, IsStaged, held_as}
use Rattle.kn_alloc.proofs.Hands.{at_is}
use Rattle.kn_alloc.proofs.Refusals.{hands_stay, held_stays, may_give_back}
use Rattle.kn_alloc.proofs.Returns.{hands_left, held_left, home_then}

pub sent : (m : Keeps) (a : Stand) (here : ℕ → Bool) (g : Agrees m a here) → m.stage ≡ Resting → (class : ℕ) (hand : Hand) →
    HasHand m.hands class hand →
    (word : ℕ) → word ≡ home_number hand → (here' : ℕ → Bool) → LieAs a.view (upd here hand.frame true) here' →
    Agrees (record m { hands = slice_set m.hands class None; stage = PutsHome hand.frame word }) a here'
sent m a here g is class hand had word e here' lies =
    let plain : (z : Sizes) (class k p : ℕ) (o : Open) → held_as z Resting class k p o ≡ o = λ z class k p o. refl in
    let none : (p : ℕ) → IsStaged Resting p → ⊥ = λ p h. h in
    let s' = PutsHome hand.frame word in
    record {
      good = g.good;
      sizes = g.sizes;
      caller = g.caller;
      thread = g.thread;
      search_sizes = g.search_sizes;
      classes = length-set m.hands class None ∙ g.classes;
      hands = hands_left m a here g Resting is plain none class hand had here' lies s' (λ z class k p o. refl);
      held = held_left m a here g Resting is plain none class hand had here' lies s' (λ z class k p o. refl);
      at = (at_is m a here g Resting is, home_then m a here g Resting is plain none class hand had here' lies s' (λ z class k p o. refl) word e);
    }

-- outside a call a frame is given back, and nothing is answered
module _ (a b : Stand) (here here' : ℕ → Bool) (p word : ℕ) (f : Found) (made : Made a here (does K11 (Frame p) (Stores word)) f b here') where
  home_is : (position : Position) → IsNoCall position →
      home_at a.heap a.by a.view (Frame p) (Stores word) f position ≡ quietly (given_back a.heap a.by a.view (Frame p) (Stores word) f)
  home_is positions.Out h = refl
  home_is positions.Entering h = refl
  home_is positions.Between h = refl
  home_is (positions.Calling call) h = absurd h
  home_is (positions.Writing r w n) h = refl
  home_is (positions.Dropping x) h = refl
  home_is (positions.Adding n) h = refl
  home_is positions.Waiting h = refl
  home_is positions.Leaving h = refl
  home_is positions.Ended h = refl

  pub given_view : IsNoCall a.view.position → b ≡ record a { view = record a.view { owned = slice_set a.view.owned p None } }
  given_view no_call = made.view ∙ (λ t. record a { view = logged (home_is a.view.position no_call t) })

module _ (m : Keeps) (a : Stand) (here : ℕ → Bool) (g : Agrees m a here) (p word : ℕ) (is : m.stage ≡ PutsHome p word) where
  due : IsQuiet a.view × GoesHome a.heap.sizes a.view here p word
  due = at_is m a here g (PutsHome p word) is

  pub may_give_home : MayGiveBack a.heap a.by a.view here (Frame p) (Stores word)
  unfolding due
  may_give_home = may_give_back m a here g (PutsHome p word) is (λ z class k p o. refl) p word (λ q h. h) due.1 due.0.0 due.0.1

  pub gave_home : (b : Stand) (here' : ℕ → Bool) (f : Found) → Made a here (does K11 (Frame p) (Stores word)) f b here' → IsNoCall a.view.position →
      Agrees (record m { stage = Resting }) b here'
  unfolding due
  gave_home b here' f made no_call =
      let v' : View = record a.view { owned = slice_set a.view.owned p None } in
      let view : b ≡ record a { view = v' } = given_view a b here here' p word f made no_call in
      let lies = subst (λ (b : Stand). LieAs b.view here here') view made.lies in
      subst (λ (b : Stand). Agrees (record m { stage = Resting }) b here') (sym view) (record {
        good = g.good;
        sizes = g.sizes;
        caller = g.caller;
        thread = g.thread;
        search_sizes = g.search_sizes;
        classes = g.classes;
        hands = hands_stay m a here g (PutsHome p word) is (λ z class k p o. refl) p word (λ q h. h) due.1 v' refl here' lies Resting
            (λ z class k p o. refl);
        held = held_stays m a here g (PutsHome p word) is (λ z class k p o. refl) p word (λ q h. h) due.1 v' refl here' lies Resting;
        at = due.0;
      })

-- an element of a list that was indexed is the one there
pub index_told : {A : Type 0} (l : List A) (k : ℕ) (x : A) → k < length l → x ≡ get_or l k x → slice_get l k ≡ Some x
index_told [] k x h e = absurd (omega arith)
index_told (y ∷ l) zero x h e = ap Some (sym e)
index_told (y ∷ l) (suc k) x h e = index_told l k x (omega arith) e

pub hand_told : (hands : List (Option Hand)) (k : ℕ) (x : Option Hand) (r : Bool) → slice_get hands k ≡ Some x → r ≡ is_some x →
    IsTrue r ↔ ((hand : Hand) × HasHand hands k hand)
hand_told hands k None r e is = (
  λ t. absurd (true≢false (sym t ∙ is)),
  λ h. absurd (none-some h.0 (same_Some None (Some h.0) (sym e ∙ h.1))),
)
hand_told hands k (Some hand) r e is = (λ t. (hand, e), λ h. is)

-- the first page in hand behind the single one goes home first
rank_by : (j : ℕ) → j ≢ SINGLE_CLASS → home_rank j ≡ j
rank_by j ne = ap (λ b. cond b 0 j) (ne_eqb j SINGLE_CLASS ne)

pub first_home : (hands : List (Option Hand)) (class : ℕ) (hand : Hand) → (((h : Hand) × HasHand hands SINGLE_CLASS h) → ⊥) →
    ((k : ℕ) (h : Hand) → k < class → ¬ HasHand hands k h) → HasHand hands class hand → IsFirstHome hands class hand
first_home hands class hand none before had = record { had = had; first = first }
  where
    single : (k : ℕ) (h : Hand) → HasHand hands k h → k ≢ SINGLE_CLASS
    single k h at e = none (h, subst (λ k. HasHand hands k h) e at)

    above : (j : ℕ) (h : Hand) → HasHand hands j h → (j < class) ⊎ (class ≤ j) → class ≤ j
    above j h at (inl l) = absurd (before j h l at)
    above j h at (inr l) = l

    first : (j : ℕ) (other : Hand) → HasHand hands j other → home_rank class ≤ home_rank j
    first j other at =
        let a = rank_by class (single class hand had) in
        let b = rank_by j (single j other at) in
        let l = above j other at (cases_lt j class) in
        omega arith
