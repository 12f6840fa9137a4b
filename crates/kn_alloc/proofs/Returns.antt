-- A page in hand goes back to its slot.
use Rattle.std.proofs.Common.{◌≡◌, ◌≢◌, ℕ, ◌<◌, ◌≤◌, ◌==◌, ◌⊎◌, inl, inr, Bool, true, false, ◌&&◌, ◌||◌, not, List}
use Rattle.std.proofs.Common.{length, Option, Some, None, slice_set, refl, sym, ap, ◌∙◌, subst, eq-eqb, length-set}
use Rattle.std.proofs.lemmas.Option.{slice_get_within}
use Rattle.kn_base.specs.declared.heap.Sizes.{Sizes}
use Rattle.kn_base.specs.declared.kinds.FrameKind.TheVariants as frames
use Rattle.kn_base.specs.declared.frame_word.FrameWord.{FrameWord}
use Rattle.kn_base.specs.declared.classes.TheConstants.{SINGLE_CLASS}
use Rattle.kn_base.specs.Functions.{upd}
use Rattle.kn_base.specs.Pages.{FrameView}
use Rattle.kn_base.specs.Words.{packed_frame}
use Rattle.kn_base.proofs.Updates.{get_set_here, get_set_else, split_at, upd_else, upd_here}
use Rattle.kn_graph.specs.declared.calls.Call.{Call}
use Rattle.kn_graph.specs.Ground.{Ground}
use Rattle.kn_rule.specs.Decoding.{frame_of}
use Rattle.kn_rule.specs.FrameSpans.{frame_span}
use Rattle.kn_rule.specs.Moves.{IsPageOf, IsPageOfOwned}
use Rattle.kn_rule.specs.Requests.{class_asked, class_for, class_where, has_span, home_word, is_whole}
use Rattle.kn_rule.specs.Searches.{refuses}
use Rattle.kn_rule.specs.Views.{Open, owns}
use Rattle.kn_page.specs.PageViews.{page_view}
use Rattle.kn_steps.specs.Made.{LieAs, MayMove, Stand}
use Rattle.kn_alloc.specs.declared.stage.Hand.{Hand}
use Rattle.kn_alloc.specs.declared.stage.Stage.{Stage}
use Rattle.kn_alloc.specs.declared.stage.Stage.TheVariants.{Refuses, Returns}
use Rattle.kn_base.specs.Classes.{IsClassNumber}
use Rattle.kn_alloc.specs.Cells.{AsksFor, CannotServe}
use Rattle.kn_alloc.specs.Keeps.{HasHand, Keeps, home_number}
use Rattle.kn_alloc.specs.Agree.{Agrees, Asks, GoesHome, MayRefuse, InHand, IsHeld, IsStaged, SearchesFor, held_as}
use Rattle.kn_alloc.proofs.Hands.{at_is, hands_are, held_are, others_in_hand, put_away, still_in_hand}
use Rattle.kn_alloc.proofs.HomeWords.{home_same}
use Rattle.kn_alloc.proofs.Owned.{asks_still, same_hand, same_open}
use Rattle.kn_alloc.proofs.Tries.{class_is}

-- the class of a request is that of its words
pub class_told : (m : Keeps) (a : Stand) → a.heap.sizes ≡ m.sizes → Asks m a → m.class ≡ class_for a.heap.sizes m.words
class_told m a sizes h = h.class ∙ ap (class_where a.heap.sizes) h.is_request

pub class_fits : (m : Keeps) (a : Stand) → a.heap.sizes ≡ m.sizes → Asks m a →
    IsClassNumber m.class × AsksFor m.class m.words × (m.class ≤ SINGLE_CLASS)
class_fits m a sizes h =
    subst (λ k. IsClassNumber k × AsksFor k m.words × (k ≤ SINGLE_CLASS)) (sym (class_told m a sizes h)) (class_is a.heap.sizes m.words h.some)

any_or_true : (b : Bool) → (b || true) ≡ true
any_or_true true = refl
any_or_true false = refl

-- a page that has no cell for the request is refused
module _ (z : Ground) (call : Call) (n p : ℕ) (o : Open) (page : FrameView) (is : IsPageOf z.sizes p o page) where
  abbrev test : Bool → Bool → Bool → Bool → Bool
  test s d w h = ((s || not d) && not w) || not h

  abbrev same_class : Bool
  same_class = (frame_of o.word).class == class_asked z call

  pub refused_told : CannotServe page n → refuses z call (Some n) p o ≡ true
  refused_told (inl c) =
      let whole : is_whole (frame_span z.sizes p) o.free ≡ false =
      (λ t. is_whole (sym is.frame_is t) (sym is.free_is t)) ∙ c.1 in
      let single : ((frame_of o.word).class == SINGLE_CLASS) ≡ true = eq-eqb (frame_of o.word).class SINGLE_CLASS (sym (is.class_is whole) ∙ c.0) in
      λ t. test (single t) same_class (whole t) (has_span n o.free)
  refused_told (inr e) =
      let none : has_span n o.free ≡ false = ap (has_span n) (sym is.free_is) ∙ e in
      (λ t. test ((frame_of o.word).class == SINGLE_CLASS) same_class (is_whole (frame_span z.sizes p) o.free) (none t))
      ∙ any_or_true (((frame_of o.word).class == SINGLE_CLASS || not same_class) && not (is_whole (frame_span z.sizes p) o.free))

-- the word with which the frame of a page in hand is given back
pub home_told : (z : Sizes) (hand : Hand) (o : Open) → IsPageOf z hand.frame o (page_view hand.page) →
    (page_view hand.page).class ≡ (frame_of o.word).class → (frame_of o.word).stamp ≡ hand.stamp →
    home_number hand ≡ packed_frame (home_word (frame_span z hand.frame) (frame_of o.word) o.free)
home_told z hand o is class stamp =
    let page = page_view hand.page in
    let v : FrameWord = record { kind = frames.Owned; class = page.class; stamp = hand.stamp; seat = 0 } in
    ap packed_frame (home_same page.frame v (frame_of o.word) page.free class (sym stamp))
    ∙ (λ t. packed_frame (home_word (is.frame_is t) (frame_of o.word) (is.free_is t)))

-- the page of a hand that is put away lies in its slot, and its frame goes home
module _ (m : Keeps) (a : Stand) (here : ℕ → Bool) (g : Agrees m a here) (s : Stage) (is : m.stage ≡ s)
    (plain : (z : Sizes) (class k p : ℕ) (o : Open) → held_as z s class k p o ≡ o) (none : (p : ℕ) → IsStaged s p → ⊥)
    (class : ℕ) (hand : Hand) (had : HasHand m.hands class hand) where
  the_hand : InHand a.heap.sizes a.view here s m.class class hand
  the_hand = hands_are m a here g s is class hand had

  own_page : IsPageOf a.heap.sizes hand.frame the_hand.hold (page_view hand.page)
  own_page =
      subst (λ (o : Open). IsPageOf a.heap.sizes hand.frame o (page_view hand.page)) (plain a.heap.sizes m.class class hand.frame the_hand.hold)
      the_hand.page_is

  pub may_go_back : MayMove a here hand.frame (Some (page_view hand.page))
  unfolding the_hand own_page
  may_go_back = (
    the_hand.hold,
    the_hand.owned,
    (the_hand.out, subst (λ x. IsPageOfOwned a.heap hand.frame x (page_view hand.page)) (sym the_hand.owned) own_page),
  )

  near_hands : class < length m.hands
  near_hands = slice_get_within m.hands class (Some hand) had

  module _ (here' : ℕ → Bool) (lies : LieAs a.view (upd here hand.frame true) here') (s' : Stage)
      (plain' : (z : Sizes) (class k p : ℕ) (o : Open) → held_as z s' class k p o ≡ o) where
    pub hands_left : (k : ℕ) (other : Hand) → HasHand (slice_set m.hands class None) k other →
        InHand a.heap.sizes a.view here' s' m.class k other
    unfolding the_hand near_hands
    hands_left k other h =
        split_at (λ k. HasHand (slice_set m.hands class None) k other → InHand a.heap.sizes a.view here' s' m.class k other) class
        (λ h. absurd (put_away m.hands class other near_hands h)) k
        (λ ne h.
        let other_is = hands_are m a here g s is k other (others_in_hand m.hands class None k other ne h) in
        let apart : hand.frame ≢ other.frame = λ e.
        let same = same_open a.view hand.frame other.frame the_hand.hold other_is.hold e the_hand.owned other_is.owned in
        ne (sym the_hand.class_is ∙ (ap (λ (o : Open). (frame_of o.word).class) same ∙ other_is.class_is)) in
        still_in_hand a.heap.sizes a.view a.view here here' s s' m.class m.class k other other_is refl
        (lies other.frame other_is.hold other_is.owned ∙ upd_else here hand.frame true other.frame apart)
        (λ o. plain' a.heap.sizes m.class k other.frame o ∙ sym (plain a.heap.sizes m.class k other.frame o))) h

    pub held_left : (p : ℕ) (o : Open) → owns a.view p ≡ Some o → IsHeld (slice_set m.hands class None) p ⊎ (hand.frame ≡ p)
    held_left p o e = by (held_are m a here g s is p o e)
      where
        at : (k : ℕ) (other : Hand) → HasHand m.hands k other → other.frame ≡ p → IsHeld (slice_set m.hands class None) p ⊎ (hand.frame ≡ p)
        at k other h f =
            split_at (λ k. HasHand m.hands k other → IsHeld (slice_set m.hands class None) p ⊎ (hand.frame ≡ p)) class
            (λ h. inr (ap (λ (h : Hand). h.frame) (same_hand m.hands class hand other had h) ∙ f)) k
            (λ ne h. inl (k, other, get_set_else m.hands class None k ne ∙ h, f)) h

        by : IsHeld m.hands p ⊎ IsStaged s p → IsHeld (slice_set m.hands class None) p ⊎ (hand.frame ≡ p)
        by (inl h) = at h.0 h.1 h.2 h.3
        by (inr h) = absurd (none p h)

    pub home_then : (word : ℕ) → word ≡ home_number hand → GoesHome a.heap.sizes a.view here' hand.frame word
    unfolding the_hand own_page
    home_then word e = record {
      home = record {
        hold = the_hand.hold;
        owned = the_hand.owned;
        near = the_hand.near;
        lies = lies hand.frame the_hand.hold the_hand.owned ∙ upd_here here hand.frame true;
      };
      is_word = e ∙ home_told a.heap.sizes hand the_hand.hold own_page (the_hand.page_class ∙ sym the_hand.class_is) the_hand.stamp_is;
    }

-- a search goes on where its view stands as it did
pub search_still : (m : Keeps) (a : Stand) (s : Stage) (hands : List (Option Hand)) → SearchesFor m a →
    SearchesFor (record m { stage = s; hands = hands }) a
search_still m a s hands h = record {
  asks = asks_still m a s hands m.search a.view h.asks refl refl refl;
  none_taken = h.none_taken;
  class = h.class;
  by = h.by;
  epoch = h.epoch;
  same = h.same;
}

pub returned : (m : Keeps) (a : Stand) (here : ℕ → Bool) (g : Agrees m a here) → m.stage ≡ Returns → (hand : Hand) →
    HasHand m.hands m.class hand →
    (word : ℕ) → word ≡ home_number hand → (here' : ℕ → Bool) → LieAs a.view (upd here hand.frame true) here' →
    Agrees (record m { hands = slice_set m.hands m.class None; stage = Refuses hand.frame word }) a here'
unfolding the_hand own_page
returned m a here g is hand had word e here' lies =
    let plain : (z : Sizes) (class k p : ℕ) (o : Open) → held_as z Returns class k p o ≡ o = λ z class k p o. refl in
    let none : (p : ℕ) → IsStaged Returns p → ⊥ = λ p h. h in
    let due = at_is m a here g Returns is in
    let same = same_hand m.hands m.class due.hand hand due.had had in
    let s' = Refuses hand.frame word in
    let hands' = slice_set m.hands m.class None in
    record {
      good = g.good;
      sizes = g.sizes;
      caller = g.caller;
      thread = g.thread;
      search_sizes = g.search_sizes;
      classes = length-set m.hands m.class None ∙ g.classes;
      hands = hands_left m a here g Returns is plain none m.class hand had here' lies s' (λ z class k p o. refl);
      held = held_left m a here g Returns is plain none m.class hand had here' lies s' (λ z class k p o. refl);
      at = record {
        search = search_still m a s' hands' due.search;
        no_hand = get_set_here m.hands m.class None (slice_get_within m.hands m.class (Some hand) had);
        home = home_then m a here g Returns is plain none m.class hand had here' lies s' (λ z class k p o. refl) word e;
        refused = λ call o at own.
            let mine = the_hand m a here g Returns is plain none m.class hand had in
            let same_o = same_open a.view hand.frame hand.frame mine.hold o refl mine.owned own in
            refused_told a.heap call m.words hand.frame o (page_view hand.page)
            (subst (λ (o : Open). IsPageOf a.heap.sizes hand.frame o (page_view hand.page)) same_o
            (own_page m a here g Returns is plain none m.class hand had))
            (subst (λ (h : Hand). CannotServe (page_view h.page) m.words) same due.cannot);
        may = subst (λ (h : Hand). MayRefuse m.search h.frame) same due.may;
      };
    }
