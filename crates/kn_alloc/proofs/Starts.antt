-- A request that begins.
use Rattle.std.proofs.Common.{◌≡◌, ℕ, zero, suc, ◌+◌, ◌^◌, ◌<◌, ◌≤◌, ◌==◌, ◌⊎◌, ◌||◌, inl, inr, Bool, true, false, cond}
use Rattle.std.proofs.Common.{List, length, Option, Some, None, replicate, slice_get, slice_set, refl, sym, ap, ◌∙◌, subst, arith, length-set, eq-eqb}
use Rattle.std.proofs.lemmas.Bool.{true≢false}
use Rattle.std.proofs.lemmas.Bool.Decides.{leb_tells}
use Rattle.kn_base.specs.declared.heap.Sizes.{Sizes}
use Rattle.kn_base.specs.declared.classes.TheConstants.{LEAST_CELL, NEXT_FIT_CLASS, SINGLE_CLASS}
use Rattle.kn_base.specs.Pages.{FrameView}
use Rattle.kn_base.specs.Sizes.{frame_count}
use Rattle.kn_base.proofs.Updates.{get_set_else, split_at}
use Rattle.std.proofs.Math.Dec.{leb}
use Rattle.kn_rule.specs.FrameSpans.{frame_span}
use Rattle.kn_rule.specs.Moves.{IsPageOf}
use Rattle.kn_rule.specs.Requests.{InArea, area_count, area_from, area_words, class_for, class_where, is_too_long}
use Rattle.kn_rule.specs.Views.{Open, owns}
use Rattle.kn_page.specs.PageViews.{page_view}
use Rattle.kn_steps.specs.Made.{Stand}
use Rattle.kn_store.specs.Search.{IsOver, Search, count_of, first_of, new_search}
use Rattle.kn_store.specs.Agree.{KnowsSame}
use Rattle.kn_alloc.specs.declared.stage.Hand.{Hand}
use Rattle.kn_alloc.specs.declared.stage.Stage.{Stage}
use Rattle.kn_alloc.specs.declared.stage.Stage.TheVariants.{Resting, Searches, TooLong}
use Rattle.kn_alloc.specs.Keeps.{HasHand, Keeps, Starts, Tries, begun}
use Rattle.kn_alloc.specs.Agree.{Agrees, Asks, HasBegun, InHand, IsGetting, IsHeld, IsStaged, MayRefuse, SearchesFor}
use Rattle.kn_alloc.specs.Tells.{IsKept}
use Rattle.kn_alloc.proofs.Hands.{at_is, hands_are, held_are, others_in_hand, put_in_hand, still_in_hand}
use Rattle.kn_alloc.proofs.Owned.{same_hand}
use Rattle.kn_alloc.proofs.Searched.{in_area_by}
use Rattle.kn_alloc.proofs.Tried.{tried_at, tried_hand, tried_plain}
use Rattle.kn_alloc.proofs.Tries.{class_is}

get_replicate : {A : Type 0} (n : ℕ) (x : A) (i : ℕ) → i < n → slice_get (replicate n x) i ≡ Some x
get_replicate zero x i l = absurd (omega arith)
get_replicate (suc n) x zero l = refl
get_replicate (suc n) x (suc i) l = get_replicate n x i (omega arith)

-- a frame of the area of a class lies in it by number
area_has : (z : Sizes) (p class : ℕ) → class ≤ SINGLE_CLASS → InArea z p class →
    ((leb class NEXT_FIT_CLASS ≡ true) × (class ≤ NEXT_FIT_CLASS)) ⊎ ((leb class NEXT_FIT_CLASS ≡ false) × (NEXT_FIT_CLASS < class)) →
    (area_from z class ≤ p) × (p < area_from z class + area_count z class)
area_has z p class few area (inl t) =
    let n : area_count z class ≡ z.small = ap (λ b. cond b z.small (cond (class == SINGLE_CLASS) z.large z.extra)) t.0 in
    let f : area_from z class ≡ 0 = ap (λ b. cond b 0 (cond (class == SINGLE_CLASS) z.small (z.small + z.large))) t.0 in
    let l = area.small t.1 in (omega arith, omega arith)
area_has z p class few area (inr t) =
    let more = t.1 in
    let e : class ≡ SINGLE_CLASS = omega arith in
    let n : area_count z class ≡ z.large = ap (area_count z) e in
    let f : area_from z class ≡ z.small = ap (area_from z) e in
    let l = area.large e in
    let l0 = l.0 in let l1 = l.1 in (omega arith, omega arith)

or_left : (a b : Bool) → (a || b) ≡ false → b ≡ false
or_left true b e = absurd (cc)
or_left false b e = e

module _ (m : Keeps) (a : Stand) (here : ℕ → Bool) (g : Agrees m a here) (is : m.stage ≡ Resting) (words header epoch : ℕ)
    (began : HasBegun a words header epoch) (low : epoch < 2 ^ 32) (some : LEAST_CELL ≤ words) where
  abbrev class : ℕ
  class = class_for m.sizes words

  -- the request with these pages in hand, at this stage
  abbrev with : List (Option Hand) → Stage → Keeps
  with hands s = begun m words header epoch hands s

  abbrev q : Search
  q = new_search m.search.sizes class m.by epoch

  few : class ≤ SINGLE_CLASS
  few = (class_is m.sizes words some).2

  module _ (fits : is_too_long m.sizes class words ≡ false) where
    asks : (hands : List (Option Hand)) (s : Stage) → Asks (with hands s) a
    asks hands s = record {
      call = began.call;
      is_call = began.is_call;
      is_request = began.is_request;
      class = (λ t. class_for (sym g.sizes t) words) ∙ ap (class_where a.heap.sizes) (sym began.is_request);
      header = began.is_header;
      epoch = began.is_epoch;
      epoch_fits = low;
      some = some;
      fits = fits;
      none_swept = (at_is m a here g Resting is).1;
    }

    near : (i : ℕ) → i < count_of q → first_of q + i < frame_count a.heap.sizes
    unfolding few
    near i l =
        let sizes : m.search.sizes ≡ a.heap.sizes = g.search_sizes ∙ sym g.sizes in
        let counts : count_of q ≡ area_count a.heap.sizes class = (λ t. area_count (sizes t) class) in
        let starts : first_of q ≡ area_from a.heap.sizes class = (λ t. area_from (sizes t) class) in
        let h = (in_area_by a.heap.sizes class i few (omega arith) (leb_tells class NEXT_FIT_CLASS)).1 in
        omega arith

    knows : KnowsSame q a.view.seen a.view.refused
    unfolding near
    knows = record {
      few = omega arith;
      words = λ i l. ap (λ s. slice_get s (first_of q + i)) began.seen ∙ get_replicate (frame_count a.heap.sizes) None (first_of q + i) (near i l);
      flags = λ i l. ap (λ s. slice_get s (first_of q + i)) began.refused ∙ get_replicate (frame_count a.heap.sizes) false
          (first_of q + i) (near i l);
    }

    searches : (hands : List (Option Hand)) (s : Stage) → SearchesFor (with hands s) a
    unfolding asks knows
    searches hands s = record {
      asks = asks hands s;
      none_taken = (at_is m a here g Resting is).0;
      class = refl;
      by = refl;
      epoch = refl;
      same = knows;
    }

    going : ¬ IsOver q
    going over =
        let none : (area_count m.sizes class == 0) ≡ false = or_left (leb (suc (area_words m.sizes class)) words)
        (area_count m.sizes class == 0) fits in
        let counts : count_of q ≡ area_count m.sizes class = (λ t. area_count (g.search_sizes t) class) in
        let e = over.0 in
        true≢false (sym (eq-eqb (area_count m.sizes class) 0 (sym counts ∙ sym e)) ∙ none)

    pub begun_search : slice_get m.hands class ≡ Some None → Agrees (with m.hands Searches) a here
    unfolding searches going
    begun_search no_hand = record {
      good = g.good;
      sizes = g.sizes;
      caller = g.caller;
      thread = g.thread;
      search_sizes = g.search_sizes;
      classes = g.classes;
      hands = λ k hand h. still_in_hand a.heap.sizes a.view a.view here here Resting Searches m.class class k hand
          (hands_are m a here g Resting is k hand h) refl refl (λ o. refl);
      held = λ p o e. held_are m a here g Resting is p o e;
      at = record { search = searches m.hands Searches; no_hand = no_hand; going = going };
    }

    module _ (hand left : Hand) (stage : Stage) (had : HasHand m.hands class hand) (frame : left.frame ≡ hand.frame) (stamp : left.stamp ≡ hand.stamp)
        (tries : Tries (page_view hand.page) words (page_view left.page) stage) where
      in_hand : InHand a.heap.sizes a.view here Resting m.class class hand
      in_hand = hands_are m a here g Resting is class hand had

      short : class < length m.hands
      short = let h = (class_is m.sizes words some).0.1 in let l = g.classes in omega arith

      area : InArea a.heap.sizes left.frame class
      unfolding in_hand
      area = subst (InArea a.heap.sizes left.frame) in_hand.page_class
          (subst (λ p. InArea a.heap.sizes p (page_view hand.page).class) (sym frame) in_hand.page_is.area_is)

      may : MayRefuse q left.frame
      unfolding area few
      may =
          let sizes : m.search.sizes ≡ a.heap.sizes = g.search_sizes ∙ sym g.sizes in
          let h = area_has a.heap.sizes left.frame class few area (leb_tells class NEXT_FIT_CLASS) in
          record {
            area = subst (λ z. (area_from z class ≤ left.frame) × (left.frame < area_from z class + area_count z class)) (sym sizes) h;
            once = inr refl;
          }

      left_hand : InHand a.heap.sizes a.view here stage class class left
      unfolding in_hand area may searches short
      left_hand = tried_hand (with m.hands m.stage) a g.good.sizes here (searches m.hands m.stage) left in_hand.hold
          (ap (owns a.view) frame ∙ in_hand.owned)
          (subst (λ p. p < frame_count a.heap.sizes) (sym frame) in_hand.near) (ap here frame ∙ in_hand.out) in_hand.class_is
          (in_hand.stamp_is ∙ sym stamp) (page_view hand.page) (in_hand.page_is.frame_is ∙ ap (frame_span a.heap.sizes) (sym frame)) area
          in_hand.page_is.free_is in_hand.page_class
          (λ _. subst (λ p. IsPageOf a.heap.sizes p in_hand.hold (page_view hand.page)) (sym frame) in_hand.page_is) stage tries may short

      hands_then : (k : ℕ) (other : Hand) → HasHand (slice_set m.hands class (Some left)) k other →
          InHand a.heap.sizes a.view here stage class k other
      unfolding left_hand short
      hands_then k other h =
          split_at (λ k. HasHand (slice_set m.hands class (Some left)) k other → InHand a.heap.sizes a.view here stage class k other) class
          (λ h. subst (InHand a.heap.sizes a.view here stage class class)
          (same_hand (slice_set m.hands class (Some left)) class left other (put_in_hand m.hands class left short) h) left_hand) k
          (λ ne h. still_in_hand a.heap.sizes a.view a.view here here Resting stage m.class class k other
          (hands_are m a here g Resting is k other (others_in_hand m.hands class (Some left) k other ne h)) refl refl
          (λ o. tried_plain a.heap.sizes (with m.hands m.stage) left stage (page_view hand.page) tries k other.frame o (λ e. ne (sym e)))) h

      held_then : (p : ℕ) (o : Open) → owns a.view p ≡ Some o → IsHeld (slice_set m.hands class (Some left)) p ⊎ IsStaged stage p
      unfolding short
      held_then p o e = by (held_are m a here g Resting is p o e)
        where
          at : (k : ℕ) (other : Hand) → HasHand m.hands k other → other.frame ≡ p → IsHeld (slice_set m.hands class (Some left)) p
          at k other h f =
              split_at (λ k. HasHand m.hands k other → IsHeld (slice_set m.hands class (Some left)) p) class
              (λ h. (
                class,
                left,
                put_in_hand m.hands class left short,
                frame ∙ ap (λ (h : Hand). h.frame)
                    (same_hand m.hands class hand other had h) ∙ f,
              )) k
              (λ ne h. (k, other, get_set_else m.hands class (Some left) k ne ∙ h, f)) h

          by : IsHeld m.hands p ⊎ ⊥ → IsHeld (slice_set m.hands class (Some left)) p ⊎ IsStaged stage p
          by (inl h) = inl (at h.0 h.1 h.2 h.3)
          by (inr h) = absurd h

      pub begun_hand : Agrees (with (slice_set m.hands class (Some left)) stage) a here
      unfolding in_hand area may searches short
      begun_hand = record {
        good = g.good;
        sizes = g.sizes;
        caller = g.caller;
        thread = g.thread;
        search_sizes = g.search_sizes;
        classes = length-set m.hands class (Some left) ∙ g.classes;
        hands = hands_then;
        held = held_then;
        at = tried_at (with m.hands m.stage) a g.good.sizes here (searches m.hands m.stage) left in_hand.hold (ap (owns a.view) frame ∙ in_hand.owned)
            (subst (λ p. p < frame_count a.heap.sizes) (sym frame) in_hand.near) (ap here frame ∙ in_hand.out) in_hand.class_is
            (in_hand.stamp_is ∙ sym stamp) (page_view hand.page) (in_hand.page_is.frame_is ∙ ap (frame_span a.heap.sizes) (sym frame)) area
            in_hand.page_is.free_is in_hand.page_class
            (λ _. subst (λ p. IsPageOf a.heap.sizes p in_hand.hold (page_view hand.page)) (sym frame) in_hand.page_is) stage tries may short tries;
      }

  begun_long : Agrees (with m.hands TooLong) a here
  begun_long = record {
    good = g.good;
    sizes = g.sizes;
    caller = g.caller;
    thread = g.thread;
    search_sizes = g.search_sizes;
    classes = g.classes;
    hands = λ k hand h. still_in_hand a.heap.sizes a.view a.view here here Resting TooLong m.class class k hand
        (hands_are m a here g Resting is k hand h) refl refl (λ o. refl);
    held = λ p o e. held_are m a here g Resting is p o e;
    at = at_is m a here g Resting is;
  }

  -- the agreement behind the beginning of a request
  pub started : (m' : Keeps) → Starts m words header epoch m' → Agrees m' a here
  started m' (inl h) = subst (λ (k : Keeps). Agrees k a here) (sym h.1) begun_long
  started m' (inr (fits, inl h)) = subst (λ (k : Keeps). Agrees k a here) (sym h.1) (begun_search fits h.0)
  started m' (inr (fits, inr (hand, had, t))) =
      subst (λ (k : Keeps). Agrees k a here) (sym t.after) (begun_hand fits hand t.left t.stage had t.frame t.stamp t.tries)

tried_gets : (page left : FrameView) (n : ℕ) (stage : Stage) → Tries page n left stage → IsGetting stage
tried_gets page left n stage (inl t) = subst IsGetting (sym t.2) tt
tried_gets page left n stage (inr t) = subst IsGetting (sym t.2) tt

-- behind the beginning of a request that is not too long a cell is being got for it
pub begun_gets : (m : Keeps) (words header epoch : ℕ) (m' : Keeps) → Starts m words header epoch m' →
    is_too_long m.sizes (class_for m.sizes words) words ≡ false → IsGetting m'.stage
begun_gets m words header epoch m' (inl h) fits = absurd (true≢false (sym h.0 ∙ fits))
begun_gets m words header epoch m' (inr (f, inl h)) fits = subst (λ (k : Keeps). IsGetting k.stage) (sym h.1) tt
begun_gets m words header epoch m' (inr (f, inr (hand, had, t))) fits =
    subst (λ (k : Keeps). IsGetting k.stage) (sym t.after) (tried_gets (page_view hand.page) (page_view t.left.page) words t.stage t.tries)

pub begun_kept : (m : Keeps) (words header epoch : ℕ) (m' : Keeps) → Starts m words header epoch m' → IsKept m m'
begun_kept m words header epoch m' (inl h) = subst (IsKept m) (sym h.1) (refl, refl)
begun_kept m words header epoch m' (inr (f, inl h)) = subst (IsKept m) (sym h.1) (refl, refl)
begun_kept m words header epoch m' (inr (f, inr (hand, had, t))) = subst (IsKept m) (sym t.after) (refl, refl)
