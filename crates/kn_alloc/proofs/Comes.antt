-- The page of a frame that was claimed comes into the hand.
use Rattle.std.proofs.Common.{◌≡◌, ◌≢◌, ℕ, ◌^◌, ◌<◌, ◌≤◌, ◌⊎◌, inl, inr, Bool, true, false, List, [], ◌∷◌, length, Some}
use Rattle.std.proofs.Common.{None, slice_set, refl, sym, ap, ◌∙◌, subst, arith, length-set}
use Rattle.std.proofs.lemmas.Bool.{eqb-true, true≢false}
use Rattle.std.proofs.lemmas.Option.{none-some, same_Some}
use Rattle.kn_base.specs.declared.heap.Sizes.{Sizes}
use Rattle.kn_base.specs.declared.numbers.Span.{Span}
use Rattle.kn_base.specs.declared.kinds.FrameKind.{FrameKind}
use Rattle.kn_base.specs.declared.kinds.FrameKind.TheVariants as frames
use Rattle.kn_base.specs.declared.frame_word.FrameWord.{FrameWord}
use Rattle.kn_base.specs.declared.classes.TheConstants.{SINGLE_CLASS}
use Rattle.kn_base.specs.Classes.{IsClassNumber}
use Rattle.kn_base.specs.Functions.{upd}
use Rattle.kn_base.specs.Pages.{FrameView, whole_view}
use Rattle.kn_base.specs.Sizes.{frame_count}
use Rattle.kn_base.specs.Words.{HasClass, HasStamp, IsFrameWord}
use Rattle.kn_base.proofs.Updates.{get_set_else, split_at, upd_else, upd_here}
use Rattle.kn_rule.specs.Decoding.{frame_of}
use Rattle.kn_rule.specs.FrameSpans.{frame_span}
use Rattle.kn_rule.specs.Moves.{IsPageOf, IsPageOfOwned}
use Rattle.kn_rule.specs.Requests.{InArea, is_too_long, is_usable_as, owned_as}
use Rattle.kn_rule.specs.Views.{Open, owns}
use Rattle.kn_rule.proofs.Decodings.{frame_packed}
use Rattle.kn_page.specs.PageViews.{page_view}
use Rattle.kn_steps.specs.Made.{Gives, LieAs, MayMove, Stand}
use Rattle.kn_alloc.specs.declared.stage.Hand.{Hand}
use Rattle.kn_alloc.specs.declared.stage.Stage.{Stage}
use Rattle.kn_alloc.specs.declared.stage.Stage.TheVariants.{Takes}
use Rattle.kn_alloc.specs.Cells.{AsksFor, CannotServe}
use Rattle.kn_alloc.specs.Keeps.{HasHand, Keeps, Tries, claim_word, readied}
use Rattle.kn_alloc.specs.Agree.{Agrees, InHand, IsHeld, IsOpenAs, IsStaged, IsToTake, MayRefuse}
use Rattle.kn_alloc.proofs.Hands.{at_is, hands_are, held_are, others_in_hand, put_in_hand, still_in_hand}
use Rattle.kn_alloc.proofs.Owned.{same_hand}
use Rattle.kn_alloc.proofs.Returns.{class_fits}
use Rattle.kn_alloc.proofs.Tried.{tried_at, tried_hand, tried_plain, whole_serves}

-- the word with which a frame is claimed is in range, and of the class
claim_fits : (v : FrameWord) (class epoch by : ℕ) → IsFrameWord v → IsClassNumber class → epoch < 2 ^ 32 → by ≤ 17 → (kind : FrameKind) →
    v.kind ≡ kind → IsFrameWord (owned_as v class epoch by kind)
claim_fits v class epoch by fits number low few frames.Vacant e = record { of_class = number; of_stamp = low; of_seat = few }
claim_fits v class epoch by fits number low few frames.Empty e = record { of_class = number; of_stamp = low; of_seat = few }
claim_fits v class epoch by fits number low few frames.Ready e = record {
  of_class = subst (λ k. HasClass k v.class) e fits.of_class;
  of_stamp = subst (λ k. HasStamp k v.stamp) e fits.of_stamp;
  of_seat = few;
}
claim_fits v class epoch by fits number low few frames.Used e = record {
  of_class = subst (λ k. HasClass k v.class) e fits.of_class;
  of_stamp = subst (λ k. HasStamp k v.stamp) e fits.of_stamp;
  of_seat = few;
}
claim_fits v class epoch by fits number low few frames.Unswept e = record {
  of_class = subst (λ k. HasClass k v.class) e fits.of_class;
  of_stamp = subst (λ k. HasStamp k v.stamp) e fits.of_stamp;
  of_seat = few;
}
claim_fits v class epoch by fits number low few frames.Owned e = record {
  of_class = subst (λ k. HasClass k v.class) e fits.of_class;
  of_stamp = subst (λ k. HasStamp k v.stamp) e fits.of_stamp;
  of_seat = few;
}

claim_class : (v : FrameWord) (class epoch by : ℕ) (kind : FrameKind) (frame : Span) (free : List Span) → is_usable_as class v kind ≡ true →
    IsOpenAs kind frame free → (owned_as v class epoch by kind).class ≡ class
claim_class v class epoch by frames.Vacant frame free usable state = refl
claim_class v class epoch by frames.Empty frame free usable state = refl
claim_class v class epoch by frames.Ready frame free usable state = eqb-true v.class class usable
claim_class v class epoch by frames.Used frame free usable state = absurd state
claim_class v class epoch by frames.Unswept frame free usable state = absurd state
claim_class v class epoch by frames.Owned frame free usable state = absurd state

-- what the page of the frame is as it is asked for a cell
pub record IsAsked (z : Sizes) (p class n : ℕ) (hold : Open) (page : FrameView) : Type 0 where
  pub frame_is : page.frame ≡ frame_span z p
  pub free_is : page.free ≡ hold.free
  pub class_is : page.class ≡ class
  pub own : CannotServe page n → IsPageOf z p hold page

module _ (z : Sizes) (p class n : ℕ) (hold : Open) (area : InArea z p class) (few : class ≤ SINGLE_CLASS) (fits : is_too_long z class n ≡ false)
    (same : (frame_of hold.word).class ≡ class) (page : FrameView) (is : IsPageOf z p hold page) where
  fresh : hold.free ≡ frame_span z p ∷ [] → IsAsked z p class n hold (whole_view class page.frame)
  fresh whole = record {
    frame_is = is.frame_is;
    free_is = ap (λ (f : Span). f ∷ []) is.frame_is ∙ sym whole;
    class_is = refl;
    own = λ c. absurd (whole_serves z p class n area few fits (subst (λ f. CannotServe (whole_view class f) n) is.frame_is c));
  }

  pub is_asked : (kind : FrameKind) → IsOpenAs kind (frame_span z p) hold.free → IsAsked z p class n hold (readied kind class page)
  is_asked frames.Vacant state = fresh state
  is_asked frames.Empty state = fresh state
  is_asked frames.Ready state = record { frame_is = is.frame_is; free_is = is.free_is; class_is = is.class_is state ∙ same; own = λ _. is }
  is_asked frames.Used state = absurd state
  is_asked frames.Unswept state = absurd state
  is_asked frames.Owned state = absurd state

module _ (m : Keeps) (a : Stand) (here : ℕ → Bool) (g : Agrees m a here) (p old : ℕ) (is : m.stage ≡ Takes p old) where
  pub due : IsToTake p old m a here
  due = at_is m a here g (Takes p old) is

  pub may_come : MayMove a here p None
  unfolding due
  may_come = (due.home.hold, due.home.owned, due.home.lies)

  number : IsClassNumber m.class × AsksFor m.class m.words × (m.class ≤ SINGLE_CLASS)
  unfolding due
  number = class_fits m a g.sizes due.search.asks

  word_is : frame_of due.home.hold.word ≡ claim_word m old
  unfolding due number
  word_is =
      ap frame_of due.is_word
      ∙ frame_packed (claim_word m old) (claim_fits (frame_of old) m.class m.epoch m.by due.packs.ranges number.0 due.search.asks.epoch_fits
      (let t = g.thread in let h = g.good.sizes.of_threads.threads.1 in omega arith) (frame_of old).kind refl)

  same : (frame_of due.home.hold.word).class ≡ m.class
  unfolding due word_is
  same =
      ap (λ (w : FrameWord). w.class) word_is
      ∙ claim_class (frame_of old) m.class m.epoch m.by (frame_of old).kind (frame_span a.heap.sizes p) due.home.hold.free due.usable due.state

  module _ (page : FrameView) (own : IsPageOf a.heap.sizes p due.home.hold page) where
    asked : IsAsked a.heap.sizes p m.class m.words due.home.hold (readied (frame_of old).kind m.class page)
    unfolding due number same
    asked = is_asked a.heap.sizes p m.class m.words due.home.hold due.in_area number.2
        (subst (λ z. is_too_long z m.class m.words ≡ false) (sym g.sizes) due.search.asks.fits) same page own (frame_of old).kind due.state

    pub asks_right : AsksFor (readied (frame_of old).kind m.class page).class m.words
    unfolding asked number
    asks_right = subst (λ k. AsksFor k m.words) (sym asked.class_is) number.1

    module _ (left : Hand) (frame : left.frame ≡ p) (stamp : left.stamp ≡ (claim_word m old).stamp) (stage : Stage)
        (tries : Tries (readied (frame_of old).kind m.class page) m.words (page_view left.page) stage) (here' : ℕ → Bool)
        (lies : LieAs a.view (upd here p false) here') where
      short : m.class < length m.hands
      unfolding number
      short = let h = number.0.1 in let l = g.classes in omega arith

      left_hand : InHand a.heap.sizes a.view here' stage m.class m.class left
      unfolding due asked same short word_is
      left_hand =
          tried_hand m a g.good.sizes here' due.search left due.home.hold (ap (owns a.view) frame ∙ due.home.owned)
          (subst (λ k. k < frame_count a.heap.sizes) (sym frame) due.home.near)
          (ap here' frame ∙ (lies p due.home.hold due.home.owned ∙ upd_here here p false)) same
          (ap (λ (w : FrameWord). w.stamp) word_is ∙ sym stamp) (readied (frame_of old).kind m.class page)
          (asked.frame_is ∙ ap (frame_span a.heap.sizes) (sym frame)) (subst (λ k. InArea a.heap.sizes k m.class) (sym frame) due.in_area)
          asked.free_is asked.class_is (λ c. subst (λ k. IsPageOf a.heap.sizes k due.home.hold (readied (frame_of old).kind m.class page))
          (sym frame) (asked.own c))
          stage tries (subst (MayRefuse m.search) (sym frame) due.may) short

      hands_then : (k : ℕ) (hand : Hand) → HasHand (slice_set m.hands m.class (Some left)) k hand →
          InHand a.heap.sizes a.view here' stage m.class k hand
      unfolding due left_hand short
      hands_then k hand h =
          split_at (λ k. HasHand (slice_set m.hands m.class (Some left)) k hand → InHand a.heap.sizes a.view here' stage m.class k hand) m.class
          (λ h. subst (InHand a.heap.sizes a.view here' stage m.class m.class)
          (same_hand (slice_set m.hands m.class (Some left)) m.class left hand (put_in_hand m.hands m.class left short) h) left_hand) k
          (λ ne h.
          let other = hands_are m a here g (Takes p old) is k hand (others_in_hand m.hands m.class (Some left) k hand ne h) in
          let apart : p ≢ hand.frame = λ e. true≢false (sym due.home.lies ∙ ap here e ∙ other.out) in
          still_in_hand a.heap.sizes a.view a.view here here' (Takes p old) stage m.class m.class k hand other refl
          (lies hand.frame other.hold other.owned ∙ upd_else here p false hand.frame apart)
          (λ o. tried_plain a.heap.sizes m left stage (readied (frame_of old).kind m.class page) tries k hand.frame o (λ e. ne (sym e)))) h

      held_then : (q : ℕ) (o : Open) → owns a.view q ≡ Some o → IsHeld (slice_set m.hands m.class (Some left)) q ⊎ IsStaged stage q
      unfolding due short
      held_then q o e = by (held_are m a here g (Takes p old) is q o e)
        where
          at : (k : ℕ) (hand : Hand) → HasHand m.hands k hand → hand.frame ≡ q → IsHeld (slice_set m.hands m.class (Some left)) q
          at k hand h f =
              split_at (λ k. HasHand m.hands k hand → IsHeld (slice_set m.hands m.class (Some left)) q) m.class
              (λ h. absurd (none-some hand (same_Some None (Some hand) (sym due.no_hand ∙ h)))) k
              (λ ne h. (k, hand, get_set_else m.hands m.class (Some left) k ne ∙ h, f)) h

          by : IsHeld m.hands q ⊎ (p ≡ q) → IsHeld (slice_set m.hands m.class (Some left)) q ⊎ IsStaged stage q
          by (inl h) = inl (at h.0 h.1 h.2 h.3)
          by (inr h) = inl (m.class, left, put_in_hand m.hands m.class left short, frame ∙ h)

      pub came : Agrees (record m { hands = slice_set m.hands m.class (Some left); stage = stage }) a here'
      unfolding due asked same short word_is
      came = record {
        good = g.good;
        sizes = g.sizes;
        caller = g.caller;
        thread = g.thread;
        search_sizes = g.search_sizes;
        classes = length-set m.hands m.class (Some left) ∙ g.classes;
        hands = hands_then;
        held = held_then;
        at = tried_at m a g.good.sizes here' due.search left due.home.hold (ap (owns a.view) frame ∙ due.home.owned)
            (subst (λ k. k < frame_count a.heap.sizes) (sym frame) due.home.near)
            (ap here' frame ∙ (lies p due.home.hold due.home.owned ∙ upd_here here p false)) same
            (ap (λ (w : FrameWord). w.stamp) word_is ∙ sym stamp) (readied (frame_of old).kind m.class page)
            (asked.frame_is ∙ ap (frame_span a.heap.sizes) (sym frame)) (subst (λ k. InArea a.heap.sizes k m.class) (sym frame) due.in_area)
            asked.free_is asked.class_is (λ c. subst (λ k. IsPageOf a.heap.sizes k due.home.hold
            (readied (frame_of old).kind m.class page)) (sym frame) (asked.own c))
            stage tries (subst (MayRefuse m.search) (sym frame) due.may) short tries;
      }

-- the page that comes is the frame's own
pub own_page : (m : Keeps) (a : Stand) (here : ℕ → Bool) (g : Agrees m a here) (p old : ℕ) (is : m.stage ≡ Takes p old) (page : FrameView) →
    Gives a.heap a.view p None (Some page) → IsPageOf a.heap.sizes p (due m a here g p old is).home.hold page
own_page m a here g p old is page given =
    subst (IsPageOf a.heap.sizes p (due m a here g p old is).home.hold) (sym (same_Some page given.0 given.1))
    (subst (λ x. IsPageOfOwned a.heap p x given.0) (due m a here g p old is).home.owned given.2)
