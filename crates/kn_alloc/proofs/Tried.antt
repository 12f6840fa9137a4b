-- A page that came into the hand of the class and was asked for a cell.
use Rattle.std.proofs.Common.{◌≡◌, ◌≢◌, ℕ, suc, ◌+◌, ◌-◌, ◌^◌, ◌<◌, ◌≤◌, ◌==◌, ◌⊎◌, ◌||◌, inl, inr, Bool}
use Rattle.std.proofs.Common.{true, false, cond, length, Some, slice_set, refl, sym, ap, ◌∙◌, subst, arith, eq-eqb, ne_eqb}
use Rattle.std.proofs.lemmas.Bool.{lt-ltb, le-ltb, le-leb, true≢false}
use Rattle.std.proofs.lemmas.Bool.Decides.{leb_tells}
use Rattle.std.proofs.Math.Dec.{leb}
use Rattle.kn_base.specs.declared.heap.Sizes.{Sizes}
use Rattle.kn_base.specs.declared.numbers.Span.{Span}
use Rattle.kn_base.specs.declared.classes.TheConstants.{NEXT_FIT_CLASS, SINGLE_CLASS}
use Rattle.kn_base.specs.Pages.{FrameView, whole_view}
use Rattle.kn_base.specs.Sizes.{IsGood, frame_count}
use Rattle.kn_base.specs.Spans.{LiesIn, end_of}
use Rattle.kn_base.specs.SpanLists.{without}
use Rattle.kn_rule.specs.Decoding.{frame_of}
use Rattle.kn_rule.specs.FrameSpans.{frame_span}
use Rattle.kn_rule.specs.Moves.{IsPageOf}
use Rattle.kn_rule.specs.Requests.{AreFree, InArea, IsCellOf, area_count, area_words, is_too_long}
use Rattle.kn_rule.specs.Views.{Open, owns}
use Rattle.kn_rule.proofs.FrameSpans.{in_heap}
use Rattle.kn_rule.proofs.WholeFrames.{is_whole_frame}
use Rattle.kn_page.specs.PageViews.{page_view}
use Rattle.kn_steps.specs.Made.{Stand}
use Rattle.kn_alloc.specs.declared.stage.Hand.{Hand}
use Rattle.kn_alloc.specs.declared.stage.Stage.{Stage}
use Rattle.kn_alloc.specs.Cells.{CannotServe, cut_page}
use Rattle.kn_alloc.specs.Keeps.{HasHand, Keeps, Tries}
use Rattle.kn_alloc.specs.Agree.{AtStage, InHand, MayRefuse, SearchesFor, cut_open, held_as}
use Rattle.kn_alloc.proofs.Hands.{put_in_hand}
use Rattle.kn_alloc.proofs.Owned.{asks_still}
use Rattle.kn_alloc.proofs.Returns.{search_still}

-- a frame of the area of a class has the words of one
len_small : (z : Sizes) (p : ℕ) → p < z.small → (frame_span z p).len ≡ z.small_words
len_small z p l = rw (lt-ltb p z.small l) refl

len_large : (z : Sizes) (p : ℕ) → z.small ≤ p → p < z.small + z.large → (frame_span z p).len ≡ z.large_words
len_large z p from to =
    let less : p - z.small < z.large = omega arith in
    rw (le-ltb p z.small from) (rw (lt-ltb (p - z.small) z.large less) refl)

len_by : (z : Sizes) (p class : ℕ) → InArea z p class → class ≤ SINGLE_CLASS →
    ((leb class NEXT_FIT_CLASS ≡ true) × (class ≤ NEXT_FIT_CLASS)) ⊎ ((leb class NEXT_FIT_CLASS ≡ false) × (NEXT_FIT_CLASS < class)) →
    (frame_span z p).len ≡ area_words z class
len_by z p class area few (inl t) =
    len_small z p (area.small t.1) ∙ sym (ap (λ b. cond b z.small_words (cond (class == SINGLE_CLASS) z.large_words z.extra_words)) t.0)
len_by z p class area few (inr t) =
    let more = t.1 in
    let e : class ≡ SINGLE_CLASS = omega arith in
    let in_large = area.large e in
    len_large z p in_large.0 in_large.1 ∙ ap (area_words z) (sym e)

not_longer : (a n : ℕ) (none : Bool) → ((leb (suc a) n ≡ true) × (suc a ≤ n)) ⊎ ((leb (suc a) n ≡ false) × (n < suc a)) →
    (leb (suc a) n || none) ≡ false → n ≤ a
not_longer a n none (inl t) e = absurd (true≢false (sym (ap (λ b. b || none) t.0) ∙ e))
not_longer a n none (inr t) e = let l = t.1 in omega arith

-- a whole page of the class has a cell for a request that is not too long
pub whole_serves : (z : Sizes) (p class n : ℕ) → InArea z p class → class ≤ SINGLE_CLASS → is_too_long z class n ≡ false →
    CannotServe (whole_view class (frame_span z p)) n → ⊥
whole_serves z p class n area few fits (inl c) = true≢false (sym (is_whole_frame (frame_span z p)) ∙ c.1)
whole_serves z p class n area few fits (inr e) =
    let len = len_by z p class area few (leb_tells class NEXT_FIT_CLASS) in
    let l = not_longer (area_words z class) n (area_count z class == 0) (leb_tells (suc (area_words z class)) n) fits in
    let enough : n ≤ (frame_span z p).len = omega arith in
    true≢false (sym (ap (λ b. b || false) (le-leb n (frame_span z p).len enough)) ∙ e)

-- a frame's end is an address
pub ends_low : (z : Sizes) → IsGood z → (p : ℕ) → p < frame_count z → end_of (frame_span z p) < 2 ^ 32
ends_low z good p near =
    let h = in_heap z good p near in
    let e = h.2 in
    let w = good.of_frames.words.1 in
    omega arith

-- of every other class a page in hand has what the view has
pub tried_plain : (z : Sizes) (m : Keeps) (left : Hand) (stage : Stage) (page : FrameView) → Tries page m.words (page_view left.page) stage →
    (k p : ℕ) (o : Open) → k ≢ m.class → held_as z stage m.class k p o ≡ o
tried_plain z m left stage page (inl t) k p o ne = ap (λ s. held_as z s m.class k p o) t.2
tried_plain z m left stage page (inr t) k p o ne =
    ap (λ s. held_as z s m.class k p o) t.2 ∙ ap (λ b. cond b (cut_open z p m.class t.0 o) o) (ne_eqb k m.class ne)

module _ (m : Keeps) (a : Stand) (good : IsGood a.heap.sizes) (here : ℕ → Bool) (search : SearchesFor m a) (left : Hand) (hold : Open)
    (owned : owns a.view left.frame ≡ Some hold) (near : left.frame < frame_count a.heap.sizes) (out : here left.frame ≡ false)
    (class : (frame_of hold.word).class ≡ m.class) (stamp : (frame_of hold.word).stamp ≡ left.stamp) (page : FrameView)
    (frame_is : page.frame ≡ frame_span a.heap.sizes left.frame) (area_is : InArea a.heap.sizes left.frame m.class) (free_is : page.free ≡ hold.free)
    (class_is : page.class ≡ m.class) (whole : CannotServe page m.words → IsPageOf a.heap.sizes left.frame hold page) (stage : Stage)
    (tries : Tries page m.words (page_view left.page) stage) (may : MayRefuse m.search left.frame) (short : m.class < length m.hands) where
  abbrev z : Sizes
  z = a.heap.sizes

  abbrev m' : Keeps
  m' = record m { hands = slice_set m.hands m.class (Some left); stage = stage }

  cut_is : (cell : Span) → IsPageOf a.heap.sizes left.frame (cut_open a.heap.sizes left.frame m.class cell hold) (cut_page cell page)
  cut_is cell = record {
    frame_is = frame_is;
    area_is = subst (InArea a.heap.sizes left.frame) (sym class_is) area_is;
    free_is = ap (without cell) free_is;
    cursor_is = λ t. cond (class_is t == NEXT_FIT_CLASS) (end_of cell) (frame_is t).start;
    class_is = λ _. class_is ∙ sym class;
  }

  page_by : Tries page m.words (page_view left.page) stage →
      ((page_view left.page).class ≡ m.class) × IsPageOf a.heap.sizes left.frame (held_as a.heap.sizes stage m.class m.class left.frame
      hold) (page_view left.page)
  unfolding cut_is
  page_by (inl t) = (
    ap (λ (p : FrameView). p.class) t.1 ∙ class_is,
    subst (λ s. IsPageOf a.heap.sizes left.frame (held_as a.heap.sizes s m.class m.class left.frame hold) (page_view left.page)) (sym t.2)
        (subst (IsPageOf a.heap.sizes left.frame hold) (sym t.1) (whole t.0)),
  )
  page_by (inr t) = (
    ap (λ (p : FrameView). p.class) t.1.after ∙ class_is,
    subst (λ s. IsPageOf a.heap.sizes left.frame (held_as a.heap.sizes s m.class m.class left.frame hold) (page_view left.page)) (sym t.2)
        (subst (λ o. IsPageOf a.heap.sizes left.frame o (page_view left.page))
        (sym (ap (λ b. cond b (cut_open a.heap.sizes left.frame m.class t.0 hold) hold) (eq-eqb m.class m.class refl)))
        (subst (IsPageOf a.heap.sizes left.frame (cut_open a.heap.sizes left.frame m.class t.0 hold)) (sym t.1.after) (cut_is t.0))),
  )

  pub tried_hand : InHand a.heap.sizes a.view here stage m.class m.class left
  tried_hand =
      let p = page_by tries in
      record {
        hold = hold;
        owned = owned;
        near = near;
        out = out;
        class_is = class;
        stamp_is = stamp;
        page_class = p.0;
        page_is = p.1;
      }

  had_left : HasHand (slice_set m.hands m.class (Some left)) m.class left
  had_left = put_in_hand m.hands m.class left short

  pub tried_at : Tries page m.words (page_view left.page) stage → AtStage stage m' a here
  unfolding had_left
  tried_at (inl t) = subst (λ s. AtStage s m' a here) (sym t.2) (record {
    search = search_still m a stage (slice_set m.hands m.class (Some left)) search;
    hand = left;
    had = had_left;
    cannot = subst (λ p. CannotServe p m.words) (sym t.1) t.0;
    may = may;
  })
  tried_at (inr t) =
      let cell = t.0 in
      let taken = t.1 in
      let inside : LiesIn cell (frame_span a.heap.sizes left.frame) = subst (LiesIn cell) frame_is taken.inside in
      subst (λ s. AtStage s m' a here) (sym t.2) (record {
        asks = asks_still m a stage (slice_set m.hands m.class (Some left)) m.search a.view search.asks refl refl refl;
        none_taken = search.none_taken;
        hand = left;
        had = had_left;
        hold = hold;
        owned = owned;
        len = taken.len;
        free = subst (λ l. AreFree l cell) free_is taken.free;
        inside = inside;
        placed = subst (λ k. IsCellOf k (frame_span a.heap.sizes left.frame) cell) class_is
            (subst (λ s. IsCellOf page.class s cell) frame_is taken.placed);
        ends = let e = inside.1 in let l = ends_low a.heap.sizes good left.frame near in omega arith;
      })
