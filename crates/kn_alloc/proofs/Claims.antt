-- A turn of the search: it goes on, or has ended, or a frame was claimed.
use Rattle.std.proofs.Common.{◌≡◌, ◌≢◌, ℕ, ◌<◌, ◌==◌, ◌⊎◌, inl, inr, Bool, true, false, cond, List, length, Some, None, slice_get}
use Rattle.std.proofs.Common.{slice_set, refl, sym, ap, ◌∙◌, subst, arith, eq-eqb}
use Rattle.std.proofs.lemmas.Option.{none-some, same_Some}
use Rattle.kn_base.specs.declared.kinds.FrameKind.{FrameKind}
use Rattle.kn_base.specs.declared.kinds.FrameKind.TheVariants as frames
use Rattle.kn_base.specs.declared.numbers.Span.{Span}
use Rattle.kn_base.specs.declared.places.Place.TheVariants.{Frame}
use Rattle.kn_base.specs.Functions.{upd}
use Rattle.kn_base.specs.Pages.{FrameView}
use Rattle.kn_base.specs.Sizes.{frame_count}
use Rattle.kn_base.specs.SpanLists.{IsWhollyFree}
use Rattle.kn_base.specs.Words.{packed_frame}
use Rattle.kn_base.proofs.Updates.{get_set_here, split_at, upd_else, upd_here}
use Rattle.kn_rule.specs.declared.steps.Action.TheVariants.{Swaps}
use Rattle.kn_rule.specs.declared.steps.Kind.TheVariants.{K10}
use Rattle.kn_rule.specs.Decoding.{PacksFrame, frame_of}
use Rattle.kn_rule.specs.FrameSpans.{frame_span}
use Rattle.kn_rule.specs.Outcomes.{claimed_if, sweep_begun}
use Rattle.kn_rule.specs.Requests.{InArea, is_usable, is_usable_as, is_whole}
use Rattle.kn_rule.specs.Steps.{Found, callers, does, epoch_in, logged, saying}
use Rattle.kn_rule.specs.declared.positions.Position.TheVariants.{Between}
use Rattle.kn_graph.specs.declared.calls.Reply.TheVariants as replies
use Rattle.kn_rule.specs.Views.{Open, View, flattened, owns}
use Rattle.kn_steps.specs.Made.{LieAs, Made, Stand}
use Rattle.kn_store.specs.Search.{IsOver, Search}
use Rattle.kn_store.specs.Agree.{Agrees as SearchAgrees, OnlySaw, SawFull}
use Rattle.kn_alloc.specs.declared.stage.Hand.{Hand}
use Rattle.kn_alloc.specs.declared.stage.Stage.TheVariants.{Resting, Searches, Takes}
use Rattle.kn_alloc.specs.Keeps.{HasHand, Keeps, claim_word}
use Rattle.kn_alloc.specs.Agree.{Agrees, InHand, IsHeld, IsOpenAs, IsToSearch, MayRefuse}
use Rattle.kn_alloc.proofs.Hands.{at_is, hands_are, held_are, still_in_hand}
use Rattle.kn_alloc.proofs.Owned.{asks_still, own_else}
use Rattle.kn_alloc.proofs.Stages.{goes_to}

-- a search keeps its class, its caller, its epoch and its sizes
abbrev pub ParamsKeep : Search → Search → Type 0
ParamsKeep q q' = (q'.class ≡ q.class) × (q'.by ≡ q.by) × (q'.epoch ≡ q.epoch) × (q'.sizes ≡ q.sizes)

module _ (m : Keeps) (a : Stand) (here : ℕ → Bool) (g : Agrees m a here) (is : m.stage ≡ Searches) where
  pub due : IsToSearch m a here
  due = at_is m a here g Searches is

  none_owned : (p : ℕ) (o : Open) → owns a.view p ≡ Some o → (frame_of o.word).class ≢ m.search.class
  unfolding due
  none_owned p o e same = by (held_are m a here g Searches is p o e)
    where
      by : IsHeld m.hands p ⊎ ⊥ → ⊥
      by (inr h) = h
      by (inl h) =
          let hand = hands_are m a here g Searches is h.0 h.1 h.2 in
          let one = same_Some hand.hold o (sym hand.owned ∙ ap (owns a.view) h.3 ∙ e) in
          let class : h.0 ≡ m.class = sym hand.class_is ∙ ap (λ (o : Open). (frame_of o.word).class) one ∙ same ∙ due.search.class in
          none-some h.1 (same_Some None (Some h.1) (sym due.no_hand ∙ ap (slice_get m.hands) (sym class) ∙ h.2))

  pub finder_agrees : SearchAgrees m.search a
  unfolding due none_owned
  finder_agrees = record {
    good = g.good;
    sizes = g.sizes ∙ sym g.search_sizes;
    caller = g.caller ∙ sym due.search.by;
    thread = let e = due.search.by in let t = g.thread in omega arith;
    call = due.search.asks.call;
    is_call = due.search.asks.is_call;
    words = m.words;
    is_request = due.search.asks.is_request;
    class = due.search.class ∙ due.search.asks.class;
    epoch = due.search.epoch ∙ due.search.asks.epoch;
    none_taken = due.search.none_taken;
    none_swept = due.search.asks.none_swept;
    none_owned = none_owned;
    same = due.search.same;
  }

  -- the search goes on
  pub saw_one : (q' : Search) (b : Stand) (here' : ℕ → Bool) → ParamsKeep m.search q' → SearchAgrees q' b → ¬ IsOver q' →
      OnlySaw a here b here' →
      Agrees (record m { search = q'; stage = Searches }) b here'
  unfolding due
  saw_one q' b here' same agrees going saw =
      let v' : View = record a.view { seen = saw.seen } in
      let known = subst (λ (b : Stand). SearchAgrees q' b) saw.view agrees in
      subst (λ (b : Stand). Agrees (record m { search = q'; stage = Searches }) b here') (sym saw.view)
      (goes_to m a here g Searches is Searches (λ z class k p o. refl) (λ p h. h) v' here' q' same.3 (λ p. refl) saw.lies (record {
        search = record {
          asks = asks_still m a Searches m.hands q' v' due.search.asks refl refl refl;
          none_taken = due.search.none_taken;
          class = same.0 ∙ due.search.class;
          by = same.1 ∙ due.search.by;
          epoch = same.2 ∙ due.search.epoch;
          same = known.same;
        };
        no_hand = due.no_hand;
        going = going;
      }))

  -- or it has ended, and the call is answered Full
  pub saw_full : (q' : Search) (b : Stand) (here' : ℕ → Bool) → ParamsKeep m.search q' → SawFull a here b here' →
      Agrees (record m { search = q'; stage = Resting }) b here'
  unfolding due
  saw_full q' b here' same saw =
      subst (λ (b : Stand). Agrees (record m { search = q'; stage = Resting }) b here') (sym saw.view)
      (goes_to m a here g Searches is Resting (λ z class k p o. refl) (λ p h. h)
      (logged (saying a.by (epoch_in a.view) saw.call replies.Full 0 (record a.view { seen = saw.seen; position = Between }))) here' q' same.3
      (λ p. refl) saw.lies (due.search.none_taken, due.search.asks.none_swept))

  -- or a frame was claimed that is not to be swept
  module _ (k old new : ℕ) (b : Stand) (here' : ℕ → Bool) (f : Found) (made : Made a here (does K10 (Frame k) (Swaps old new)) f b here')
      (word : f.word ≡ old) (near : k < frame_count a.heap.sizes) (usable : is_usable m.class old ≡ true)
      (is_new : new ≡ packed_frame (claim_word m old))
      (swept : (frame_of old).kind ≢ frames.Unswept) (area : InArea a.heap.sizes k m.class) (may : MayRefuse m.search k) where
    page_found : (made.shown.0.word (Frame k)) ≡ old
    page_found = made.shown.3.0 ∙ word

    by_caller : a.by < callers a.heap.sizes
    by_caller = let c = g.caller in let t = g.thread in omega arith

    packs : PacksFrame old
    unfolding page_found
    packs = subst PacksFrame page_found (made.shown.1.1.stands.framed.packs k near)

    not_owned : (kind : FrameKind) → (frame_of old).kind ≡ kind → is_usable_as m.class (frame_of old) kind ≡ true →
        (frame_of old).kind ≢ frames.Owned
    not_owned frames.Vacant e u is = let h = sym e ∙ is in absurd (cc)
    not_owned frames.Empty e u is = let h = sym e ∙ is in absurd (cc)
    not_owned frames.Ready e u is = let h = sym e ∙ is in absurd (cc)
    not_owned frames.Used e u is = let h = sym e ∙ is in absurd (cc)
    not_owned frames.Unswept e u is = let h = sym e ∙ is in absurd (cc)
    not_owned frames.Owned e u is = absurd (cc)

    kind_is : (frame_of (made.shown.0.word (Frame k))).kind ≡ (frame_of old).kind
    unfolding page_found
    kind_is = ap (λ w. (frame_of w).kind) page_found

    free_before : (o : Open) → owns a.view k ≡ Some o → ⊥
    unfolding kind_is by_caller
    free_before o e =
        let owned : owns (made.shown.0.caller a.by) k ≡ Some o = ap (λ v. owns v k) made.shown.2 ∙ e in
        let h = made.shown.1.1.stands.framed.owning k a.by o by_caller owned in
        not_owned (frame_of old).kind refl usable (sym kind_is ∙ h.2)

    wide : k < length a.view.owned
    unfolding by_caller
    wide =
        let w : length (made.shown.0.caller a.by).owned ≡ frame_count a.heap.sizes = made.shown.1.1.formed.frames a.by by_caller in
        let e : length (made.shown.0.caller a.by).owned ≡ length a.view.owned = ap (λ (v : View). length v.owned) made.shown.2 in
        omega arith

    state_by : (kind : FrameKind) → (frame_of old).kind ≡ kind → is_usable_as m.class (frame_of old) kind ≡ true →
        IsOpenAs kind (frame_span a.heap.sizes k) f.page.free
    unfolding kind_is
    state_by kind e u =
        let closed : (frame_of (made.shown.0.word (Frame k))).kind ≢ frames.Owned = λ o. not_owned (frame_of old).kind refl usable
        (sym kind_is ∙ o) in
        let home = made.shown.1.1.stands.housed.each k near closed in
        let page : home.0 ≡ f.page = same_Some home.0 f.page (sym home.1 ∙ made.shown.3.1 word) in
        by kind e u home.0.free (ap (λ (p : FrameView). p.free) page)
        (λ v. home.2.vacant (kind_is ∙ v)) (λ v. home.2.empty (kind_is ∙ v)) (λ v. (home.2.ready (kind_is ∙ v)).0)
      where
        by : (kind : FrameKind) → (frame_of old).kind ≡ kind → is_usable_as m.class (frame_of old) kind ≡ true → (free : List Span) →
            free ≡ f.page.free →
            ((frame_of old).kind ≡ frames.Vacant → IsWhollyFree (frame_span a.heap.sizes k) free) →
            ((frame_of old).kind ≡ frames.Empty → IsWhollyFree (frame_span a.heap.sizes k) free) →
            ((frame_of old).kind ≡ frames.Ready → is_whole (frame_span a.heap.sizes k) free ≡ false) →
            IsOpenAs kind (frame_span a.heap.sizes k) f.page.free
        by frames.Vacant e u free is vacant empty ready = sym is ∙ vacant e
        by frames.Empty e u free is vacant empty ready = sym is ∙ empty e
        by frames.Ready e u free is vacant empty ready = ap (is_whole (frame_span a.heap.sizes k)) (sym is) ∙ ready e
        by frames.Used e u free is vacant empty ready = absurd (cc)
        by frames.Unswept e u free is vacant empty ready = absurd (swept e)
        by frames.Owned e u free is vacant empty ready = absurd (cc)

    abbrev hold : Open
    hold = record { word = new; free = f.page.free; cursor = f.page.cursor }

    abbrev v' : View
    v' = record a.view { owned = slice_set a.view.owned k (Some hold); sweep = None }

    no_sweep : (kind : FrameKind) → (kind ≡ frames.Unswept → ⊥) → sweep_begun a.heap.sizes k kind ≡ None
    no_sweep frames.Vacant ne = refl
    no_sweep frames.Empty ne = refl
    no_sweep frames.Ready ne = refl
    no_sweep frames.Used ne = refl
    no_sweep frames.Unswept ne = absurd (ne refl)
    no_sweep frames.Owned ne = refl

    view_is : b ≡ record a { view = v' }
    unfolding no_sweep
    view_is =
        made.view
        ∙ (λ t. record a { view = logged (claimed_if a.heap a.by a.view (Frame k) (Swaps old new) f (eq-eqb f.word old word t)) })
        ∙ (λ t. record a {
          view = record a.view {
            owned = slice_set a.view.owned k (Some hold);
            sweep = no_sweep (frame_of old).kind swept t;
          };
        })

    now_lies : LieAs v' (upd here k (cond (f.word == old) true (here k))) here'
    unfolding view_is
    now_lies = subst (λ (b : Stand). LieAs b.view (upd here k (cond (f.word == old) true (here k))) here') view_is made.lies

    own_now : owns v' k ≡ Some hold
    unfolding wide
    own_now = ap flattened (get_set_here a.view.owned k (Some hold) wide)

    hands_then : (class : ℕ) (hand : Hand) → HasHand m.hands class hand → InHand a.heap.sizes v' here' (Takes k old) m.class class hand
    unfolding free_before now_lies
    hands_then class hand h =
        let in_hand = hands_are m a here g Searches is class hand h in
        let apart : k ≢ hand.frame = λ e. free_before in_hand.hold (ap (owns a.view) e ∙ in_hand.owned) in
        let same = own_else a.view.owned k (Some hold) hand.frame apart in
        still_in_hand a.heap.sizes a.view v' here here' Searches (Takes k old) m.class m.class class hand in_hand same
        (now_lies hand.frame in_hand.hold (same ∙ in_hand.owned) ∙ upd_else here k (cond (f.word == old) true (here k)) hand.frame apart) (λ o. refl)

    held_then : (p : ℕ) (o : Open) → owns v' p ≡ Some o → IsHeld m.hands p ⊎ (k ≡ p)
    held_then p o e =
        split_at (λ p. owns v' p ≡ Some o → IsHeld m.hands p ⊎ (k ≡ p)) k (λ _. inr refl) p
        (λ ne e. by p (held_are m a here g Searches is p o (sym (own_else a.view.owned k (Some hold) p ne) ∙ e))) e
      where
        by : (p : ℕ) → IsHeld m.hands p ⊎ ⊥ → IsHeld m.hands p ⊎ (k ≡ p)
        by p (inl h) = inl h
        by p (inr h) = absurd h

    pub won : Agrees (record m { stage = Takes k old }) b here'
    unfolding due view_is own_now now_lies packs
    won = subst (λ (b : Stand). Agrees (record m { stage = Takes k old }) b here') (sym view_is) (record {
      good = g.good;
      sizes = g.sizes;
      caller = g.caller;
      thread = g.thread;
      search_sizes = g.search_sizes;
      classes = g.classes;
      hands = hands_then;
      held = held_then;
      at = record {
        search = record {
          asks = asks_still m a (Takes k old) m.hands m.search v' due.search.asks refl refl (sym due.search.asks.none_swept);
          none_taken = due.search.none_taken;
          class = due.search.class;
          by = due.search.by;
          epoch = due.search.epoch;
          same = due.search.same;
        };
        no_hand = due.no_hand;
        home = record {
          hold = hold;
          owned = own_now;
          near = near;
          lies = now_lies k hold own_now ∙ (upd_here here k (cond (f.word == old) true (here k))
              ∙ ap (λ x. cond x true (here k)) (eq-eqb f.word old word));
        };
        is_word = is_new;
        packs = packs;
        usable = usable;
        state = state_by (frame_of old).kind refl usable;
        in_area = area;
        may = may;
      };
    })
