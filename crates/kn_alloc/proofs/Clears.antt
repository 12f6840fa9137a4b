-- The words of a cell are cleared.
use Rattle.std.proofs.Common.{◌≡◌, ◌≢◌, ℕ, zero, suc, ◌+◌, ◌^◌, ◌<◌, ◌==◌, ◌⊎◌, inl, inr, Bool, false, cond, Some, None}
use Rattle.std.proofs.Common.{slice_set, refl, sym, ap, ◌∙◌, subst, arith, eq-eqb, ne_eqb, add-one}
use Rattle.std.proofs.lemmas.Bool.Decides.{eqb_tells}
use Rattle.kn_base.specs.declared.heap.Sizes.{Sizes}
use Rattle.kn_base.specs.declared.numbers.Span.{Span}
use Rattle.kn_base.specs.declared.places.Place.TheVariants.{Body}
use Rattle.kn_base.specs.Functions.{Tells}
use Rattle.kn_base.specs.Spans.{LiesIn, end_of}
use Rattle.kn_base.proofs.Updates.{split_at}
use Rattle.kn_rule.specs.declared.parts.Taken.{Taken}
use Rattle.kn_rule.specs.declared.steps.Action.TheVariants.{Stores}
use Rattle.kn_rule.specs.declared.steps.Kind.TheVariants.{K12}
use Rattle.kn_rule.specs.Allowed.{MayClear, MayClearFor}
use Rattle.kn_rule.specs.Decoding.{frame_of}
use Rattle.kn_rule.specs.FrameSpans.{frame_at, frame_span}
use Rattle.kn_rule.specs.Laws.{WordsHaveFrames}
use Rattle.kn_rule.specs.Moves.{IsPageOf}
use Rattle.kn_rule.specs.Outcomes.{cell_begun, clear_at, clear_first, open_without}
use Rattle.kn_rule.specs.Requests.{AreFree, IsCellOf, class_asked, cleared_word, header_for, birth_of}
use Rattle.kn_rule.specs.Steps.{Found, does, logged}
use Rattle.kn_rule.specs.Views.{Open, View, local_of, owns}
use Rattle.kn_page.specs.PageViews.{page_view}
use Rattle.kn_steps.specs.Made.{LieAs, Made, Stand}
use Rattle.kn_alloc.specs.declared.stage.Hand.{Hand}
use Rattle.kn_alloc.specs.declared.stage.Stage.{Stage}
use Rattle.kn_alloc.specs.declared.stage.Stage.TheVariants.{Clears, Bears}
use Rattle.kn_alloc.specs.declared.stage.AllocTurn.TheVariants.{Moved}
use Rattle.kn_alloc.specs.Keeps.{Keeps, HasHand, stage_after, word_at}
use Rattle.kn_alloc.specs.Agree.{Agrees, AtStage, InHand, IsCleared, IsHeld, IsStaged, IsToClear, cut_open, held_as}
use Rattle.kn_alloc.specs.Tells.{TellsView}
use Rattle.kn_alloc.proofs.Hands.{at_is, hands_are, held_are, still_in_hand}
use Rattle.kn_alloc.proofs.Owned.{asks_still, own_else, own_here, same_hand, same_open}
use Rattle.kn_alloc.proofs.Stages.{goes_to}
use Rattle.kn_alloc.proofs.Told.{tells_on}

-- what is to be cleared is a word of the cell
pub near_end : (m : Keeps) (a : Stand) (here : ℕ → Bool) (cell : Span) (i : ℕ) → AtStage (Clears cell i) m a here →
    (i < cell.len) × (end_of cell < 2 ^ 32)
near_end m a here cell zero h = (let l = h.len in let s = h.asks.some in omega arith, h.ends)
near_end m a here cell (suc i) h = (h.1, h.0.ends)

-- the stage behind word i, where i + 1 words are cleared
abbrev next_stage : Span → ℕ → Stage
next_stage cell n = cond (n == cell.len) (Bears cell) (Clears cell n)

pub next_is : (cell : Span) (i : ℕ) → stage_after cell i ≡ next_stage cell (suc i)
next_is cell i = ap (λ n. cond (n == cell.len) (Bears cell) (Clears cell n)) (add-one i)

module _ (cell : Span) (i : ℕ) where
  pub next_plain : (t : Tells (suc i) cell.len) (z : Sizes) (class k p : ℕ) (o : Open) → held_as z (next_stage cell (suc i)) class k p o ≡ o
  next_plain (inl t) z class k p o = ap (λ b. held_as z (cond b (Bears cell) (Clears cell (suc i))) class k p o) t.0
  next_plain (inr t) z class k p o = ap (λ b. held_as z (cond b (Bears cell) (Clears cell (suc i))) class k p o) t.0

  pub next_at : (m : Keeps) (a : Stand) (here : ℕ → Bool) → IsCleared cell (suc i) m a here → Tells (suc i) cell.len →
      AtStage (next_stage cell (suc i)) m a here
  next_at m a here h (inl t) =
      subst (λ b. AtStage (cond b (Bears cell) (Clears cell (suc i))) m a here) (sym t.0) (subst (λ n. IsCleared cell n m a here) t.1 h)
  next_at m a here h (inr t) =
      subst (λ b. AtStage (cond b (Bears cell) (Clears cell (suc i))) m a here) (sym t.0)
      (h, let l = h.within in let ne = t.1 in omega arith)

module _ (m : Keeps) (a : Stand) (here : ℕ → Bool) (g : Agrees m a here) (cell : Span) (w : ℕ) where
  -- the first word of the cell may be cleared
  first_cell : (due : IsToClear cell m a here) (at : ℕ) → at ≡ cell.start → ◌≡◌ {A = Span} (record { start = at; len = m.words }) cell
  first_cell due at e = λ t. record { start = e t; len = sym due.len t }

  pub may_begin : (is : m.stage ≡ Clears cell 0) → w ≡ word_at m 0 → MayClear a.heap a.by a.view here (Body (cell.start + 0)) (Stores w)
  unfolding first_cell
  may_begin is word =
      let due = at_is m a here g (Clears cell 0) is in
      let hand = hands_are m a here g (Clears cell 0) is m.class due.hand due.had in
      let same : hand.hold ≡ due.hold = same_open a.view due.hand.frame due.hand.frame hand.hold due.hold refl hand.owned due.owned in
      let e : cell.start + 0 ≡ cell.start = omega arith in
      let whole = sym (first_cell due (cell.start + 0) e) in
      record {
        call = due.asks.call;
        address = cell.start + 0;
        value = w;
        is_call = due.asks.is_call;
        place = refl;
        word = refl;
        may = subst (λ x. MayClearFor a.heap a.by a.view here due.asks.call x (cell.start + 0) w) (sym due.none_taken) (record {
          frame = due.hand.frame;
          hold = due.hold;
          words = m.words;
          owned = due.owned;
          near = hand.near;
          out = hand.out;
          none_swept = due.asks.none_swept;
          is_request = due.asks.is_request;
          class = ap (λ (o : Open). (frame_of o.word).class) (sym same) ∙ (hand.class_is ∙ due.asks.class);
          free = subst (AreFree due.hold.free) whole due.free;
          inside = subst (λ s. LiesIn s (frame_span a.heap.sizes due.hand.frame)) whole due.inside;
          placed = subst (λ s. IsCellOf (class_asked a.heap due.asks.call) (frame_span a.heap.sizes due.hand.frame) s) whole
              (subst (λ k. IsCellOf k (frame_span a.heap.sizes due.hand.frame) cell) due.asks.class due.placed);
          value = word ∙ due.asks.header;
        });
        thread = let c = g.caller in let t = g.thread in omega arith;
      }

  -- and each next one
  pub may_go_on : (i : ℕ) (is : m.stage ≡ Clears cell (suc i)) → w ≡ word_at m (suc i) →
      MayClear a.heap a.by a.view here (Body (cell.start + suc i)) (Stores w)
  may_go_on i is word =
      let h = at_is m a here g (Clears cell (suc i)) is in
      let due = h.0 in
      let t = due.taken in
      let s = ap (λ (s : Span). s.start) due.span in
      let l = ap (λ (s : Span). s.len) due.span in
      let n = due.cleared in
      let less = h.1 in
      let later : (suc i == 0) ≡ false = ne_eqb (suc i) 0 (λ e. absurd (omega arith)) in
      record {
        call = due.asks.call;
        address = cell.start + suc i;
        value = w;
        is_call = due.asks.is_call;
        place = refl;
        word = refl;
        may = subst (λ x. MayClearFor a.heap a.by a.view here due.asks.call x (cell.start + suc i) w) (sym due.is_taken) (
          omega arith,
          omega arith,
          word ∙ (ap (λ b. cond b m.header 0) later ∙ sym ((λ t. cleared_word a.heap (local_of a.view) due.asks.call (n t))
              ∙ ap (λ b. cond b (header_for (birth_of a.heap due.asks.call)) 0) later)),
        );
        thread = let c = g.caller in let t = g.thread in omega arith;
      }

  pub may_clear : (i : ℕ) (is : m.stage ≡ Clears cell i) → w ≡ word_at m i → MayClear a.heap a.by a.view here (Body (cell.start + i)) (Stores w)
  may_clear zero is word = may_begin is word
  may_clear (suc i) is word = may_go_on i is word

  -- the view has one word more cleared
  went_view : (i : ℕ) (is : m.stage ≡ Clears cell (suc i)) (b : Stand) (here' : ℕ → Bool) (f : Found) →
      Made a here (does K12 (Body (cell.start + suc i)) (Stores w)) f b here' →
      let taken = (at_is m a here g (Clears cell (suc i)) is).0.taken in
      b ≡ record a { view = record a.view { taken = Some (record taken { cleared = taken.cleared + 1 }) } }
  went_view i is b here' f made =
      let due = (at_is m a here g (Clears cell (suc i)) is).0 in
      let v = a.view in
      made.view
      ∙ (λ t. record a { view = logged (clear_at a.heap a.by v (Body (cell.start + suc i)) (Stores w) f v.position (due.is_taken t)) })
      ∙ (λ t. record a { view = logged (clear_at a.heap a.by v (Body (cell.start + suc i)) (Stores w) f (due.asks.is_call t) (Some due.taken)) })

  -- a next word was cleared
  pub went_on : (i : ℕ) (is : m.stage ≡ Clears cell (suc i)) (b : Stand) (here' : ℕ → Bool) (f : Found) →
      Made a here (does K12 (Body (cell.start + suc i)) (Stores w)) f b here' → Agrees (record m { stage = next_stage cell (suc (suc i)) }) b here'
  went_on i is b here' f made =
      let h = at_is m a here g (Clears cell (suc i)) is in
      let due = h.0 in
      let v = a.view in
      let s' = next_stage cell (suc (suc i)) in
      let taken' : Taken = record due.taken { cleared = due.taken.cleared + 1 } in
      let v' : View = record v { taken = Some taken' } in
      let view : b ≡ record a { view = v' } = went_view i is b here' f made in
      let n = due.cleared in
      let tells = eqb_tells (suc (suc i)) cell.len in
      subst (λ (b : Stand). Agrees (record m { stage = s' }) b here') (sym view)
      (goes_to m a here g (Clears cell (suc i)) is s' (λ z class k p o. next_plain cell (suc i) tells z class k p o) (λ p h. h)
      v' here' m.search refl (λ p. refl)
      (subst (λ (b : Stand). LieAs b.view here here') view made.lies)
      (next_at cell (suc i) (record m { stage = s' }) (record a { view = v' }) here' (record {
        asks = asks_still m a s' m.hands m.search v' due.asks refl refl refl;
        taken = taken';
        is_taken = refl;
        span = due.span;
        cleared = omega arith;
        within = let l = h.1 in omega arith;
        ends = due.ends;
      }) tells))

  -- the first word was cleared: the view has the frame without the cell
  module _ (is : m.stage ≡ Clears cell 0) (law : WordsHaveFrames) where
    due : IsToClear cell m a here
    due = at_is m a here g (Clears cell 0) is

    abbrev z : Sizes
    z = a.heap.sizes

    in_hand : InHand a.heap.sizes a.view here (Clears cell 0) m.class m.class due.hand
    in_hand = hands_are m a here g (Clears cell 0) is m.class due.hand due.had

    same_hold : in_hand.hold ≡ due.hold
    same_hold = same_open a.view due.hand.frame due.hand.frame in_hand.hold due.hold refl in_hand.owned due.owned

    abbrev cut : Open
    cut = cut_open a.heap.sizes due.hand.frame m.class cell due.hold

    abbrev v' : View
    v' = record a.view {
      taken = Some (record { frame = due.hand.frame; span = cell; cleared = 1 });
      owned = slice_set a.view.owned due.hand.frame (Some cut);
    }

    at_frame : frame_at a.heap.sizes (cell.start + 0) ≡ due.hand.frame
    at_frame =
        let i = due.inside in let l = due.len in let s = due.asks.some in
        let i0 = i.0 in let i1 = i.1 in
        law a.heap.sizes (cell.start + 0) due.hand.frame g.good.sizes in_hand.near (omega arith, omega arith)

    began : (b : Stand) (here' : ℕ → Bool) (f : Found) → Made a here (does K12 (Body (cell.start + 0)) (Stores w)) f b here' →
        b ≡ record a { view = v' }
    began b here' f made =
        let v = a.view in
        let call = due.asks.call in
        let p = Body (cell.start + 0) in
        let e : cell.start + 0 ≡ cell.start = omega arith in
        made.view
        ∙ (λ t. record a { view = logged (clear_at a.heap a.by v p (Stores w) f v.position (due.none_taken t)) })
        ∙ (λ t. record a { view = logged (clear_at a.heap a.by v p (Stores w) f (due.asks.is_call t) None) })
        ∙ (λ t. record a {
          view = clear_first a.heap a.by v p (Stores w) f (at_frame t) (sym due.asks.class t)
              (cell_begun a.heap a.by v p (Stores w) f (due.asks.is_request t));
        })
        ∙ (λ t. record a { view = clear_first a.heap a.by v p (Stores w) f due.hand.frame m.class (first_cell due (cell.start + 0) e t) })
        ∙ (λ t. record a {
          view = record v {
            taken = Some (record { frame = due.hand.frame; span = cell; cleared = 1 });
            owned = slice_set v.owned due.hand.frame (open_without a.heap a.by v p (Stores w) f due.hand.frame m.class cell (due.owned t));
          };
        })

    module _ (s' : Stage) (plain : (z : Sizes) (class k p : ℕ) (o : Open) → held_as z s' class k p o ≡ o) (here' : ℕ → Bool)
        (lies : LieAs v' here here') where
      at_class : (hand : Hand) → HasHand m.hands m.class hand → InHand a.heap.sizes v' here' s' m.class m.class hand
      unfolding due in_hand same_hold
      at_class hand h =
          let is = same_hand m.hands m.class due.hand hand due.had h in
          let own = own_here a.view.owned due.hand.frame due.hold due.owned (Some cut) in
          subst (InHand a.heap.sizes v' here' s' m.class m.class) is (record {
            hold = cut;
            owned = own;
            near = in_hand.near;
            out = lies due.hand.frame cut own ∙ in_hand.out;
            class_is = ap (λ (o : Open). (frame_of o.word).class) (sym same_hold) ∙ in_hand.class_is;
            stamp_is = ap (λ (o : Open). (frame_of o.word).stamp) (sym same_hold) ∙ in_hand.stamp_is;
            page_class = in_hand.page_class;
            page_is = subst (λ (o : Open). IsPageOf a.heap.sizes due.hand.frame o (page_view due.hand.page))
                (ap (λ b. cond b (cut_open z due.hand.frame m.class cell in_hand.hold) in_hand.hold) (eq-eqb m.class m.class refl)
                ∙ (ap (cut_open z due.hand.frame m.class cell) same_hold ∙ sym (plain z m.class m.class due.hand.frame cut))) in_hand.page_is;
          })

      at_other : (k : ℕ) (hand : Hand) → m.class ≢ k → HasHand m.hands k hand → InHand a.heap.sizes v' here' s' m.class k hand
      unfolding due in_hand same_hold
      at_other k hand ne h =
          let other = hands_are m a here g (Clears cell 0) is k hand h in
          let apart : due.hand.frame ≢ hand.frame = λ e.
          let same = same_open a.view due.hand.frame hand.frame in_hand.hold other.hold e in_hand.owned other.owned in
          ne (sym in_hand.class_is ∙ (ap (λ (o : Open). (frame_of o.word).class) same ∙ other.class_is)) in
          let own = own_else a.view.owned due.hand.frame (Some cut) hand.frame apart in
          still_in_hand a.heap.sizes a.view v' here here' (Clears cell 0) s' m.class m.class k hand other own
          (lies hand.frame other.hold (own ∙ other.owned))
          (λ o. plain z m.class k hand.frame o ∙ sym (ap (λ b. cond b (cut_open z hand.frame m.class cell o) o) (ne_eqb k m.class (λ e. ne (sym e)))))

      hands_then : (k : ℕ) (hand : Hand) → HasHand m.hands k hand → InHand a.heap.sizes v' here' s' m.class k hand
      hands_then k hand h =
          split_at (λ k. HasHand m.hands k hand → InHand a.heap.sizes v' here' s' m.class k hand) m.class (at_class hand) k
          (λ ne h. at_other k hand ne h) h

    held_then : (s' : Stage) (p : ℕ) (o : Open) → owns v' p ≡ Some o → IsHeld m.hands p ⊎ IsStaged s' p
    unfolding due
    held_then s' p o e =
        split_at (λ p. owns v' p ≡ Some o → IsHeld m.hands p ⊎ IsStaged s' p) due.hand.frame (λ _. inl (m.class, due.hand, due.had, refl)) p
        (λ ne e. by p (held_are m a here g (Clears cell 0) is p o (sym (own_else a.view.owned due.hand.frame (Some cut) p ne) ∙ e))) e
      where
        by : (p : ℕ) → IsHeld m.hands p ⊎ ⊥ → IsHeld m.hands p ⊎ IsStaged s' p
        by p (inl h) = inl h
        by p (inr h) = absurd h

    pub went_first : (b : Stand) (here' : ℕ → Bool) (f : Found) → Made a here (does K12 (Body (cell.start + 0)) (Stores w)) f b here' →
        Agrees (record m { stage = next_stage cell (suc 0) }) b here'
    unfolding due
    went_first b here' f made =
        let view = began b here' f made in
        let s' = next_stage cell (suc 0) in
        let tells = eqb_tells (suc 0) cell.len in
        let lies = subst (λ (b : Stand). LieAs b.view here here') view made.lies in
        subst (λ (b : Stand). Agrees (record m { stage = s' }) b here') (sym view) (record {
          good = g.good;
          sizes = g.sizes;
          caller = g.caller;
          thread = g.thread;
          search_sizes = g.search_sizes;
          classes = g.classes;
          hands = hands_then s' (λ z class k p o. next_plain cell 0 tells z class k p o) here' lies;
          held = held_then s';
          at = next_at cell 0 (record m { stage = s' }) (record a { view = v' }) here' (record {
            asks = asks_still m a s' m.hands m.search v' due.asks refl refl refl;
            taken = record { frame = due.hand.frame; span = cell; cleared = 1 };
            is_taken = refl;
            span = refl;
            cleared = refl;
            within = let l = due.len in let s = due.asks.some in omega arith;
            ends = due.ends;
          }) tells;
        })

  first_tells : (is : m.stage ≡ Clears cell 0) → WordsHaveFrames → (b : Stand) (here' : ℕ → Bool) (f : Found) →
      Made a here (does K12 (Body (cell.start + 0)) (Stores w)) f b here' → TellsView m.stage Moved a b
  first_tells is law b here' f made =
      let u = v' is law in
      tells_on m.stage a b u.owned a.view.seen a.view.refused u.taken a.view.sweep (began is law b here' f made)

  next_tells : (i : ℕ) (is : m.stage ≡ Clears cell (suc i)) (b : Stand) (here' : ℕ → Bool) (f : Found) →
      Made a here (does K12 (Body (cell.start + suc i)) (Stores w)) f b here' → TellsView m.stage Moved a b
  next_tells i is b here' f made =
      let taken = (at_is m a here g (Clears cell (suc i)) is).0.taken in
      tells_on m.stage a b a.view.owned a.view.seen a.view.refused (Some (record taken { cleared = taken.cleared + 1 })) a.view.sweep
      (went_view i is b here' f made)

  -- what is left of the view
  pub cleared_tells : WordsHaveFrames → (i : ℕ) (is : m.stage ≡ Clears cell i) (b : Stand) (here' : ℕ → Bool) (f : Found) →
      Made a here (does K12 (Body (cell.start + i)) (Stores w)) f b here' → TellsView m.stage Moved a b
  cleared_tells law zero is b here' f made = first_tells is law b here' f made
  cleared_tells law (suc i) is b here' f made = next_tells i is b here' f made

  pub cleared : WordsHaveFrames → (i : ℕ) (is : m.stage ≡ Clears cell i) (b : Stand) (here' : ℕ → Bool) (f : Found) →
      Made a here (does K12 (Body (cell.start + i)) (Stores w)) f b here' → Agrees (record m { stage = stage_after cell i }) b here'
  cleared law zero is b here' f made =
      subst (λ s. Agrees (record m { stage = s }) b here') (sym (next_is cell 0)) (went_first is law b here' f made)
  cleared law (suc i) is b here' f made =
      subst (λ s. Agrees (record m { stage = s }) b here') (sym (next_is cell (suc i))) (went_on i is b here' f made)
