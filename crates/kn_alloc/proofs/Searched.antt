-- What a turn of the search leaves.
use Rattle.std.proofs.Common.{◌≡◌, ◌≢◌, ℕ, ◌+◌, ◌<◌, ◌≤◌, ◌==◌, ◌⊎◌, inl, inr, Bool, true, false, cond, refl, sym, ap}
use Rattle.std.proofs.Common.{◌∙◌, subst, arith, Some, slice_set, eq-eqb}
use Rattle.std.proofs.lemmas.Bool.{cases_eq}
use Rattle.std.proofs.lemmas.Bool.Decides.{leb_tells}
use Rattle.std.proofs.Math.Dec.{leb}
use Rattle.kn_base.specs.declared.heap.Sizes.{Sizes}
use Rattle.kn_base.specs.declared.kinds.FrameKind.{FrameKind}
use Rattle.kn_base.specs.declared.kinds.FrameKind.TheVariants as frames
use Rattle.kn_base.specs.declared.numbers.FrameNo.{FrameNo}
use Rattle.kn_base.specs.declared.classes.TheConstants.{NEXT_FIT_CLASS, SINGLE_CLASS}
use Rattle.kn_base.specs.declared.places.Place.TheVariants.{Frame}
use Rattle.kn_base.specs.Sizes.{frame_count}
use Rattle.kn_base.specs.Words.{packed_frame}
use Rattle.kn_rule.specs.declared.steps.Action.TheVariants.{Swaps}
use Rattle.kn_rule.specs.declared.steps.Kind.TheVariants.{K10}
use Rattle.kn_rule.specs.Decoding.{frame_of}
use Rattle.kn_rule.specs.Requests.{InArea, area_count, area_from, is_usable, owned_word}
use Rattle.kn_rule.specs.Outcomes.{claimed_if, sweep_begun}
use Rattle.kn_rule.specs.Steps.{Found as WasFound, Step, does, logged}
use Rattle.kn_steps.specs.Made.{Made, Stand}
use Rattle.kn_store.specs.declared.look.Look.{Look}
use Rattle.kn_store.specs.declared.look.Look.TheVariants.{Looking, Found, Full}
use Rattle.kn_store.specs.Search.{Claims, IsOver, IsTurnOf, Search, first_of}
use Rattle.kn_store.specs.Agree.{Agrees as SearchAgrees, OnlySaw, SawFull}
use Rattle.kn_alloc.specs.declared.stage.Stage.{Stage}
use Rattle.kn_alloc.specs.declared.stage.Stage.TheVariants.{Searches, Takes}
use Rattle.kn_alloc.specs.declared.stage.AllocTurn.TheVariants.{Moved}
use Rattle.kn_alloc.specs.Keeps.{Keeps, found_stage, stage_behind}
use Rattle.kn_alloc.specs.Turns.{answer_of}
use Rattle.kn_alloc.specs.Tells.{TellsView}
use Rattle.kn_alloc.specs.Agree.{Agrees, IsSweeping}
use Rattle.kn_alloc.proofs.Claims.{ParamsKeep, due, saw_full, saw_one, won}
use Rattle.kn_alloc.proofs.Returns.{class_fits}
use Rattle.kn_alloc.proofs.Told.{tells_full, tells_on}

-- each frame of the area of a class belongs to it
pub in_area_by : (z : Sizes) (class i : ℕ) → class ≤ SINGLE_CLASS → i < area_count z class →
    ((leb class NEXT_FIT_CLASS ≡ true) × (class ≤ NEXT_FIT_CLASS)) ⊎ ((leb class NEXT_FIT_CLASS ≡ false) × (NEXT_FIT_CLASS < class)) →
    InArea z (area_from z class + i) class × (area_from z class + i < frame_count z)
in_area_by z class i few l (inl t) =
    let n : area_count z class ≡ z.small = ap (λ b. cond b z.small (cond (class == SINGLE_CLASS) z.large z.extra)) t.0 in
    let f : area_from z class ≡ 0 = ap (λ b. cond b 0 (cond (class == SINGLE_CLASS) z.small (z.small + z.large))) t.0 in
    let h = t.1 in (
      record { small = λ _. omega arith; large = λ e. absurd (omega arith); extra = λ e. absurd (omega arith) },
      omega arith,
    )
in_area_by z class i few l (inr t) =
    let more = t.1 in
    let e : class ≡ SINGLE_CLASS = omega arith in
    let n : area_count z class ≡ z.large = ap (area_count z) e in
    let f : area_from z class ≡ z.small = ap (area_from z) e in (
      record { small = λ h. absurd (omega arith); large = λ _. (omega arith, omega arith); extra = λ e. absurd (omega arith) },
      omega arith,
    )

params_by : (q q' : Search) (d : Step) (w : ℕ) (look : Look) (c : Claims q d w q' look) → (w ≡ c.best.word) ⊎ (w ≢ c.best.word) → ParamsKeep q q'
params_by q q' d w look c (inl e) =
    let h = (c.won e).0 in
    (ap (λ (s : Search). s.class) h, ap (λ (s : Search). s.by) h, ap (λ (s : Search). s.epoch) h, ap (λ (s : Search). s.sizes) h)
params_by q q' d w look c (inr ne) =
    let h = (c.lost ne).0 in
    (ap (λ (s : Search). s.class) h, ap (λ (s : Search). s.by) h, ap (λ (s : Search). s.epoch) h, ap (λ (s : Search). s.sizes) h)

params : (q q' : Search) (d : Step) (w : ℕ) (look : Look) → IsTurnOf q d w q' look → ParamsKeep q q'
params q q' d w look (inl l) =
    let h = l.after in
    (ap (λ (s : Search). s.class) h, ap (λ (s : Search). s.by) h, ap (λ (s : Search). s.epoch) h, ap (λ (s : Search). s.sizes) h)
params q q' d w look (inr c) = params_by q q' d w look c (cases_eq w c.best.word)

module _ (m : Keeps) (a : Stand) (here : ℕ → Bool) (g : Agrees m a here) (is : m.stage ≡ Searches) (q' : Search) (b : Stand) (here' : ℕ → Bool)
    (d : Step) (f : WasFound) (made : Made a here d f b here') where
  module _ (p : FrameNo) (old : ℕ) (c : Claims m.search d f.word q' (Found p old)) (e : f.word ≡ c.best.word) where
    at_frame : p.0 ≡ first_of m.search + c.number
    at_frame = let h = (c.won e).1 in cc

    was : old ≡ c.best.word
    was = let h = (c.won e).1 in cc

    claimed : (frame_of old).kind ≢ frames.Unswept → Agrees (record m { stage = Takes p.0 old; search = q' }) b here'
    unfolding at_frame was
    claimed swept =
        let q = m.search in
        let s = (due m a here g is).search in
        let k = first_of q + c.number in
        let new = packed_frame (owned_word (frame_of c.best.word) q.class q.epoch q.by) in
        let step : Made a here (does K10 (Frame k) (Swaps c.best.word new)) f b here' = subst (λ d. Made a here d f b here') c.step made in
        let few = (class_fits m a g.sizes s.asks).2 in
        let sizes : q.sizes ≡ a.heap.sizes = g.search_sizes ∙ sym g.sizes in
        let counts : area_count q.sizes q.class ≡ area_count a.heap.sizes m.class = (λ t. area_count (sizes t) (s.class t)) in
        let starts : area_from q.sizes q.class ≡ area_from a.heap.sizes m.class = (λ t. area_from (sizes t) (s.class t)) in
        let number = c.is_best.near in
        let all = c.all in
        let count : c.number < area_count a.heap.sizes m.class = omega arith in
        let lies = in_area_by a.heap.sizes m.class c.number few count (leb_tells m.class NEXT_FIT_CLASS) in
        let same : area_from a.heap.sizes m.class + c.number ≡ k = ap (λ n. n + c.number) (sym starts) in
        let taken = won m a here g is k c.best.word new b here' f step e (subst (λ k. k < frame_count a.heap.sizes) same lies.1)
        (ap (λ k. is_usable k c.best.word) (sym s.class) ∙ c.is_best.fit.0)
        (λ t. packed_frame (owned_word (frame_of c.best.word) (s.class t) (s.epoch t) (s.by t)))
        (λ u. swept (ap (λ w. (frame_of w).kind) was ∙ u)) (subst (λ k. InArea a.heap.sizes k m.class) same lies.0)
        (record { area = (omega arith, omega arith); once = inl (omega arith) }) in
        subst (λ (m : Keeps). Agrees m b here')
        (λ t. record m { stage = Takes (sym at_frame t) (sym was t); search = sym (c.won e).0 t }) taken

    pub by_kind : (kind : FrameKind) → (frame_of old).kind ≡ kind → (¬ IsSweeping (found_stage kind p.0 old)) →
        Agrees (record m { stage = found_stage kind p.0 old; search = q' }) b here'
    by_kind frames.Vacant k still = claimed (λ u. let h = sym k ∙ u in absurd (cc))
    by_kind frames.Empty k still = claimed (λ u. let h = sym k ∙ u in absurd (cc))
    by_kind frames.Ready k still = claimed (λ u. let h = sym k ∙ u in absurd (cc))
    by_kind frames.Used k still = claimed (λ u. let h = sym k ∙ u in absurd (cc))
    by_kind frames.Unswept k still = absurd (still tt)
    by_kind frames.Owned k still = claimed (λ u. let h = sym k ∙ u in absurd (cc))

  pub searched : (look : Look) → IsTurnOf m.search d f.word q' look → (look ≡ Looking → SearchAgrees q' b) → (look ≡ Looking → ¬ IsOver q') →
      (look ≡ Looking → OnlySaw a here b here') → (look ≡ Full → SawFull a here b here') → (¬ IsSweeping (stage_behind look)) →
      Agrees (record m { stage = stage_behind look; search = q' }) b here'
  searched Looking turn agrees going saw ended still = saw_one m a here g is q' b here' (params m.search q' d f.word Looking turn)
      (agrees refl) (going refl) (saw refl)
  searched Full turn agrees going saw ended still = saw_full m a here g is q' b here' (params m.search q' d f.word Full turn) (ended refl)
  searched (Found p old) (inl l) agrees going saw ended still = absurd l.answer
  searched (Found p old) (inr c) agrees going saw ended still = by (cases_eq f.word c.best.word)
    where
      by : (f.word ≡ c.best.word) ⊎ (f.word ≢ c.best.word) → Agrees (record m { stage = stage_behind (Found p old); search = q' }) b here'
      by (inl e) = by_kind p old c e (frame_of old).kind refl still
      by (inr ne) = absurd (c.lost ne).1

-- what a turn of the search leaves of the view
module _ (stage : Stage) (a : Stand) (here : ℕ → Bool) (b : Stand) (here' : ℕ → Bool) (q q' : Search) (d : Step) (f : WasFound)
    (made : Made a here d f b here') where
  -- a frame was claimed
  claim_tells : (k old new : ℕ) → d ≡ does K10 (Frame k) (Swaps old new) → f.word ≡ old → TellsView stage Moved a b
  claim_tells k old new step word =
      let made = subst (λ d. Made a here d f b here') step made in
      let v = a.view in
      tells_on stage a b (slice_set v.owned k (Some (record { word = new; free = f.page.free; cursor = f.page.cursor }))) v.seen v.refused v.taken
      (sweep_begun a.heap.sizes k (frame_of old).kind)
      (made.view ∙ (λ t. record a { view = logged (claimed_if a.heap a.by v (Frame k) (Swaps old new) f (eq-eqb f.word old word t)) }))

  pub search_tells : (look : Look) → IsTurnOf q d f.word q' look → (look ≡ Looking → OnlySaw a here b here') →
      (look ≡ Full → SawFull a here b here') → TellsView stage (answer_of look) a b
  search_tells Looking turn saw ended =
      let v = a.view in
      let h = saw refl in
      tells_on stage a b v.owned h.seen v.refused v.taken v.sweep h.view
  search_tells Full turn saw ended =
      let v = a.view in
      let h = ended refl in
      tells_full stage a b v.owned h.seen v.refused v.taken v.sweep h.call h.is_call h.view
  search_tells (Found p old) (inl l) saw ended = absurd l.answer
  search_tells (Found p old) (inr c) saw ended = by (cases_eq f.word c.best.word)
    where
      by : (f.word ≡ c.best.word) ⊎ (f.word ≢ c.best.word) → TellsView stage Moved a b
      by (inl e) = claim_tells (first_of q + c.number) c.best.word (packed_frame (owned_word (frame_of c.best.word) q.class q.epoch q.by)) c.step e
      by (inr ne) = absurd (c.lost ne).1
