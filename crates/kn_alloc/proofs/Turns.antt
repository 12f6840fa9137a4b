-- When a turn answers Full, when an object is born, what was done in it, and which stage lies behind it.
use Rattle.std.proofs.Common.{◌≡◌, ◌≢◌, ℕ, ◌+◌, ◌==◌, ◌⊎◌, ◌↔◌, inl, inr, Bool, true, false, cond}
use Rattle.std.proofs.Common.{Option, None, Some, slice_set, refl, sym, ap, ◌∙◌, subst}
use Rattle.std.proofs.lemmas.Bool.{cases_eq}
use Rattle.kn_base.specs.Pages.{FrameView}
use Rattle.kn_base.specs.declared.kinds.FrameKind.{FrameKind}
use Rattle.kn_base.specs.declared.kinds.FrameKind.TheVariants as frames
use Rattle.kn_base.specs.declared.numbers.FrameNo.{FrameNo}
use Rattle.kn_base.specs.declared.places.Place.TheVariants.{Frame, Side, Body}
use Rattle.kn_rule.specs.declared.steps.Action.TheVariants.{Stores}
use Rattle.kn_rule.specs.declared.steps.Kind.TheVariants.{K8, K11, K12}
use Rattle.kn_base.specs.declared.numbers.Span.{Span}
use Rattle.kn_rule.specs.Decoding.{frame_of}
use Rattle.kn_rule.specs.Steps.{Found as WasFound, Step, does}
use Rattle.kn_steps.specs.Made.{Stand}
use Rattle.kn_steps.specs.Turns.{MetUnswept, OneTurn}
use Rattle.kn_store.specs.declared.look.Look.{Look}
use Rattle.kn_store.specs.declared.look.Look.TheVariants as looks
use Rattle.kn_store.specs.Search.{Claims, GoesOn, IsOver, IsTurnOf, Search, first_of, with_refused}
use Rattle.kn_store.specs.Agree.{Turned as SearchTurned}
use Rattle.kn_page.specs.PageViews.{page_view}
use Rattle.kn_alloc.specs.declared.stage.Stage.{Stage}
use Rattle.kn_alloc.specs.declared.stage.Stage.TheVariants as stages
use Rattle.kn_alloc.specs.declared.stage.AllocTurn.{AllocTurn}
use Rattle.kn_alloc.specs.declared.stage.AllocTurn.TheVariants.{Moved, Born, Full}
use Rattle.kn_alloc.specs.Keeps.{Keeps, Tries, born_mark, found_stage, home_number, readied, stage_after, stage_behind, word_at}
use Rattle.kn_alloc.specs.Agree.{IsSweeping}
use Rattle.kn_alloc.specs.Tells.{IsBehind, IsKept}
use Rattle.kn_alloc.specs.Turns.{EndsOrGoesOn, IsBornAt, IsFullAt, IsRefused, Seeks, Turned, TurnedAt, answer_of}

never_full : (reply : AllocTurn) → reply ≡ Moved → (reply ≡ Full) ↔ ⊥
never_full reply is = (λ e. let h = sym is ∙ e in absurd (cc), λ h. absurd h)

never_born : (reply : AllocTurn) (address : ℕ) → reply ≡ Moved → (reply ≡ Born address) ↔ ⊥
never_born reply address is = (λ e. let h = sym is ∙ e in absurd (cc), λ h. absurd h)

full_denied : (reply : AllocTurn) (address : ℕ) → reply ≡ Full → (reply ≡ Born address) ↔ ⊥
full_denied reply address is = (λ e. let h = sym is ∙ e in absurd (cc), λ h. absurd h)

refused_full : (search : Search) (stage : Stage) (reply : AllocTurn) → EndsOrGoesOn search stage reply → (reply ≡ Full) ↔ IsOver search
refused_full search stage reply (inl h) = (λ _. h.0, λ _. h.2)
refused_full search stage reply (inr h) = (λ e. let x = sym h.2 ∙ e in absurd (cc), λ o. absurd (h.0 o))

refused_born : (search : Search) (stage : Stage) (reply : AllocTurn) (address : ℕ) → EndsOrGoesOn search stage reply → (reply ≡ Born address) ↔ ⊥
refused_born search stage reply address (inl h) = full_denied reply address h.2
refused_born search stage reply address (inr h) = never_born reply address h.2

seeks_born : (look : Look) (reply : AllocTurn) (address : ℕ) → reply ≡ answer_of look → (reply ≡ Born address) ↔ ⊥
seeks_born looks.Looking reply address is = never_born reply address is
seeks_born (looks.Found p w) reply address is = never_born reply address is
seeks_born looks.Full reply address is = full_denied reply address is

-- a turn of a search answers Full exactly where the search has ended
goes_full : (q : Search) (look : Look) → GoesOn q look → (look ≡ looks.Full) ↔ IsOver q
goes_full q looks.Looking h = (λ e. absurd (cc), λ o. absurd (h o))
goes_full q (looks.Found p w) h = absurd h
goes_full q looks.Full h = (λ _. h, λ _. refl)

claims_full : (q q' : Search) (d : Step) (w : ℕ) (look : Look) (c : Claims q d w q' look) → (w ≡ c.best.word) ⊎ (w ≢ c.best.word) →
    (look ≡ looks.Full) ↔ IsOver q'
claims_full q q' d w look c (inl e) =
    let h = c.won e in (
      λ f. let x = sym f ∙ h.1 in absurd (cc),
      λ o. let over = subst IsOver h.0 o in absurd (over.1 c.number c.best c.is_best.near c.is_best.at c.is_best.fit),
    )
claims_full q q' d w look c (inr ne) = goes_full q' look (c.lost ne).1

search_full : (q q' : Search) (d : Step) (w : ℕ) (look : Look) → IsTurnOf q d w q' look → (look ≡ looks.Full) ↔ IsOver q'
search_full q q' d w look (inl l) = goes_full q' look l.answer
search_full q q' d w look (inr c) = claims_full q q' d w look c (cases_eq w c.best.word)

full_of : (look : Look) (reply : AllocTurn) → reply ≡ answer_of look → (reply ≡ Full) ↔ (look ≡ looks.Full)
full_of looks.Looking reply is = (λ e. let h = sym is ∙ e in absurd (cc), λ e. absurd (cc))
full_of (looks.Found p w) reply is = (λ e. let h = sym is ∙ e in absurd (cc), λ e. absurd (cc))
full_of looks.Full reply is = (λ _. refl, λ _. is)

-- the stage behind each reply
behind_by : (reply r : AllocTurn) (m' n : Keeps) → reply ≡ r → m' ≡ n → IsBehind r n.stage → IsBehind reply m'.stage
behind_by reply r m' n is after h = subst (λ r. IsBehind r m'.stage) (sym is) (subst (λ (k : Keeps). IsBehind r k.stage) (sym after) h)

refused_behind : (search : Search) (stage : Stage) (reply : AllocTurn) → EndsOrGoesOn search stage reply → IsBehind reply stage
refused_behind search stage reply (inl h) = subst (λ r. IsBehind r stage) (sym h.2) h.1
refused_behind search stage reply (inr h) =
    subst (λ r. IsBehind r stage) (sym h.2) (subst (λ s. IsBehind Moved s) (sym h.1) (inl tt))

found_behind : (kind : FrameKind) (p old : ℕ) → IsBehind Moved (found_stage kind p old)
found_behind frames.Vacant p old = inl tt
found_behind frames.Empty p old = inl tt
found_behind frames.Ready p old = inl tt
found_behind frames.Used p old = inl tt
found_behind frames.Unswept p old = inr tt
found_behind frames.Owned p old = inl tt

look_behind : (look : Look) → IsBehind (answer_of look) (stage_behind look)
look_behind looks.Looking = inl tt
look_behind (looks.Found p old) = found_behind (frame_of old).kind p.0 old
look_behind looks.Full = refl

tried_behind : (page left : FrameView) (n : ℕ) (stage : Stage) → Tries page n left stage → IsBehind Moved stage
tried_behind page left n stage (inl t) = subst (λ s. IsBehind Moved s) (sym t.2) (inl tt)
tried_behind page left n stage (inr t) = subst (λ s. IsBehind Moved s) (sym t.2) (inl tt)

after_behind : (cell : Span) (i : ℕ) (last : Bool) → IsBehind Moved (cond last (stages.Bears cell) (stages.Clears cell (i + 1)))
after_behind cell i true = inl tt
after_behind cell i false = inl tt

-- a sweep comes only of a claim of an unswept frame
refused_quiet : (search : Search) (stage : Stage) (reply : AllocTurn) → EndsOrGoesOn search stage reply → IsSweeping stage → ⊥
refused_quiet search stage reply (inl h) w = subst IsSweeping h.1 w
refused_quiet search stage reply (inr h) w = subst IsSweeping h.1 w

tried_quiet : (page left : FrameView) (n : ℕ) (stage : Stage) → Tries page n left stage → IsSweeping stage → ⊥
tried_quiet page left n stage (inl t) w = subst IsSweeping t.2 w
tried_quiet page left n stage (inr t) w = subst IsSweeping t.2 w

after_quiet : (cell : Span) (i : ℕ) (last : Bool) → IsSweeping (cond last (stages.Bears cell) (stages.Clears cell (i + 1))) → ⊥
after_quiet cell i true w = w
after_quiet cell i false w = w

was_unswept : (kind : FrameKind) (p old : ℕ) → IsSweeping (found_stage kind p old) → kind ≡ frames.Unswept
was_unswept frames.Vacant p old w = absurd w
was_unswept frames.Empty p old w = absurd w
was_unswept frames.Ready p old w = absurd w
was_unswept frames.Used p old w = absurd w
was_unswept frames.Unswept p old w = refl
was_unswept frames.Owned p old w = absurd w

-- a turn of a search that found a frame claimed the word that it found there
claim_found : (q q' : Search) (d : Step) (w : ℕ) (p : FrameNo) (old : ℕ) (c : Claims q d w q' (looks.Found p old)) →
    (w ≡ c.best.word) ⊎ (w ≢ c.best.word) → (k : ℕ) × (d.place ≡ Frame k) × (old ≡ w)
claim_found q q' d w p old c (inl e) =
    (first_of q + c.number, ap (λ (d : Step). d.place) c.step, let h = (c.won e).1 in cc)
claim_found q q' d w p old c (inr ne) = absurd (c.lost ne).1

turn_found : (q q' : Search) (d : Step) (w : ℕ) (p : FrameNo) (old : ℕ) → IsTurnOf q d w q' (looks.Found p old) →
    (k : ℕ) × (d.place ≡ Frame k) × (old ≡ w)
turn_found q q' d w p old (inl l) = absurd l.answer
turn_found q q' d w p old (inr c) = claim_found q q' d w p old c (cases_eq w c.best.word)

module _ {T : Type 0} (stand : T → Stand) (here : T → ℕ → Bool) (did : T → Step → WasFound → T → Type 0)
    (moved : T → ℕ → Option FrameView → Option FrameView → T → Type 0) (m m' : Keeps) (s s' : T) (reply : AllocTurn) where
  -- a turn at the stage of what was kept
  pub turned_at : {x : Keeps} {stage : Stage} → x ≡ m → x.stage ≡ stage → TurnedAt stand here did moved stage m s s' m' reply →
      Turned stand here did moved m s s' m' reply
  turned_at is at t =
      subst (λ stage. TurnedAt stand here did moved stage m s s' m' reply) (sym (ap (λ (k : Keeps). k.stage) (sym is) ∙ at)) t

  pub born_told : (stage : Stage) (address : ℕ) → TurnedAt stand here did moved stage m s s' m' reply → (reply ≡ Born address) ↔ IsBornAt
      stage address
  born_told stages.Resting address t = absurd t
  born_told stages.TooLong address t = full_denied reply address t.answer
  born_told stages.Returns address t = never_born reply address t.answer
  born_told (stages.Refuses p w) address t = refused_born (with_refused m.search p) t.stage reply address t.behind
  born_told stages.Searches address t = seeks_born t.look reply address t.answer
  born_told (stages.Takes p w) address t = never_born reply address t.answer
  born_told (stages.Sweeps p) address t = absurd t
  born_told (stages.Clears cell i) address t = never_born reply address t.answer
  born_told (stages.Bears cell) address t =
      let is = t.answer in (
        λ e. let h = sym is ∙ e in cc,
        λ e. is ∙ ap Born e,
      )
  born_told (stages.PutsHome p w) address t = absurd t

  seeks_full : Seeks stand here did moved m s s' m' reply → (reply ≡ Full) ↔ IsOver m'.search
  seeks_full t =
      let a = full_of t.look reply t.answer in
      let b = search_full m.search t.search t.turned.step t.turned.found.word t.look t.turned.turn in
      let e = ap (λ (k : Keeps). k.search) t.after in
      (λ f. subst IsOver (sym e) (b.0 (a.0 f)), λ o. a.1 (b.1 (subst IsOver e o)))

  refuses_full : (p w : ℕ) → IsRefused stand here did moved p w m s s' m' reply → (reply ≡ Full) ↔ IsOver m'.search
  refuses_full p w t =
      let a = refused_full (with_refused m.search p) t.stage reply t.behind in
      let e = ap (λ (k : Keeps). k.search) t.after in
      (λ f. subst IsOver (sym e) (a.0 f), λ o. a.1 (subst IsOver e o))

  pub full_told : (stage : Stage) → TurnedAt stand here did moved stage m s s' m' reply → (reply ≡ Full) ↔ IsFullAt stage m'.search
  full_told stages.Resting t = absurd t
  full_told stages.TooLong t = (λ _. tt, λ _. t.answer)
  full_told stages.Returns t = never_full reply t.answer
  full_told (stages.Refuses p w) t = refuses_full p w t
  full_told stages.Searches t = seeks_full t
  full_told (stages.Takes p w) t = never_full reply t.answer
  full_told (stages.Sweeps p) t = absurd t
  full_told (stages.Clears cell i) t = never_full reply t.answer
  full_told (stages.Bears cell) t = (λ e. let h = sym t.answer ∙ e in absurd (cc), λ h. absurd h)
  full_told (stages.PutsHome p w) t = absurd t

  -- outside a request that is too long one step was made, or one page was moved
  pub one_told : (stage : Stage) → TurnedAt stand here did moved stage m s s' m' reply → stage ≢ stages.TooLong → OneTurn stand here did moved s s'
  one_told stages.Resting t ne = absurd t
  one_told stages.TooLong t ne = absurd (ne refl)
  one_told stages.Returns t ne =
      inr (record { frame = t.hand.frame; page = Some (page_view t.hand.page); result = t.result; made = t.made; kept = t.kept })
  one_told (stages.Refuses p w) t ne = inl (record { step = does K11 (Frame p) (Stores w); found = t.made.found; made = t.made.made; kept = t.made.kept })
  one_told stages.Searches t ne =
      inl (record { step = t.turned.step; found = t.turned.found; made = t.turned.made; kept = t.turned.kept })
  one_told (stages.Takes p w) t ne = inr (record { frame = p; page = None; result = Some t.page; made = t.made; kept = t.kept })
  one_told (stages.Sweeps p) t ne = absurd t
  one_told (stages.Clears cell i) t ne = inl (record {
    step = does K12 (Body (cell.start + i)) (Stores (word_at m i));
    found = t.made.found;
    made = t.made.made;
    kept = t.made.kept;
  })
  one_told (stages.Bears cell) t ne = inl (record {
    step = does K8 (Side cell.start) (Stores (born_mark m.epoch));
    found = t.made.found;
    made = t.made.made;
    kept = t.made.kept;
  })
  one_told (stages.PutsHome p w) t ne = absurd t

  pub behind_told : (stage : Stage) → TurnedAt stand here did moved stage m s s' m' reply → IsBehind reply m'.stage
  behind_told stages.Resting t = absurd t
  behind_told stages.TooLong t = behind_by reply Full m' (record m { stage = stages.Resting }) t.answer t.after refl
  behind_told stages.Returns t =
      let n : Keeps = record m { hands = slice_set m.hands m.class None; stage = stages.Refuses t.hand.frame (home_number t.hand) } in
      behind_by reply Moved m' n t.answer t.after (inl tt)
  behind_told (stages.Refuses p w) t =
      subst (λ (k : Keeps). IsBehind reply k.stage) (sym t.after) (refused_behind (with_refused m.search p) t.stage reply t.behind)
  behind_told stages.Searches t =
      behind_by reply (answer_of t.look) m' (record m { search = t.search; stage = stage_behind t.look }) t.answer t.after (look_behind t.look)
  behind_told (stages.Takes p w) t =
      behind_by reply Moved m' (record m { hands = slice_set m.hands m.class (Some t.hand); stage = t.stage }) t.answer t.after
      (tried_behind (readied (frame_of w).kind m.class t.page) (page_view t.hand.page) m.words t.stage t.tries)
  behind_told (stages.Sweeps p) t = absurd t
  behind_told (stages.Clears cell i) t =
      behind_by reply Moved m' (record m { stage = stage_after cell i }) t.answer t.after (after_behind cell i (i + 1 == cell.len))
  behind_told (stages.Bears cell) t = behind_by reply (Born cell.start) m' (record m { stage = stages.Resting }) t.answer t.after refl
  behind_told (stages.PutsHome p w) t = absurd t

  pub kept_told : (stage : Stage) → TurnedAt stand here did moved stage m s s' m' reply → IsKept m m'
  kept_told stages.Resting t = absurd t
  kept_told stages.TooLong t = subst (IsKept m) (sym t.after) (refl, refl)
  kept_told stages.Returns t = subst (IsKept m) (sym t.after) (refl, refl)
  kept_told (stages.Refuses p w) t = subst (IsKept m) (sym t.after) (refl, refl)
  kept_told stages.Searches t = subst (IsKept m) (sym t.after) (refl, refl)
  kept_told (stages.Takes p w) t = subst (IsKept m) (sym t.after) (refl, refl)
  kept_told (stages.Sweeps p) t = absurd t
  kept_told (stages.Clears cell i) t = subst (IsKept m) (sym t.after) (refl, refl)
  kept_told (stages.Bears cell) t = subst (IsKept m) (sym t.after) (refl, refl)
  kept_told (stages.PutsHome p w) t = absurd t

  met : (q q' : Search) (look : Look) → SearchTurned stand here did q s s' q' look → IsSweeping (stage_behind look) →
      MetUnswept stand here did moved s s'
  met q q' looks.Looking t w = absurd w
  met q q' looks.Full t w = absurd w
  met q q' (looks.Found p old) t w =
      let h = turn_found q q' t.step t.found.word p old t.turn in
      record {
        one = record { step = t.step; found = t.found; made = t.made; kept = t.kept };
        frame = h.0;
        place = h.1;
        unswept = ap (λ w. (frame_of w).kind) (sym h.2) ∙ was_unswept (frame_of old).kind p.0 old w;
      }

  pub unswept_told : (stage : Stage) → TurnedAt stand here did moved stage m s s' m' reply → IsSweeping m'.stage → MetUnswept stand here did moved s s'
  unswept_told stages.Resting t w = absurd t
  unswept_told stages.TooLong t w = absurd (subst (λ (k : Keeps). IsSweeping k.stage) t.after w)
  unswept_told stages.Returns t w = absurd (subst (λ (k : Keeps). IsSweeping k.stage) t.after w)
  unswept_told (stages.Refuses p w) t sweeping =
      absurd (refused_quiet (with_refused m.search p) t.stage reply t.behind (subst (λ (k : Keeps). IsSweeping k.stage) t.after sweeping))
  unswept_told stages.Searches t w = met m.search t.search t.look t.turned (subst (λ (k : Keeps). IsSweeping k.stage) t.after w)
  unswept_told (stages.Takes p old) t w =
      absurd (tried_quiet (readied (frame_of old).kind m.class t.page) (page_view t.hand.page) m.words t.stage t.tries
      (subst (λ (k : Keeps). IsSweeping k.stage) t.after w))
  unswept_told (stages.Sweeps p) t w = absurd t
  unswept_told (stages.Clears cell i) t w =
      absurd (after_quiet cell i (i + 1 == cell.len) (subst (λ (k : Keeps). IsSweeping k.stage) t.after w))
  unswept_told (stages.Bears cell) t w = absurd (subst (λ (k : Keeps). IsSweeping k.stage) t.after w)
  unswept_told (stages.PutsHome p w) t sweeping = absurd t
