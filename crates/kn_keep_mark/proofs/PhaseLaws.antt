-- The laws of the stores of a stop and of Mark.
use Rattle.std.proofs.Common.{◌≡◌, ◌≢◌, ℕ, zero, suc, ◌+◌, ◌<◌, ◌≤◌, ◌⊎◌, ◌-◌, inl, inr, Bool, true, false}
use Rattle.std.proofs.Common.{slice_get, replicate}
use Rattle.std.proofs.Common.{Some, refl, sym, subst, ap, ◌∙◌, arith}
use Rattle.kn_base.specs.declared.places.Place.TheVariants.{Phase, Want, Pending, RootSet, Side, Body}
use Rattle.kn_base.specs.declared.kinds.Code.{Code}
use Rattle.kn_base.specs.declared.kinds.Code.TheVariants as codes
use Rattle.kn_base.specs.declared.phase_word.PhaseWord.{PhaseWord}
use Rattle.kn_base.specs.Words.{IsPhaseWord, packed_phase}
use Rattle.kn_base.specs.Functions.{upd}
use Rattle.kn_base.proofs.Updates.{upd_same}
use Rattle.kn_graph.specs.Ground.{Ground, IsGoodGround}
use Rattle.kn_graph.specs.Graph.{Graph, shapes}
use Rattle.kn_graph.proofs.LegalGraphs.{legal_sound}
use Rattle.kn_marking.specs.declared.work.Work.{Work}
use Rattle.kn_marking.specs.Marking.{Marking, Shares}
use Rattle.kn_marking.specs.Shares.{joined}
use Rattle.kn_marking.proofs.Changes.{each_upd}
use Rattle.kn_marking.proofs.Quiet.{epoch_seen}
use Rattle.kn_rule.specs.declared.steps.Kind.TheVariants.{K14}
use Rattle.kn_rule.specs.declared.steps.Action.TheVariants.{Stores}
use Rattle.kn_rule.specs.Places.{put}
use Rattle.kn_rule.specs.Views.{Views, State, Collecting, views_of}
use Rattle.kn_rule.specs.Steps.{Found, Outcome, does, callers}
use Rattle.kn_rule.specs.MarkedHeap.{heap_of}
use Rattle.kn_rule.specs.MarkSteps.{joined_by}
use Rattle.kn_rule.specs.Outcomes.{counted_from, paused_at, phase_stored}
use Rattle.kn_rule.specs.Allowed.{Collects, MayStop, MayMark}
use Rattle.kn_rule.specs.Moves.{stepped_by}
use Rattle.kn_rule.specs.CallerClauses.{IsIn, IsInOrLeaving, IsSince, IsStill, MayOwn, IsAtRest, Working}
use Rattle.kn_rule.specs.MarkClauses.{IsHeaderRead, Phased}
use Rattle.kn_rule.specs.Decoding.{phase_of}
use Rattle.kn_rule.specs.Phases.{is_stop, pauses, last_done}
use Rattle.kn_rule.proofs.Decodings.{phase_packed, phase_packs}
use Rattle.kn_rule.specs.Rule.{Rule, RuleOf}
use Rattle.kn_keep_heap.proofs.Phases.{phased_out}
use Rattle.kn_keep_heap.proofs.PollLaws.{in_leaves}
use Rattle.kn_keep_heap.proofs.Wants.{want_few}
use Rattle.kn_keep_mark.proofs.Collected.{collected}
use Rattle.kn_keep_mark.proofs.CollectorLaws.{ended_kept, counted_kept, working_kept, known_kept, by_me}
use Rattle.kn_keep_mark.proofs.Opening.{opened}

module _ (z : Ground) (s : State) (g : Graph) (rule : RuleOf z g s.word s.page (views_of s.caller) s.history) (by : ℕ)
    (here : ℕ → Bool) (collects : Collects z by (s.caller by) here) (f : Found) where
  abbrev V : Views
  V = views_of s.caller

  abbrev old : Collecting
  old = (s.caller by).collecting

  abbrev W : ℕ
  W = s.word Phase

  abbrev works : ℕ → Work
  works = λ c. (s.caller c).work

  same_phase : phase_of old.stored ≡ phase_of W
  same_phase = by_me z s g rule by here collects f

  module _ (v : PhaseWord) (good : IsPhaseWord v) (work : Work) (part : Collecting) (is : part.stored ≡ packed_phase v)
      (same : part.ended ≡ old.ended)
      (less : part.wanted ≡ old.wanted) (paused : pauses v ≡ pauses (phase_of W)) (done : last_done v ≡ last_done (phase_of W))
      (some : v.code ≢ codes.Idle → 1 ≤ v.epoch) (reached : v.epoch ≤ s.word Want)
      (since : (c : ℕ) → c < z.sizes.threads → IsIn (V.position c) → IsSince (phase_of (V.polled c)) v)
      (no_sweep : (phase_of W).code ≢ codes.Sweep)
      (still : IsStill v.code → (i : ℕ) → i < z.sizes.threads → ¬ IsInOrLeaving (V.position i))
      (working : Working z (packed_phase v) (s.word Pending) part.over)
      (stopping : is_stop v.code ≡ true → (i : ℕ) → i < z.sizes.threads → slice_get part.counted i ≡ Some true →
      ¬ IsInOrLeaving (V.position i))
      (phased : Phased z g.paused g.born (shapes g) (put s.word Phase (packed_phase v)) (upd works by work)) where
    back : v ≡ phase_of (packed_phase v)
    back = sym (phase_packed v)

    phase_rule : RuleOf z g (put s.word Phase (packed_phase v)) s.page
        (views_of (upd s.caller by (record (s.caller by) { work = work; collecting = part }))) s.history
    phase_rule =
        let want = rule.stands.wanted in
        let ended = ended_kept z s g rule by here collects f in
        collected z s g rule by work part collects.collector (packed_phase v)
        (record {
          packs = phase_packs v good;
          now = rule.stands.timed.now ∙ (sym paused ∙ ap pauses back);
          last = rule.stands.timed.last ∙ (sym done ∙ ap last_done back);
          by_collector = sym is;
          some = subst (λ (x : PhaseWord). x.code ≢ codes.Idle → 1 ≤ x.epoch) back some;
        })
        (record {
          since = λ c l i. subst (λ x. IsSince (phase_of (V.polled c)) x) back (since c l i);
          untargeted = rule.stands.polling.untargeted;
          due = rule.stands.polling.due;
          targets = rule.stands.polling.targets;
        })
        (record { each = λ c p o l e. owner c (rule.stands.owners.each c p o l e) })
        (record {
          seen = λ i l e. ended.seen i l (ap (λ x. slice_get x i) (sym same) ∙ e);
          all = ended.all;
        })
        (record {
          still = λ h. still (subst (λ (x : PhaseWord). IsStill x.code) (sym back) h);
          stopping = λ h. stopping (subst (λ (x : PhaseWord). is_stop x.code ≡ true) (sym back) h);
        })
        (record {
          reached = subst (λ (x : PhaseWord). x.epoch ≤ s.word Want) back reached;
          known = let l = known_kept z s g rule by here collects f in omega (arith, less, l);
          targets = want.targets;
          few = want.few;
        })
        working phased
      where
        owner : (c : ℕ) → MayOwn z W V.position c → MayOwn z (packed_phase v) V.position c
        owner c (inl h) = inl h
        owner c (inr h) = absurd (no_sweep h.1)

  -- a mutator that polled is in the same way behind the stop
  since_stop_at : (e : ℕ) (c : Code) (at : PhaseWord) → at.code ≡ codes.Idle → IsSince (record { epoch = e; code = c }) at →
      IsSince (record { epoch = e; code = c }) (record { epoch = at.epoch + 1; code = codes.StopA })
  since_stop_at e codes.Idle at idle (inl h) = inr (ap (λ n. n + 1) h.0, refl)
  since_stop_at e codes.Idle at idle (inr h) = let x : codes.Idle ≡ codes.StopA = sym idle ∙ h.1 in absurd (cc)
  since_stop_at e codes.Weak at idle (inl h) = let x : codes.Idle ≡ codes.Weak = sym idle ∙ h.1 in absurd (cc)
  since_stop_at e codes.Weak at idle (inr h) = let x : codes.Idle ≡ codes.StopB = sym idle ∙ h.1 in absurd (cc)
  since_stop_at e codes.Sweep at idle (inl h) = let x : codes.Idle ≡ codes.Sweep = sym idle ∙ h.1 in absurd (cc)
  since_stop_at e codes.Sweep at idle (inr (inl h)) = inr (inr (ap (λ n. n + 1) h.0, refl))
  since_stop_at e codes.Sweep at idle (inr (inr h)) = let x : codes.Idle ≡ codes.StopA = sym idle ∙ h.1 in absurd (cc)
  since_stop_at e _ at idle h = absurd h

  paused_stop : (at : PhaseWord) → at.code ≡ codes.Idle → pauses (record { epoch = at.epoch + 1; code = codes.StopA }) ≡ pauses at
  paused_stop at idle = let x = ap (λ c. pauses (record { epoch = at.epoch; code = c })) idle in omega (arith, x)

  done_stop : (at : PhaseWord) → at.code ≡ codes.Idle → last_done (record { epoch = at.epoch + 1; code = codes.StopA }) ≡ last_done at
  done_stop at idle = let x = ap (λ c. last_done (record { epoch = at.epoch; code = c })) idle in omega (arith, x)

  none_counted : (n i : ℕ) → slice_get (replicate n false) i ≡ Some true → ⊥
  none_counted zero i e = cc
  none_counted (suc n) zero e = cc
  none_counted (suc n) (suc i) e = none_counted n i e

  -- what a store of the word of a phase makes of the view, and says
  abbrev outcome_for : ℕ → PhaseWord → Outcome
  outcome_for w x = record {
    view = record (s.caller by) {
      work = joined_by x (s.caller by).work;
      collecting = record old { stored = w; counted = counted_from z by (s.caller by) Phase (Stores w) f x.code old.counted };
    };
    says = paused_at z by (s.caller by) Phase (Stores w) f x.code x.epoch;
  }

  abbrev pub Stored : ℕ → Type 0
  Stored w = Rule z (stepped_by s by (does K14 Phase (Stores w)) f (phase_stored z by (s.caller by) Phase (Stores w) f))

  stored_as : (v : PhaseWord) → Rule z (stepped_by s by (does K14 Phase (Stores (packed_phase v))) f (outcome_for (packed_phase v) v)) →
      Stored (packed_phase v)
  stored_as v r =
      subst (λ x. Rule z (stepped_by s by (does K14 Phase (Stores (packed_phase v))) f (outcome_for (packed_phase v) x))) (sym (phase_packed v)) r

  -- the marking stays over with the store of a stop, and goes on with that of Mark
  stop_working : (phase_of W).code ≡ codes.Idle → (e : ℕ) →
      Working z (packed_phase (record { epoch = e; code = codes.StopA })) (s.word Pending) old.over
  stop_working idle e =
      let was = working_kept z s g rule by here collects f in
      let out : (phase_of W).code ≢ codes.Mark = λ h. let x : codes.Idle ≡ codes.Mark = sym idle ∙ h in cc in
      record {
        none = was.none;
        all = λ _. was.all out;
        at_rest = λ _. was.at_rest (subst (λ c. IsAtRest c) (sym idle) tt);
      }

  mark_working : (w e : ℕ) → MayMark z by (s.caller by) here w →
      Working z (packed_phase (record { epoch = e; code = codes.Mark })) (s.word Pending) old.over
  mark_working w e m =
      let code = ap (λ (x : PhaseWord). x.code) (phase_packed (record { epoch = e; code = codes.Mark })) in
      let was = working_kept z s g rule by here collects f in
      record {
        none = was.none;
        all = λ out. absurd (out code);
        at_rest = λ h. absurd (subst (λ c. IsAtRest c) code h);
      }

  stop_stored : IsGoodGround z → (w : ℕ) → MayStop z by (s.caller by) here w → Stored w
  stop_stored good w m =
      let old_phase = phase_of W in
      let idle : old_phase.code ≡ codes.Idle = ap (λ (x : PhaseWord). x.code) (sym same_phase) ∙ m.idle in
      let out : old_phase.code ≢ codes.Mark = λ h. let x : codes.Idle ≡ codes.Mark = sym idle ∙ h in cc in
      let same : (phase_of old.stored).epoch ≡ old_phase.epoch = ap (λ (x : PhaseWord). x.epoch) same_phase in
      let v : PhaseWord = record { epoch = old_phase.epoch + 1; code = codes.StopA } in
      let code = ap (λ (x : PhaseWord). x.code) (phase_packed v) in
      let few = want_few z g s.history V.log V.position V.target V.calls V.births W (s.word Want) (V.rest z.sizes.threads).collecting.wanted good
      rule.told rule.stands.wanted in
      let wish = m.wanted in let known = known_kept z s g rule by here collects f in
      let value : packed_phase v ≡ w = sym (m.value ∙ ap (λ n. packed_phase (record { epoch = n + 1; code = codes.StopA })) same) in
      subst (λ n. Stored n) value (stored_as v (
        g,
        phase_rule v (omega (arith, same, few, wish, known)) (s.caller by).work
            (record old { stored = packed_phase v; counted = replicate z.sizes.threads false }) refl refl refl
            (paused_stop old_phase idle) (done_stop old_phase idle) (λ _. omega arith) (omega (arith, same, wish, known))
            (λ c l i. since_stop_at (phase_of (V.polled c)).epoch (phase_of (V.polled c)).code old_phase idle (rule.stands.polling.since c l i))
            (λ e. let x : codes.Idle ≡ codes.Sweep = sym idle ∙ e in cc)
            (λ h. absurd h)
            (stop_working idle (old_phase.epoch + 1))
            (λ _ i l e. absurd (none_counted z.sizes.threads i e))
            (subst (λ (x : ℕ → Work). Phased z g.paused g.born (shapes g) (put s.word Phase (packed_phase v)) x)
            (sym (upd_same works by (s.caller by).work refl))
            (phased_out z g.paused g.born (shapes g) (put s.word Phase (packed_phase v)) works
            (λ e. let x : codes.StopA ≡ codes.Mark = sym code ∙ e in cc) (rule.phased.at_rest out))),
      ))

  -- the marking begins with the store of Mark
  module _ (v : PhaseWord) (is_next : v.epoch ≡ g.paused + 1) (is_mark : v.code ≡ codes.Mark) (out : (phase_of W).code ≢ codes.Mark)
      (all : s.word Pending ≡ z.sizes.threads + 2) where
    abbrev joins : Work
    joins = joined (s.caller by).work v.epoch

    begun : Marking (heap_of z g.born (shapes g) s.word) g.paused (phase_of (packed_phase v)).epoch (callers z.sizes) (λ a. s.word (Side a))
        (λ j. s.word (RootSet j)) works (s.word Pending)
    begun =
        let m = opened z g (legal_sound z s.history g rule.told.leads) s.word works rule.stands.headed (rule.phased.at_rest out) in
        let epoch : g.paused + 1 ≡ (phase_of (packed_phase v)).epoch = sym is_next ∙ sym (ap (λ (x : PhaseWord). x.epoch) (phase_packed v)) in
        subst (λ e. Marking (heap_of z g.born (shapes g) s.word) g.paused e (callers z.sizes) (λ a. s.word (Side a)) (λ j. s.word (RootSet j))
        works (s.word Pending)) epoch
        (subst (λ n. Marking (heap_of z g.born (shapes g) s.word) g.paused (g.paused + 1) (callers z.sizes) (λ a. s.word (Side a))
        (λ j. s.word (RootSet j)) works n) (sym all) m)

    no_header : (c : ℕ) → c < callers z.sizes → IsHeaderRead (λ a. s.word (Body a)) (works c).doing
    no_header c l = subst (λ d. IsHeaderRead (λ a. s.word (Body a)) d) (sym ((rule.phased.at_rest out).shares.idle c l).free) tt

    pub marks_begun : Phased z g.paused g.born (shapes g) (put s.word Phase (packed_phase v)) (upd works by joins)
    marks_begun =
        let near : by < callers z.sizes = let e = collects.collector in omega (arith, e) in
        let m = begun in
        let e = (phase_of (packed_phase v)).epoch in
        let code = ap (λ (x : PhaseWord). x.code) (phase_packed v) ∙ is_mark in
        record {
          in_mark = λ _. record {
            marking = record {
              next = m.next;
              colours = m.colours;
              closed = m.closed;
              shares = subst (λ n. Shares (heap_of z g.born (shapes g) s.word) e (callers z.sizes) (λ a. s.word (Side a)) (λ j. s.word (RootSet j))
                  (upd works by (joined (s.caller by).work n)) (s.word Pending)) (ap (λ (x : PhaseWord). x.epoch) (phase_packed v))
                  (epoch_seen (heap_of z g.born (shapes g) s.word) e (callers z.sizes) (λ a. s.word (Side a)) (λ j. s.word (RootSet j)) works
                  (s.word Pending) m.shares by near);
            };
            headers = λ c l. each_upd (λ (x : Work). IsHeaderRead (λ a. s.word (Body a)) x.doing) works by joins (no_header by near) c (no_header c l);
          };
          at_rest = λ n. absurd (n code);
        }

  mark_stored : IsGoodGround z → (w : ℕ) → MayMark z by (s.caller by) here w → Stored w
  mark_stored good w m =
      let old_phase = phase_of W in
      let stop : old_phase.code ≡ codes.StopA = ap (λ (x : PhaseWord). x.code) (sym same_phase) ∙ m.stopped in
      let out : old_phase.code ≢ codes.Mark = λ h. let x : codes.StopA ≡ codes.Mark = sym stop ∙ h in cc in
      let busy : old_phase.code ≢ codes.Idle = λ h. let x : codes.StopA ≡ codes.Idle = sym stop ∙ h in cc in
      let same : (phase_of old.stored).epoch ≡ old_phase.epoch = ap (λ (x : PhaseWord). x.epoch) same_phase in
      let v : PhaseWord = record { epoch = old_phase.epoch; code = codes.Mark } in
      let some : 1 ≤ old_phase.epoch = rule.stands.timed.some busy in
      let now : g.paused ≡ old_phase.epoch - 1 = rule.stands.timed.now ∙ ap (λ c. pauses (record { epoch = old_phase.epoch; code = c })) stop in
      let gone : (i : ℕ) → i < z.sizes.threads → ¬ IsInOrLeaving (V.position i) =
      λ i l. (counted_kept z s g rule by here collects f).stopping (ap is_stop stop) i l (m.counted i l) in
      let value : packed_phase v ≡ w = sym (m.value ∙ ap (λ n. packed_phase (record { epoch = n; code = codes.Mark })) same) in
      let reached = rule.stands.wanted.reached in
      subst (λ n. Stored n) value (stored_as v (
        g,
        phase_rule v (rule.stands.timed.packs.ranges) (joined (s.caller by).work v.epoch) (record old { stored = packed_phase v }) refl refl refl
            (sym (ap (λ c. pauses (record { epoch = old_phase.epoch; code = c })) stop))
            (sym (ap (λ c. last_done (record { epoch = old_phase.epoch; code = c })) stop))
            (λ _. some) reached
            (λ c l i. absurd (gone c l (in_leaves (V.position c) i)))
            (λ e. let x : codes.StopA ≡ codes.Sweep = sym stop ∙ e in cc)
            (λ _. gone)
            (mark_working w old_phase.epoch m)
            (λ h. absurd (cc))
            (marks_begun v (omega (arith, now, some)) refl out ((working_kept z s g rule by here collects f).all out m.begun)),
      ))

  pub stop_or_mark_stored : IsGoodGround z → (w : ℕ) → MayStop z by (s.caller by) here w ⊎ MayMark z by (s.caller by) here w → Stored w
  stop_or_mark_stored good w (inl m) = stop_stored good w m
  stop_or_mark_stored good w (inr m) = mark_stored good w m
