-- A `gc`: its epoch is wanted, and then it is done, or waited for on.
use Rattle.std.proofs.Common.{◌≡◌, ℕ, ◌+◌, ◌++◌, ◌∷◌, [], ◌<◌, ◌≤◌, Bool, true, false, cond, not, Option, Some, None}
use Rattle.std.proofs.Common.{◌⊎◌, slice_index, refl, sym, ap, ◌∙◌, subst, inl, inr}
use Rattle.kn_base.specs.declared.limits.TheConstants.{LOCALS}
use Rattle.kn_base.specs.declared.places.Place.TheVariants.{Phase, Want}
use Rattle.kn_base.specs.Pages.{FrameView}
use Rattle.kn_graph.specs.declared.calls.Call.TheVariants.{Collect}
use Rattle.kn_graph.specs.declared.calls.Reply.TheVariants as replies
use Rattle.kn_marking.specs.declared.work.Work.{Work}
use Rattle.kn_rule.specs.declared.positions.Position.{Position}
use Rattle.kn_rule.specs.declared.positions.Position.TheVariants as positions
use Rattle.kn_rule.specs.declared.steps.Action.TheVariants.{LoadsFor, Raises}
use Rattle.kn_rule.specs.declared.steps.Kind.TheVariants.{K13}
use Rattle.kn_rule.specs.Decoding.{phase_of}
use Rattle.kn_rule.specs.MarkSteps.{joined_by}
use Rattle.kn_rule.specs.Outcomes.{enters_for, epoch_told, poll_at, waited, waits_at, wanted_at}
use Rattle.kn_rule.specs.Outcomes as outcomes
use Rattle.kn_rule.specs.Phases.{is_run, pauses}
use Rattle.kn_rule.specs.Steps.{Found, Step, does, entry_of, epoch_in, found, logged, quietly}
use Rattle.kn_rule.specs.Views.{View}
use Rattle.kn_steps.specs.Made.{Made, Stand}
use Rattle.kn_steps.specs.declared.turns.Turn.{Turn}
use Rattle.kn_steps.specs.declared.turns.Turn.TheVariants.{Moved}
use Rattle.kn_alloc.specs.Agree.{IsIdle}
use Rattle.kn_mutator.specs.declared.task.Task.{Task}
use Rattle.kn_mutator.specs.declared.task.Task.TheVariants.{Calls, Enters, Leaves, Waits}
use Rattle.kn_mutator.specs.After.{awaited, resting_task, told_epoch}
use Rattle.kn_mutator.specs.Agree.{Agrees, AtTask, CallsAt, HasAnswered, HasEnded, Owes, Stands, UnderWay}
use Rattle.kn_mutator.specs.Begun.{WaitsIn}
use Rattle.kn_mutator.specs.Mutating.{Mutating}
use Rattle.kn_mutator.specs.Tasks.{answer_behind, has_left, has_single, idle_at, is_done, marker_behind, poll_for}
use Rattle.kn_mutator.specs.Tasks.{task_at, task_behind, task_by, task_step, waits_on}
use Rattle.kn_mutator.specs.Turns.{EntersFor, Goes, MakesStep, TurnedAt, asks_none}
use Rattle.kn_mutator.proofs.Calling.{calls_at, turn_by}
use Rattle.kn_mutator.proofs.Core.{addresses_made, agrees_then, agrees_with, answers_more, by_is, is_thread, loads_joined, rest_at, rest_is}
use Rattle.kn_mutator.proofs.Making.{goes_by, makes, not_done, rest_goes_on}
use Rattle.kn_mutator.proofs.Polling.{leaves_at}
use Rattle.kn_mutator.proofs.Turning.{idle_goes_on}

-- one that wants the epoch n, and stands at p
module _ (m : Mutating) (a : Stand) (here : ℕ → Bool) (g : Agrees m a here) (n : ℕ) (want : m.target ≡ Some n) (p : Position)
    (at : Stands m a.view p) where
  under : UnderWay m.log m.calls m.begun Collect
  under = subst (Owes m) want at.owes

  wanted : a.view.target ≡ Some n
  wanted = g.knows.target ∙ want

  module _ (f : Found) (b : Stand) (here' : ℕ → Bool) (made : Made a here (poll_for None) f b here') where
    idle : IsIdle m.alloc.stage
    idle = subst IsIdle (sym at.alloc) tt

    small : (r : ℕ) → r < LOCALS → slice_index b.view.locals r ≤ 1000000
    small = addresses_made a here (poll_for None) f b here' made g.alloc.good (is_thread m a here g)

    loaded : (run : Bool) → is_run (phase_of f.word).code ≡ run →
        b ≡ record a { view = logged (poll_at a.heap a.by a.view Phase (LoadsFor None) f p run None) }
    loaded run e =
        made.view ∙ (λ t. record a { view = logged (poll_at a.heap a.by a.view Phase (LoadsFor None) f (at.position t) (e t) None) })

    -- in a run phase the load is judged, wherever it stands
    pub judged_in : (p ≡ positions.Entering) ⊎ (p ≡ positions.Waiting) → is_run (phase_of f.word).code ≡ true →
        b ≡ record a { view = logged (waited a.heap a.by a.view Phase (LoadsFor None) f n) }
    judged_in (inl e) run =
        loaded true run ∙ ((λ t. record a { view = logged (poll_at a.heap a.by a.view Phase (LoadsFor None) f (e t) true None) })
        ∙ λ t. record a { view = logged (enters_for a.heap a.by a.view Phase (LoadsFor None) f (wanted t) None) })
    judged_in (inr e) run =
        loaded true run ∙ ((λ t. record a { view = logged (poll_at a.heap a.by a.view Phase (LoadsFor None) f (e t) true None) })
        ∙ λ t. record a { view = logged (waits_at a.heap a.by a.view Phase (LoadsFor None) f true (wanted t)) })

    -- in another phase one that waits is judged
    pub judged_out : p ≡ positions.Waiting → is_run (phase_of f.word).code ≡ false →
        b ≡ record a { view = logged (waits_at a.heap a.by a.view Phase (LoadsFor None) f false (Some n)) }
    judged_out e run =
        loaded false run ∙ ((λ t. record a { view = logged (poll_at a.heap a.by a.view Phase (LoadsFor None) f (e t) false None) })
        ∙ λ t. record a { view = logged (waits_at a.heap a.by a.view Phase (LoadsFor None) f false (wanted t)) })

    -- the epoch is done: its call is answered, and `polled` is the phase word polled last
    module _ (polled epoch : ℕ) (same : pauses (phase_of polled) ≡ epoch)
        (view : b ≡ record a { view = logged (epoch_told a.heap a.by a.view Phase (LoadsFor None) f polled n) }) where
      abbrev told : Mutating
      told = told_epoch (record m { epoch = epoch }) n f.word

      answered : HasAnswered told.log m.calls m.begun
      answered = answers_more (record m { epoch = pauses (phase_of f.word) }) Collect under (replies.Epoch n) 0

      pub told_agrees : Agrees told b here'
      told_agrees =
          let u : View = logged (epoch_told a.heap a.by a.view Phase (LoadsFor None) f polled n) in
          agrees_with m a here g idle b here' u view refl refl refl made.lies refl None m.begun epoch m.locals (resting_task m) told.log
          (record {
            locals = g.knows.locals;
            epoch = same;
            log = λ t. (g.knows.log t) ++ entry_of (by_is m a here g t) (pauses (phase_of f.word)) Collect (replies.Epoch n) 0 ∷ [];
            begun = g.knows.begun;
            target = refl;
          })
          g.births g.width small (rest_at told u refl answered refl at.alloc)

      pub told_task : resting_task m ≡ task_by told b.view
      told_task = sym (rest_is told b.view (ap (λ (x : Stand). x.view.position) view) answered)

    -- the epoch is not done, in a run phase
    module _ (view : b ≡ record a { view = logged (outcomes.waits_on a.heap a.by a.view Phase (LoadsFor None) f) }) where
      abbrev waiting : Mutating
      waiting = record m { epoch = pauses (phase_of f.word); task = Waits }

      pub waits_agrees : Agrees waiting b here'
      waits_agrees =
          let u : View = record a.view { position = positions.Waiting; polled = f.word } in
          agrees_then m a here g idle b here' u view refl refl refl made.lies refl m.begun (pauses (phase_of f.word)) m.locals Waits m.log
          (record { locals = g.knows.locals; epoch = refl; log = g.knows.log; begun = g.knows.begun; target = g.knows.target }) g.births g.width small
          (record { position = refl; owes = at.owes; alloc = at.alloc }, (n, want))

      pub waits_task : Waits ≡ task_by waiting b.view
      waits_task = sym (ap (λ (x : Stand). task_at (has_left m) (has_single m.alloc.hands) x.view.header x.view.position) view)

    -- it leaves
    pub leaves_waiting : b ≡ record a { view = logged (quietly (record a.view { position = positions.Leaving })) } →
        Agrees (record m { task = Leaves }) b here' × (Leaves ≡ task_by (record m { task = Leaves }) b.view)
    leaves_waiting view = (
      leaves_at m a here g at.owes idle None f b here' made positions.Leaving a.view.work refl (inl refl) view,
      sym (ap (λ (x : Stand). task_at (has_left m) (has_single m.alloc.hands) x.view.header x.view.position) view),
    )

    pub leaves_entering : p ≡ positions.Entering → is_run (phase_of f.word).code ≡ false → Agrees (record m { task = Leaves }) b here'
    leaves_entering e run =
        let work : Work = joined_by (phase_of f.word) a.view.work in
        leaves_at m a here g at.owes idle None f b here' made positions.Entering work (loads_joined f.word a.view.work) (inr refl)
        (loaded false run ∙ ((λ t. record a { view = logged (poll_at a.heap a.by a.view Phase (LoadsFor None) f (e t) false None) })
        ∙ λ t. record a { view = record a.view { position = (at.position ∙ e) t; work = work } }))

-- the turn of such a load, at the task t
module _ {T : Type 0} (stand : T → Stand) (here : T → ℕ → Bool) (did : T → Step → Found → T → Type 0)
    (moved : T → ℕ → Option FrameView → Option FrameView → T → Type 0) (m : Mutating) (s s' : T) (g : Agrees m (stand s) (here s)) (n : ℕ)
    (want : m.target ≡ Some n) (p : Position) (at : Stands m (stand s).view p) (w : ℕ) (page : FrameView)
    (made : Made (stand s) (here s) (poll_for None) (found w page) (stand s') (here s')) (kept : did s (poll_for None) (found w page) s')
    (t : Task) (is : m.task ≡ t) (named : task_step m t ≡ Some (poll_for None))
    (stays : marker_behind t w m.marker ≡ m.marker) (answer : answer_behind t m.target w ≡ idle_at w (waits_on m.target w))
    (turned : (m' : Mutating) (reply : Turn) → MakesStep stand here did moved m s s' m' reply →
    TurnedAt stand here did moved t asks_none m s s' m' reply) where
  goes_so : (m' : Mutating) → m'.task ≡ task_behind t w m' (stand s').view → m'.alloc ≡ m.alloc → m'.marker ≡ m.marker → m'.heap ≡ m.heap →
      m'.by ≡ m.by → m'.calls ≡ m.calls → Agrees m' (stand s') (here s') → (HasEnded m'.task → ⊥) → (idle : Bool) →
      idle ≡ waits_on (Some n) w →
      (q : Mutating) (reply : Turn) → q ≡ m' → reply ≡ idle_at w idle → Goes stand here did moved asks_none m s s' q reply
  goes_so m' task alloc marker heap by calls agrees on idle is_idle q reply is_q is_reply =
      let told : idle_at w idle ≡ answer_behind t m.target w =
      ap (idle_at w) is_idle ∙ sym (answer ∙ ap (λ target. idle_at w (waits_on target w)) want) in
      subst (λ r. Goes stand here did moved asks_none m s s' q r) (sym is_reply)
      (subst (λ (q : Mutating). Goes stand here did moved asks_none m s s' q (idle_at w idle)) (sym is_q)
      (goes_by stand here did moved m s s' m' (idle_at w idle) asks_none t is
      (turned m' (idle_at w idle)
      (makes stand here did moved m s s' m' (idle_at w idle) t is (poll_for None) (found w page) named made kept task alloc (marker ∙ sym stays) told))
      heap by calls agrees (not_done (idle_at w idle) m'.task (idle_goes_on w idle) on)))

  -- in a run phase, by whether the epoch is done
  in_by : (done : Bool) → is_done n w ≡ done → is_run (phase_of w).code ≡ true →
      ((m' : Mutating) → task_by m' (stand s').view ≡ task_behind t w m' (stand s').view) →
      stand s' ≡
      record (stand s) {
        view = logged (cond done (epoch_told (stand s).heap (stand s).by (stand s).view Phase (LoadsFor None) (found w page) w n)
            (outcomes.waits_on (stand s).heap (stand s).by (stand s).view Phase (LoadsFor None) (found w page)));
      } →
      (q : Mutating) (reply : Turn) →
      q ≡ cond done (told_epoch (record m { epoch = pauses (phase_of w) }) n w) (record m { epoch = pauses (phase_of w); task = Waits }) →
      reply ≡ idle_at w (not done) → Goes stand here did moved asks_none m s s' q reply
  in_by true e run behind view =
      let f : Found = found w page in
      let m' : Mutating = told_epoch (record m { epoch = pauses (phase_of w) }) n w in
      goes_so m'
      (told_task m (stand s) (here s) g n want p at f (stand s') (here s') made w (pauses (phase_of w)) refl view ∙ behind m') refl refl refl refl refl
      (told_agrees m (stand s) (here s) g n want p at f (stand s') (here s') made w (pauses (phase_of w)) refl view)
      (rest_goes_on (has_left m) (has_single m.alloc.hands)) false (sym (ap (λ d. cond d false (is_run (phase_of w).code)) e))
  in_by false e run behind view =
      let f : Found = found w page in
      let m' : Mutating = record m { epoch = pauses (phase_of w); task = Waits } in
      goes_so m' (waits_task m (stand s) (here s) g n want p at f (stand s') (here s') made view ∙ behind m') refl refl refl refl refl
      (waits_agrees m (stand s) (here s) g n want p at f (stand s') (here s') made view) (λ x. x) true
      (sym (ap (λ d. cond d false (is_run (phase_of w).code)) e ∙ run))

  -- in no run phase one that waits is answered, or leaves
  out_by : (done : Bool) → is_done n w ≡ done → is_run (phase_of w).code ≡ false →
      ((m' : Mutating) → task_by m' (stand s').view ≡ task_behind t w m' (stand s').view) →
      stand s' ≡
      record (stand s) {
        view = logged (cond done
            (epoch_told (stand s).heap (stand s).by (stand s).view Phase (LoadsFor None) (found w page) (stand s).view.polled n)
            (quietly (record (stand s).view { position = positions.Leaving })));
      } →
      (q : Mutating) → q ≡ cond done (told_epoch m n w) (record m { task = Leaves }) → Goes stand here did moved asks_none m s s' q Moved
  out_by true e run behind view q is_q =
      let f : Found = found w page in
      let m' : Mutating = told_epoch m n w in
      goes_so m'
      (told_task m (stand s) (here s) g n want p at f (stand s') (here s') made (stand s).view.polled m.epoch g.knows.epoch view ∙ behind m')
      refl refl refl refl refl
      (told_agrees m (stand s) (here s) g n want p at f (stand s') (here s') made (stand s).view.polled m.epoch g.knows.epoch view)
      (rest_goes_on (has_left m) (has_single m.alloc.hands)) false (sym (ap (λ d. cond d false (is_run (phase_of w).code)) e)) q Moved is_q refl
  out_by false e run behind view q is_q =
      let m' : Mutating = record m { task = Leaves } in
      let h = leaves_waiting m (stand s) (here s) g n want p at (found w page) (stand s') (here s') made view in
      goes_so m' (h.1 ∙ behind m') refl refl refl refl refl h.0 (λ x. x) false
      (sym (ap (λ d. cond d false (is_run (phase_of w).code)) e ∙ run)) q Moved is_q refl

-- those turns
module _ {T : Type 0} (stand : T → Stand) (here : T → ℕ → Bool) (did : T → Step → Found → T → Type 0)
    (moved : T → ℕ → Option FrameView → Option FrameView → T → Type 0) (m : Mutating) (s s' : T) (g : Agrees m (stand s) (here s)) where
  at_entering : m.task ≡ Enters → Stands m (stand s).view positions.Entering
  at_entering is = subst (λ t. AtTask t m (stand s).view) is g.at

  at_waiting : m.task ≡ Waits → Stands m (stand s).view positions.Waiting × ((n : ℕ) × (m.target ≡ Some n))
  at_waiting is = subst (λ t. AtTask t m (stand s).view) is g.at

  module _ (n : ℕ) (want : m.target ≡ Some n) where
    module _ (w : ℕ) (page : FrameView) (made : Made (stand s) (here s) (poll_for None) (found w page) (stand s') (here s'))
        (kept : did s (poll_for None) (found w page) s') where
      enters_turned : (m' : Mutating) (reply : Turn) → MakesStep stand here did moved m s s' m' reply →
          TurnedAt stand here did moved Enters asks_none m s s' m' reply
      enters_turned m' reply x = subst (λ o. EntersFor stand here did moved o asks_none m s s' m' reply) (sym want) x

      pub enters_in : m.task ≡ Enters → (run : Bool) → run ≡ is_run (phase_of w).code → run ≡ true → (q : Mutating) (reply : Turn) →
          WaitsIn m n w q reply → Goes stand here did moved asks_none m s s' q reply
      enters_in is run e ran q reply h =
          let runs = sym e ∙ ran in
          let at = at_entering is in
          in_by stand here did moved m s s' g n want positions.Entering at w page made kept Enters is refl refl refl enters_turned (is_done n w) refl runs
          (λ m'. sym (ap (λ r. cond r (task_by m' (stand s').view) Leaves) runs))
          (judged_in m (stand s) (here s) g n want positions.Entering at (found w page) (stand s') (here s') made (inl refl) runs) q reply h.0 h.1

      pub enters_out : m.task ≡ Enters → (run : Bool) → run ≡ is_run (phase_of w).code → run ≡ false → (q : Mutating) →
          q ≡ record m { task = Leaves } → Goes stand here did moved asks_none m s s' q Moved
      enters_out is run e ran q is_q =
          let stops = sym e ∙ ran in
          let at = at_entering is in
          let m' : Mutating = record m { task = Leaves } in
          goes_so stand here did moved m s s' g n want positions.Entering at w page made kept Enters is refl refl refl enters_turned m'
          (sym (ap (λ r. cond r (task_by m' (stand s').view) Leaves) stops)) refl refl refl refl refl
          (leaves_entering m (stand s) (here s) g n want positions.Entering at (found w page) (stand s') (here s') made refl stops) (λ x. x) false
          (not_on (is_done n w) (is_run (phase_of w).code) stops) q Moved is_q refl
        where
          not_on : (done run : Bool) → run ≡ false → false ≡ cond done false run
          not_on true run e = refl
          not_on false run e = sym e

      pub waits_in : m.task ≡ Waits → (run : Bool) → run ≡ is_run (phase_of w).code → run ≡ true → (q : Mutating) (reply : Turn) →
          WaitsIn m n w q reply → Goes stand here did moved asks_none m s s' q reply
      waits_in is run e ran q reply h =
          let runs = sym e ∙ ran in
          let at = (at_waiting is).0 in
          in_by stand here did moved m s s' g n want positions.Waiting at w page made kept Waits is refl refl refl (λ m' reply x. x) (is_done n w) refl runs
          (λ m'. refl)
          (judged_in m (stand s) (here s) g n want positions.Waiting at (found w page) (stand s') (here s') made (inr refl) runs) q reply h.0 h.1

      pub waits_out : m.task ≡ Waits → (run : Bool) → run ≡ is_run (phase_of w).code → run ≡ false → (q : Mutating) →
          q ≡ awaited m n w Leaves → Goes stand here did moved asks_none m s s' q Moved
      waits_out is run e ran =
          let stops = sym e ∙ ran in
          let at = (at_waiting is).0 in
          out_by stand here did moved m s s' g n want positions.Waiting at w page made kept Waits is refl refl refl (λ m' reply x. x) (is_done n w) refl stops
          (λ m'. refl)
          (judged_out m (stand s) (here s) g n want positions.Waiting at (found w page) (stand s') (here s') made refl stops)

  -- the epoch behind its own is wanted
  module _ (h : Option ℕ) (is : m.task ≡ Calls Collect h) (word : ℕ) (next : word ≡ m.epoch + 1) where
    pub collects : (f : Found) → Made (stand s) (here s) (does K13 Want (Raises word)) f (stand s') (here s') →
        did s (does K13 Want (Raises word)) f s' → (q : Mutating) → q ≡ record m { target = Some word; task = Waits } →
        Goes stand here did moved asks_none m s s' q Moved
    collects f made kept =
        let a : Stand = stand s in
        let at : CallsAt m a.view Collect h = calls_at m a (here s) g Collect h is in
        let d : Step = does K13 Want (Raises word) in
        let m' : Mutating = record m { target = Some word; task = Waits } in
        let u : View = record a.view { position = positions.Waiting; target = Some (epoch_in a.view + 1) } in
        let view : stand s' ≡ record a { view = u } =
        made.view ∙ (λ t. record a { view = logged (wanted_at a.heap a.by a.view Want (Raises word) f (at.position t)) }) in
        let agrees : Agrees m' (stand s') (here s') =
        agrees_with m a (here s) g (subst IsIdle (sym at.alloc) tt) (stand s') (here s') u view refl refl refl made.lies refl (Some word) m.begun m.epoch
        m.locals Waits m.log
        (record {
          locals = g.knows.locals;
          epoch = g.knows.epoch;
          log = g.knows.log;
          begun = g.knows.begun;
          target = ap (λ k. Some (k + 1)) g.knows.epoch ∙ ap Some (sym next);
        })
        g.births g.width (addresses_made a (here s) d f (stand s') (here s') made g.alloc.good (is_thread m a (here s) g))
        (record { position = refl; owes = at.under_way; alloc = at.alloc }, (word, refl)) in
        turn_by stand here did moved m s s' g Collect h is d f (ap (λ k. Some (does K13 Want (Raises k))) (sym next)) made kept made.lies m'
        (sym (ap (λ (x : Stand). task_at (has_left m) (has_single m.alloc.hands) x.view.header x.view.position) view)) refl refl refl refl refl agrees
        (λ x. x)
