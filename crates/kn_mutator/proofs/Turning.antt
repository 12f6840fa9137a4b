-- A step of a task, and the turn that it makes.
use Rattle.std.proofs.Common.{◌≡◌, ℕ, Bool, true, false, cond, Option, None, refl, sym, ap, ◌∙◌, subst}
use Rattle.kn_base.specs.declared.kinds.Code.{Code}
use Rattle.kn_base.specs.declared.kinds.Code.TheVariants as codes
use Rattle.kn_base.specs.declared.places.Place.TheVariants.{Local, Phase, State as StateOf}
use Rattle.kn_rule.specs.declared.positions.Position.TheVariants as positions
use Rattle.kn_rule.specs.declared.steps.Action.TheVariants.{LoadsFor, Stores}
use Rattle.kn_rule.specs.declared.steps.Kind.TheVariants.{K2, K3}
use Rattle.kn_rule.specs.MarkSteps.{joined_by}
use Rattle.kn_rule.specs.Outcomes.{write_at}
use Rattle.kn_rule.specs.Decoding.{phase_of}
use Rattle.kn_rule.specs.Phases.{is_run}
use Rattle.kn_rule.specs.Steps.{Found, Step, does, logged}
use Rattle.kn_rule.specs.Views.{View}
use Rattle.kn_base.specs.Pages.{FrameView}
use Rattle.kn_steps.specs.Made.{Made, Stand}
use Rattle.kn_steps.specs.declared.turns.Turn.{Turn}
use Rattle.kn_steps.specs.declared.turns.Turn.TheVariants.{Moved, Done}
use Rattle.kn_safepoint.specs.declared.stage.Enter.{Enter}
use Rattle.kn_safepoint.specs.declared.stage.Enter.TheVariants as enters
use Rattle.kn_safepoint.specs.declared.stage.Stage.TheVariants as stages
use Rattle.kn_safepoint.specs.Stages.{answer_behind}
use Rattle.kn_alloc.specs.Agree.{IsIdle}
use Rattle.kn_mutator.specs.declared.task.Task.{Task}
use Rattle.kn_mutator.specs.declared.task.Task.TheVariants.{Out, GoesIn, Enters, Writes}
use Rattle.kn_mutator.specs.Agree.{Agrees, AtTask, HasEnded, Rests, Stands}
use Rattle.kn_mutator.specs.After.{resting_task}
use Rattle.kn_mutator.specs.Mutating.{Mutating}
use Rattle.kn_mutator.specs.Tasks.{has_left, has_single, idle_at, poll_for, started_at, task_at, task_for, task_out, told}
use Rattle.kn_mutator.specs.Turns.{Goes, asks_none}
use Rattle.kn_mutator.proofs.Making.{goes_by, makes, moves_on, not_done, rest_goes_on}
use Rattle.kn_mutator.proofs.Core.{addresses_made, agrees_then, is_thread, loads_joined, rest_at}

-- behind a look by one that is out: a phase of Mark brings its epoch
abbrev pub looking : View → ℕ → View
looking v w = record v { work = joined_by (phase_of w) v.work }

module _ (m : Mutating) (a : Stand) (here : ℕ → Bool) (g : Agrees m a here) where
  at_task : (t : Task) → m.task ≡ t → AtTask t m a.view
  at_task t e = subst (λ t. AtTask t m a.view) e g.at

  -- the store of the state by a caller that goes in
  module _ (is : m.task ≡ GoesIn) where
    at_in : Stands m a.view positions.Out
    at_in = at_task GoesIn is

    pub went_in : (f : Found) (b : Stand) (here' : ℕ → Bool) → Made a here (does K2 (StateOf m.by) (Stores 1)) f b here' →
        Agrees (record m { task = Enters }) b here'
    unfolding at_in
    went_in f b here' made =
        let r = at_in in
        let u : View = record a.view { position = positions.Entering } in
        agrees_then m a here g (subst IsIdle (sym r.alloc) tt) b here' u made.view refl refl refl made.lies refl m.begun m.epoch m.locals Enters m.log
        (record { locals = g.knows.locals; epoch = g.knows.epoch; log = g.knows.log; begun = g.knows.begun; target = g.knows.target }) g.births g.width
        (addresses_made a here (does K2 (StateOf m.by) (Stores 1)) f b here' made g.alloc.good (is_thread m a here g))
        (record { position = refl; owes = r.owes; alloc = r.alloc })

  -- a look at the phase by a caller that is out
  module _ (is : m.task ≡ Out) where
    at_out : Stands m a.view positions.Out
    at_out = at_task Out is

    pub looked_view : (f : Found) (b : Stand) (here' : ℕ → Bool) → Made a here (poll_for None) f b here' →
        b ≡ record a { view = looking a.view f.word }
    unfolding at_out
    looked_view f b here' made =
        made.view
        ∙ (λ t. record a {
          view = logged (Rattle.kn_rule.specs.Outcomes.poll_at a.heap a.by a.view Phase (LoadsFor None) f (at_out.position t)
              (is_run (phase_of f.word).code) None);
        })

    pub looked : (f : Found) (b : Stand) (here' : ℕ → Bool) → Made a here (poll_for None) f b here' → (task : Task) →
        (Stands m a.view positions.Out → AtTask task (record m { task = task }) (looking a.view f.word)) → Agrees (record m { task = task }) b here'
    unfolding at_out
    looked f b here' made task at =
        let u : View = looking a.view f.word in
        let e : b ≡ record a { view = u } = looked_view f b here' made in
        agrees_then m a here g (subst IsIdle (sym at_out.alloc) tt) b here' u e refl refl refl made.lies (loads_joined f.word a.view.work) m.begun
        m.epoch m.locals task m.log
        (record { locals = g.knows.locals; epoch = g.knows.epoch; log = g.knows.log; begun = g.knows.begun; target = g.knows.target }) g.births g.width
        (addresses_made a here (poll_for None) f b here' made g.alloc.good (is_thread m a here g)) (at at_out)

  -- the store of a value that is due
  module _ (r w : ℕ) (is : m.task ≡ Writes r w) where
    at_write : Rests m a.view (positions.Writing r w 0)
    at_write = at_task (Writes r w) is

    pub wrote : (f : Found) (b : Stand) (here' : ℕ → Bool) → Made a here (does K3 (Local m.by r) (Stores w)) f b here' →
        Agrees (record m { task = resting_task m }) b here' × (b.view.position ≡ positions.Between)
    unfolding at_write
    wrote f b here' made =
        let u : View = record a.view { position = positions.Between } in
        let e : b ≡ record a { view = u } =
        made.view ∙ (λ t. record a { view = logged (write_at a.heap a.by a.view (Local m.by r) (Stores w) f (at_write.position t)) }) in (
          agrees_then m a here g (subst IsIdle (sym at_write.alloc) tt) b here' u e refl refl refl made.lies refl m.begun m.epoch m.locals (resting_task m)
              m.log (record { locals = g.knows.locals; epoch = g.knows.epoch; log = g.knows.log; begun = g.knows.begun; target = g.knows.target })
              g.births g.width
              (addresses_made a here (does K3 (Local m.by r) (Stores w)) f b here' made g.alloc.good (is_thread m a here g))
              (rest_at (record m { task = resting_task m }) u refl at_write.answers at_write.untargeted at_write.alloc),
          ap (λ (x : Stand). x.view.position) e,
        )

-- a turn that is idle is not done
pub idle_goes_on : (w : ℕ) (idle : Bool) → idle_at w idle ≡ Done → ⊥
idle_goes_on w true e = cc
idle_goes_on w false e = cc

-- nor is one of which its safepoint tells
told_goes_on : (enter : Enter) → told enter ≡ Done → ⊥
told_goes_on enters.Moved e = cc
told_goes_on (enters.Idle p w) e = cc
told_goes_on (enters.Help n) e = cc
told_goes_on (enters.In v) e = cc

-- those turns
module _ {T : Type 0} (stand : T → Stand) (here : T → ℕ → Bool) (did : T → Step → Found → T → Type 0)
    (moved : T → ℕ → Option FrameView → Option FrameView → T → Type 0) (m : Mutating) (s s' : T) (g : Agrees m (stand s) (here s)) where
  module _ (is : m.task ≡ GoesIn) (f : Found) (made : Made (stand s) (here s) (does K2 (StateOf m.by) (Stores 1)) f (stand s') (here s'))
      (kept : did s (does K2 (StateOf m.by) (Stores 1)) f s') where
    pub goes_in : Goes stand here did moved asks_none m s s' (record m { task = Enters }) Moved
    goes_in =
        let d : Step = does K2 (StateOf m.by) (Stores 1) in
        let m' : Mutating = record m { task = Enters } in
        let agrees : Agrees m' (stand s') (here s') = went_in m (stand s) (here s) g is f (stand s') (here s') made in
        let entering : (stand s').view.position ≡ positions.Entering = agrees.at.position in
        goes_by stand here did moved m s s' m' Moved asks_none GoesIn is
        (makes stand here did moved m s s' m' Moved GoesIn is d f refl made kept
        (sym (ap (task_at (has_left m') (has_single m'.alloc.hands) (stand s').view.header) entering)) refl refl refl)
        refl refl refl agrees (moves_on Enters (λ x. x))

  -- a look by a caller that is out
  module _ (is : m.task ≡ Out) (f : Found) (made : Made (stand s) (here s) (poll_for None) f (stand s') (here s'))
      (kept : did s (poll_for None) f s') where
    looked_as : (task : Task) → AtTask task (record m { task = task }) (looking (stand s).view f.word) → (c : Code) → (phase_of f.word).code ≡ c →
        task ≡ task_out c → m.marker ≡ started_at c (phase_of f.word).epoch m.marker → (HasEnded task → ⊥) →
        Goes stand here did moved asks_none m s s' (record m { task = task }) (told (answer_behind stages.Out f.word))
    looked_as task at c e to stays on =
        let reply : Turn = told (answer_behind stages.Out f.word) in
        let agrees = looked m (stand s) (here s) g is f (stand s') (here s') made task (λ _. at) in
        goes_by stand here did moved m s s' (record m { task = task }) reply asks_none Out is
        (makes stand here did moved m s s' (record m { task = task }) reply Out is (poll_for None) f refl made kept (to ∙ sym (ap task_out e)) refl
        (stays ∙ sym (ap (λ c. started_at c (phase_of f.word).epoch m.marker) e)) refl)
        refl refl refl agrees (not_done reply task (told_goes_on (answer_behind stages.Out f.word)) on)

    at_here : Stands m (stand s).view positions.Out
    at_here = subst (λ t. AtTask t m (stand s).view) is g.at

    goes : (c : Code) → (phase_of f.word).code ≡ c → GoesIn ≡ task_out c → m.marker ≡ started_at c (phase_of f.word).epoch m.marker →
        Goes stand here did moved asks_none m s s' (record m { task = GoesIn }) (told (answer_behind stages.Out f.word))
    goes c e to stays =
        looked_as GoesIn (record { position = at_here.position; owes = at_here.owes; alloc = at_here.alloc }) c e to stays (λ x. x)

    looks_on : (c : Code) → (phase_of f.word).code ≡ c → Out ≡ task_out c → m.marker ≡ started_at c (phase_of f.word).epoch m.marker →
        Goes stand here did moved asks_none m s s' (record m { task = Out }) (told (answer_behind stages.Out f.word))
    looks_on c e to stays =
        looked_as Out (record { position = at_here.position; owes = at_here.owes; alloc = at_here.alloc }) c e to stays (λ x. x)

    -- by the phase that it loaded, which is not Mark
    pub looks : (c : Code) → (phase_of f.word).code ≡ c → (c ≡ codes.Mark → ⊥) →
        Goes stand here did moved asks_none m s s' (record m { task = task_for (cond (is_run c) stages.GoesIn stages.Out) })
        (told (answer_behind stages.Out f.word))
    looks codes.Idle e other = goes codes.Idle e refl refl
    looks codes.StopA e other = looks_on codes.StopA e refl refl
    looks codes.Mark e other = absurd (other refl)
    looks codes.Weak e other = goes codes.Weak e refl refl
    looks codes.StopB e other = looks_on codes.StopB e refl refl
    looks codes.Prep e other = looks_on codes.Prep e refl refl
    looks codes.Sweep e other = goes codes.Sweep e refl refl

  pub writes : (r w : ℕ) → m.task ≡ Writes r w → (by : ℕ) → by ≡ m.by → (v : ℕ) → v ≡ w → (f : Found) →
      Made (stand s) (here s) (does K3 (Local by r) (Stores v)) f (stand s') (here s') → did s (does K3 (Local by r) (Stores v)) f s' →
      (q : Mutating) → q ≡ record m { task = resting_task m } → Goes stand here did moved asks_none m s s' q Moved
  writes r w is by e v ev f made kept q is_q =
      let d : Step = does K3 (Local m.by r) (Stores w) in
      let step : does K3 (Local by r) (Stores v) ≡ d = λ t. does K3 (Local (e t) r) (Stores (ev t)) in
      let made' : Made (stand s) (here s) d f (stand s') (here s') =
      subst (λ (q : Step). Made (stand s) (here s) q f (stand s') (here s')) step made in
      let kept' : did s d f s' = subst (λ (q : Step). did s q f s') step kept in
      let m' : Mutating = record m { task = resting_task m } in
      let h = wrote m (stand s) (here s) g r w is f (stand s') (here s') made' in
      subst (λ q. Goes stand here did moved asks_none m s s' q Moved) (sym is_q)
      (goes_by stand here did moved m s s' m' Moved asks_none (Writes r w) is
      (makes stand here did moved m s s' m' Moved (Writes r w) is d f refl made' kept'
      (sym (ap (task_at (has_left m') (has_single m'.alloc.hands) (stand s').view.header) h.1)) refl refl refl)
      refl refl refl h.0 (moves_on (resting_task m) (rest_goes_on (has_left m) (has_single m.alloc.hands))))
