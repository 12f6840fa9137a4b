-- The turns of the safepoint on the way in.
use Rattle.std.proofs.Common.{◌≡◌, ℕ, ◌<◌, ◌^◌, inl, Bool, true, false, cond, length, Option, Some, None, refl, sym, ap, ◌∙◌, subst}
use Rattle.kn_base.specs.declared.kinds.Code.{Code}
use Rattle.kn_base.specs.declared.phase_word.PhaseWord.{PhaseWord}
use Rattle.kn_base.specs.Pages.{FrameView}
use Rattle.kn_base.specs.Words.{IsPhaseWord, packed_phase}
use Rattle.kn_graph.specs.declared.calls.Call.{Call}
use Rattle.kn_graph.specs.declared.calls.Call.TheVariants.{Collect}
use Rattle.kn_rule.specs.Allowed.{MayEnterFor}
use Rattle.kn_rule.specs.Decoding.{phase_of}
use Rattle.kn_rule.specs.Phases.{is_run}
use Rattle.kn_rule.specs.Steps.{Found, Step}
use Rattle.kn_steps.specs.Made.{Made, Stand}
use Rattle.kn_steps.specs.declared.turns.Turn.{Turn}
use Rattle.kn_steps.specs.declared.turns.Turn.TheVariants.{Moved}
use Rattle.kn_safepoint.specs.declared.stage.Enter.{Enter}
use Rattle.kn_safepoint.specs.declared.stage.Enter.TheVariants as enters
use Rattle.kn_safepoint.specs.declared.stage.Stage.{Stage}
use Rattle.kn_safepoint.specs.declared.stage.Stage.TheVariants as stages
use Rattle.kn_safepoint.specs.Agree.{Agrees as SafepointAgrees, MayLeave, MayTurn, OwnsNone}
use Rattle.kn_safepoint.specs.Kept.{Kept}
use Rattle.kn_safepoint.specs.Stages.{answer_behind, leave_step}
use Rattle.kn_safepoint.specs.Turns.{Left, Turned as SafepointTurned}
use Rattle.kn_mark.specs.Kept.{started}
use Rattle.kn_mutator.specs.declared.task.Task.{Task}
use Rattle.kn_mutator.specs.declared.task.Task.TheVariants.{Out, Helps, GoesIn, Enters, Leaves}
use Rattle.kn_mutator.specs.Agree.{Agrees, AtTask, Owes}
use Rattle.kn_mutator.specs.Begun.{HearsAs, WaitsIn}
use Rattle.kn_mutator.specs.Mutating.{Mutating}
use Rattle.kn_mutator.specs.Tasks.{next_call, poll_for, task_for, told}
use Rattle.kn_mutator.specs.Turns.{Goes, asks_none}
use Rattle.kn_mutator.proofs.Awaiting.{enters_in, enters_out}
use Rattle.kn_mutator.proofs.Core.{by_is, has_room, is_thread, phase_made, safepoint_agrees}
use Rattle.kn_mutator.proofs.Heard.{heard}
use Rattle.kn_mutator.proofs.HelpTurns.{starts_to_help}
use Rattle.kn_mutator.proofs.Polling.{may_enter_at}
use Rattle.kn_mutator.proofs.Turning.{goes_in, looks}

-- what a turn of the safepoint asks, at a stage
pub may_turn : (a : Stand) (here : ℕ → Bool) (next : Option Call) (c : ℕ) (t : Stage) → MayTurn t a here next → (k : Kept) →
    k ≡ record { by = c; stage = t } → MayTurn k.stage a here next
may_turn a here next c t may k is = subst (λ (k : Kept). MayTurn k.stage a here next) (sym is) may

module _ {T : Type 0} (stand : T → Stand) (here : T → ℕ → Bool) (did : T → Step → Found → T → Type 0)
    (moved : T → ℕ → Option FrameView → Option FrameView → T → Type 0) (m : Mutating) (s s' : T) where
  -- the turn of its safepoint
  pub turned_at : (t : Stage) (next : Option Call) (k k' : Kept) (enter : Enter) → k ≡ record { by = m.by; stage = t } →
      SafepointTurned stand here did k next s s' k' enter →
      SafepointTurned stand here did (record { by = m.by; stage = t }) next s s' k' enter
  turned_at t next k k' enter is turned = subst (λ (k : Kept). SafepointTurned stand here did k next s s' k' enter) is turned

  -- it stored that it is out
  pub left_at : (c : ℕ) (k k' : Kept) → k ≡ record { by = c; stage = stages.In } → Left stand here did k s s' k' →
      (f : Found) × Made (stand s) (here s) (leave_step c) f (stand s') (here s') × did s (leave_step c) f s'
  left_at c k k' is h =
      subst (λ (k : Kept). (f : Found) × Made (stand s) (here s) (leave_step k.by) f (stand s') (here s') × did s (leave_step k.by) f s') is
      (h.found, h.made, h.kept)

  module _ (g : Agrees m (stand s) (here s)) (k k' : Kept) (enter : Enter) where
    module _ (is : m.task ≡ Out) (at : k ≡ record { by = m.by; stage = stages.Out }) (turned : SafepointTurned stand here did k None s s' k' enter) where
      abbrev out : SafepointTurned stand here did (record { by = m.by; stage = stages.Out }) None s s' k' enter
      out = turned_at stages.Out None k k' enter at turned

      abbrev code : Code
      code = (phase_of out.found.word).code

      pub looks_out : ((e : ℕ) → enter ≡ enters.Help e → ⊥) → (q : Mutating) (reply : Turn) (stage : Stage) (task : Task) → stage ≡ k'.stage →
          task ≡ task_for stage → q ≡ record m { task = task } → reply ≡ told enter → Goes stand here did moved asks_none m s s' q reply
      looks_out other q reply stage task same is_task is_q is_reply =
          let after : task ≡ task_for (cond (is_run code) stages.GoesIn stages.Out) =
          is_task ∙ ap task_for (same ∙ ap (λ (k : Kept). k.stage) out.after) in
          let answer : Turn = told (answer_behind stages.Out out.found.word) in
          subst (λ r. Goes stand here did moved asks_none m s s' q r) (sym (is_reply ∙ ap told out.answer))
          (subst (λ (q : Mutating). Goes stand here did moved asks_none m s s' q answer) (sym (is_q ∙ λ t. record m { task = after t }))
          (looks stand here did moved m s s' g is out.found out.made out.kept code refl
          (λ e. other (phase_of out.found.word).epoch ((out.help (phase_of out.found.word).epoch).1 (e, refl)))))

      pub helps_out : (e : ℕ) → enter ≡ enters.Help e → (q : Mutating) (reply : Turn) →
          q ≡ record m { marker = started m.marker e; task = Helps } → reply ≡ Moved → Goes stand here did moved asks_none m s s' q reply
      helps_out e is_help q reply is_q is_reply =
          let h = (out.help e).0 is_help in
          subst (λ r. Goes stand here did moved asks_none m s s' q r) (sym is_reply)
          (subst (λ (q : Mutating). Goes stand here did moved asks_none m s s' q Moved) (sym (is_q ∙ λ t. record m {
            marker = started m.marker (sym h.1 t);
            task = Helps;
          }))
          (starts_to_help stand here did moved m s s' g is out.found out.made out.kept h.0))

    pub goes_on_in : m.task ≡ GoesIn → k ≡ record { by = m.by; stage = stages.GoesIn } → SafepointTurned stand here did k None s s' k' enter →
        (q : Mutating) → q ≡ record m { task = Enters } → Goes stand here did moved asks_none m s s' q Moved
    goes_on_in is at turned q is_q =
        let t = turned_at stages.GoesIn None k k' enter at turned in
        subst (λ (q : Mutating). Goes stand here did moved asks_none m s s' q Moved) (sym is_q)
        (goes_in stand here did moved m s s' g is t.found t.made t.kept)

    -- one that enters
    module _ (next : Option Call) (at : k ≡ record { by = m.by; stage = stages.Enters })
        (turned : SafepointTurned stand here did k next s s' k' enter) where
      abbrev t : SafepointTurned stand here did (record { by = m.by; stage = stages.Enters }) next s s' k' enter
      t = turned_at stages.Enters next k k' enter at turned

      -- it was let in no phase: it loaded no run phase
      stops : ((v : PhaseWord) → enter ≡ enters.In v → ⊥) → is_run (phase_of t.found.word).code ≡ false
      stops out = by (is_run (phase_of t.found.word).code) refl
        where
          by : (run : Bool) → is_run (phase_of t.found.word).code ≡ run → is_run (phase_of t.found.word).code ≡ false
          by true e = absurd (out (phase_of t.found.word) ((t.entered (phase_of t.found.word)).1 (refl, e)))
          by false e = e

      -- in the phase v, whose word is w
      module _ (v : PhaseWord) (is_in : enter ≡ enters.In v) where
        pub in_range : IsPhaseWord v
        in_range = (t.inside v is_in).ranges

        runs : is_run (phase_of t.found.word).code ≡ true
        runs = let h = (t.entered v).0 is_in in ap (λ (x : PhaseWord). is_run x.code) h.0 ∙ h.1

        module _ (w : ℕ) (is_word : w ≡ packed_phase v) where
          word_is : w ≡ t.found.word
          word_is = is_word ∙ (t.inside v is_in).packs

          pub word_small : w < 2 ^ 35
          word_small =
              subst (λ w. w < 2 ^ 35) (sym word_is) (phase_made (stand s) (here s) (poll_for next) t.found (stand s') (here s') t.made refl)

          pub waits_within : (n : ℕ) → m.target ≡ Some n → next ≡ None → m.task ≡ Enters → (q : Mutating) (reply : Turn) →
              WaitsIn m n w q reply → Goes stand here did moved asks_none m s s' q reply
          waits_within n want none is q reply h =
              enters_in stand here did moved m s s' g n want t.found.word t.found.page
              (subst (λ (x : Option Call). Made (stand s) (here s) (poll_for x) t.found (stand s') (here s')) none t.made)
              (subst (λ (x : Option Call). did s (poll_for x) t.found s') none t.kept) is (is_run (phase_of t.found.word).code) refl runs q reply
              (subst (λ w. WaitsIn m n w q reply) word_is h)

          pub begins_within : (gate : ℕ → ℕ → Bool → Type 0) (n : Mutating) → n ≡ m → (passed : Bool) → gate n.by n.begun passed →
              next ≡ next_call m passed → m.task ≡ Enters → m.target ≡ None → (q : Mutating) (reply : Turn) → HearsAs m true next w q reply →
              Goes stand here did moved gate m s s' q reply
          begins_within gate n same passed asked is_next is free q reply h =
              heard stand here did moved gate n m same s s' g passed asked next is_next t.found.word t.found.page t.made t.kept q reply
              (subst (λ run. HearsAs m run next t.found.word q reply) (sym runs) (subst (λ w. HearsAs m true next w q reply) word_is h))
              (inl (is, free))

      -- it goes out again
      module _ (out : (v : PhaseWord) → enter ≡ enters.In v → ⊥) (is : m.task ≡ Enters) (q : Mutating) (reply : Turn)
          (is_q : q ≡ record m { task = Leaves }) (is_reply : reply ≡ Moved) where
        pub waits_without : (n : ℕ) → m.target ≡ Some n → next ≡ None → Goes stand here did moved asks_none m s s' q reply
        waits_without n want none =
            subst (λ r. Goes stand here did moved asks_none m s s' q r) (sym is_reply)
            (enters_out stand here did moved m s s' g n want t.found.word t.found.page
            (subst (λ (x : Option Call). Made (stand s) (here s) (poll_for x) t.found (stand s') (here s')) none t.made)
            (subst (λ (x : Option Call). did s (poll_for x) t.found s') none t.kept) is (is_run (phase_of t.found.word).code) refl (stops out) q is_q)

        pub begins_without : (gate : ℕ → ℕ → Bool → Type 0) (n : Mutating) → n ≡ m → (passed : Bool) → gate n.by n.begun passed →
            next ≡ next_call m passed → m.target ≡ None → Goes stand here did moved gate m s s' q reply
        begins_without gate n same passed asked is_next free =
            heard stand here did moved gate n m same s s' g passed asked next is_next t.found.word t.found.page t.made t.kept q reply
            (subst (λ run. HearsAs m run next t.found.word q reply) (sym (stops out)) (is_q, is_reply)) (inl (is, free))

-- what the turns of its safepoint ask
module _ (m : Mutating) (a : Stand) (here : ℕ → Bool) (g : Agrees m a here) (k : Kept) where
  pub agrees_out : m.task ≡ Out → k ≡ record { by = m.by; stage = stages.Out } → SafepointAgrees k a
  agrees_out is at = safepoint_agrees m a here g stages.Out (subst (λ t. AtTask t m a.view) is g.at).position k at

  pub agrees_going : m.task ≡ GoesIn → k ≡ record { by = m.by; stage = stages.GoesIn } → SafepointAgrees k a
  agrees_going is at = safepoint_agrees m a here g stages.GoesIn (subst (λ t. AtTask t m a.view) is g.at).position k at

  module _ (is : m.task ≡ Enters) (at : k ≡ record { by = m.by; stage = stages.Enters }) where
    pub agrees_entering : SafepointAgrees k a
    agrees_entering = safepoint_agrees m a here g stages.Enters (subst (λ t. AtTask t m a.view) is g.at).position k at

    -- for its next call, or for the epoch n
    pub may_for_call : m.target ≡ None → (passed : Bool) (next : Option Call) → next ≡ next_call m passed → MayTurn k.stage a here next
    may_for_call none passed next e = may_turn a here next m.by stages.Enters (may_enter_at m a here g is none passed next e) k at

    pub may_for_epoch : (n : ℕ) → m.target ≡ Some n → MayTurn k.stage a here None
    may_for_epoch n want =
        may_turn a here None m.by stages.Enters
        (subst (λ t. MayEnterFor a.heap a.by a.view here t None) (sym (g.knows.target ∙ want)) refl) k at

    pub room_for_epoch : (n : ℕ) → m.target ≡ Some n → length m.log < length m.calls
    room_for_epoch n want = has_room m Collect (subst (Owes m) want (subst (λ t. AtTask t m a.view) is g.at).owes)

-- what the store of one that leaves asks, whose number c is
module _ (m : Mutating) (a : Stand) (here : ℕ → Bool) (g : Agrees m a here) (is : m.task ≡ Leaves) (b : Stand) (same : b ≡ a) (c : ℕ)
    (is_by : c ≡ m.by) where
  pub by_leaving : b.by ≡ c
  by_leaving = ap (λ (x : Stand). x.by) same ∙ (by_is m a here g ∙ sym is_by)

  pub thread_leaving : c < b.heap.sizes.threads
  thread_leaving =
      subst (λ (x : Stand). c < x.heap.sizes.threads) (sym same)
      (subst (λ c. c < a.heap.sizes.threads) (by_is m a here g ∙ sym is_by) (is_thread m a here g))

  pub may_leaving : OwnsNone a.view → MayLeave b.view
  may_leaving none =
      subst (λ (x : Stand). MayLeave x.view) (sym same) (record { position = (subst (λ t. AtTask t m a.view) is g.at).0; none = none })
