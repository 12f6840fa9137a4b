-- The turns of a birth.
use Rattle.std.proofs.Common.{◌≡◌, ◌≢◌, ℕ, ◌<◌, ◌≤◌, ◌⊎◌, inl, inr, Bool, true, Option, Some}
use Rattle.std.proofs.Common.{slice_index, slice_set}
use Rattle.std.proofs.Common.{length-set, refl, sym, ap, ◌∙◌, subst}
use Rattle.kn_base.specs.declared.limits.TheConstants.{LOCALS}
use Rattle.kn_base.specs.Pages.{FrameView}
use Rattle.kn_graph.specs.declared.calls.Call.{Call}
use Rattle.kn_graph.specs.declared.calls.Call.TheVariants.{New, NewArray}
use Rattle.kn_graph.specs.declared.calls.Reply.TheVariants as replies
use Rattle.kn_graph.specs.Counts.{makes_object}
use Rattle.kn_graph.specs.Ground.{Ground}
use Rattle.kn_rule.specs.declared.positions.Position.TheVariants as positions
use Rattle.kn_rule.specs.Requests.{birth_of}
use Rattle.kn_rule.specs.Steps.{Found, Step, epoch_in}
use Rattle.kn_rule.specs.Views.{View}
use Rattle.kn_steps.specs.Made.{Stand}
use Rattle.kn_steps.specs.Turns.{MetUnswept, OneTurn}
use Rattle.kn_steps.specs.declared.turns.Turn.TheVariants as turns
use Rattle.kn_alloc.specs.declared.stage.AllocTurn.{AllocTurn}
use Rattle.kn_alloc.specs.declared.stage.AllocTurn.TheVariants.{Moved, Born, Full}
use Rattle.kn_alloc.specs.declared.stage.Stage.TheVariants.{Resting, TooLong}
use Rattle.kn_alloc.specs.Agree.{Agrees as AllocAgrees, IsGetting, IsSweeping}
use Rattle.kn_alloc.specs.Keeps.{Keeps}
use Rattle.kn_alloc.specs.Tells.{IsKept, TellsView}
use Rattle.kn_alloc.specs.Turns.{Turned as AllocTurned}
use Rattle.kn_mutator.specs.declared.task.Task.TheVariants.{Births}
use Rattle.kn_mutator.specs.After.{answered, born}
use Rattle.kn_mutator.specs.Agree.{Agrees, AtTask, BirthAt, HasEnded}
use Rattle.kn_mutator.specs.Mutating.{Mutating}
use Rattle.kn_mutator.specs.Tasks.{calling_task, has_left, has_single, task_at, task_by}
use Rattle.kn_mutator.specs.Turns.{StillKnows, GetsCell, Goes, GoesOrStops, TurnedAt, asks_none}
use Rattle.kn_mutator.specs.Begun.{Bears}
use Rattle.kn_mutator.proofs.Core.{addresses_made, answers_more, is_thread, rest_at, said_is, share_stays}
use Rattle.kn_mutator.proofs.Making.{goes_by, moves_on, rest_goes_on}
use Rattle.kn_mutator.proofs.Ones.{goes_still}

-- a call that makes an object has a birth
pub birth_there : (z : Ground) (call : Call) → makes_object call ≡ true → (b : ℕ × ℕ × ℕ) × (birth_of z call ≡ Some b)
birth_there z (New r layout) makes = (_, refl)
birth_there z (NewArray r layout n) makes = (_, refl)
birth_there z _ makes = absurd (cc)

module _ (m : Mutating) (a : Stand) (here : ℕ → Bool) (g : Agrees m a here) (call : Call) (is : m.task ≡ Births call) (alloc : Keeps) (b : Stand)
    (kept : IsKept m.alloc alloc) where
  at_birth : BirthAt m a.view call
  at_birth = subst (λ t. AtTask t m a.view) is g.at

  not_long : m.alloc.stage ≢ TooLong
  not_long = λ e. subst IsGetting e at_birth.alloc

  -- the call goes on
  module _ (tells : TellsView m.alloc.stage Moved a b) where
    on_view : b.view ≡ record a.view {
      owned = b.view.owned;
      seen = b.view.seen;
      refused = b.view.refused;
      taken = b.view.taken;
      sweep = b.view.sweep;
    }
    on_view = tells.view not_long call at_birth.position

    on_follows : StillKnows m b (record m { alloc = alloc })
    on_follows = record {
      heap = refl;
      by = refl;
      calls = refl;
      knows = record {
        locals = ap (λ (v : View). v.locals) on_view ∙ g.knows.locals;
        epoch = ap epoch_in on_view ∙ g.knows.epoch;
        log = ap (λ (v : View). v.log) on_view ∙ g.knows.log;
        begun = ap (λ (v : View). v.calls) on_view ∙ g.knows.begun;
        target = ap (λ (v : View). v.target) on_view ∙ g.knows.target;
      };
    }

    on_agrees : (here' : ℕ → Bool) → AllocAgrees alloc b here' → IsGetting alloc.stage → Agrees (record m { alloc = alloc }) b here'
    on_agrees here' agrees gets = record {
      alloc = agrees;
      marker = share_stays m.marker a b g.marker tells.heap (ap (λ (v : View). v.work) on_view);
      heap = tells.heap ∙ g.heap;
      caller = kept.1 ∙ g.caller;
      knows = record {
        locals = on_follows.knows.locals;
        epoch = on_follows.knows.epoch;
        log = on_follows.knows.log;
        begun = on_follows.knows.begun;
        target = on_follows.knows.target;
      };
      planned = g.planned;
      births = ap (λ (v : View). v.births) on_view ∙ g.births;
      width = g.width;
      addresses = g.addresses;
      at = subst (λ t. AtTask t (record m { alloc = alloc }) b.view) (sym is) (record {
        position = ap (λ (v : View). v.position) on_view ∙ at_birth.position;
        birth = at_birth.birth;
        untargeted = at_birth.untargeted;
        under_way = at_birth.under_way;
        alloc = gets;
      });
    }

    on_task : m.task ≡ task_by (record m { alloc = alloc }) b.view
    on_task =
        let at : b.view.position ≡ positions.Calling call = ap (λ (v : View). v.position) on_view ∙ at_birth.position in
        is ∙ sym (ap (task_at (has_left m) (has_single alloc.hands) b.view.header) at ∙ ap (λ t. calling_task t call b.view.header) at_birth.birth)

  -- the call is answered Full
  module _ (here' : ℕ → Bool) (agrees : AllocAgrees alloc b here') (rests : alloc.stage ≡ Resting) (tells : TellsView m.alloc.stage Full a b) where
    abbrev full : Mutating
    full = answered (record m { alloc = alloc }) call replies.Full

    full_at : b.view.position ≡ positions.Between
    full_at = ap (λ (v : View). v.position) (tells.view not_long call at_birth.position)

    full_agrees : Agrees full b here'
    full_agrees =
        let e = tells.view not_long call at_birth.position in
        record {
          alloc = agrees;
          marker = share_stays m.marker a b g.marker tells.heap (ap (λ (v : View). v.work) e);
          heap = tells.heap ∙ g.heap;
          caller = kept.1 ∙ g.caller;
          knows = record {
            locals = ap (λ (v : View). v.locals) e ∙ g.knows.locals;
            epoch = ap epoch_in e ∙ g.knows.epoch;
            log = ap (λ (v : View). v.log) e ∙ said_is m a here g call replies.Full 0;
            begun = ap (λ (v : View). v.calls) e ∙ g.knows.begun;
            target = ap (λ (v : View). v.target) e ∙ g.knows.target;
          };
          planned = g.planned;
          births = ap (λ (v : View). v.births) e ∙ g.births;
          width = g.width;
          addresses = g.addresses;
          at = rest_at full b.view full_at (answers_more m call at_birth.under_way replies.Full 0) at_birth.untargeted rests;
        }

  -- the object is born
  module _ (here' : ℕ → Bool) (agrees : AllocAgrees alloc b here') (rests : alloc.stage ≡ Resting) (address : ℕ)
      (tells : TellsView m.alloc.stage (Born address) a b) (small : (r : ℕ) → r < LOCALS → slice_index b.view.locals r ≤ 1000000)
      (o : ℕ × ℕ × ℕ) (birth : birth_of m.heap call ≡ Some o) where
    born_agrees : Agrees (born (record m { alloc = alloc }) call o.0 address) b here'
    born_agrees =
        let e = tells.view not_long call at_birth.position o (ap (λ z. birth_of z call) g.heap ∙ birth) in
        let locals : b.view.locals ≡ slice_set m.locals o.0 address =
        ap (λ (v : View). v.locals) e ∙ ap (λ l. slice_set l o.0 address) g.knows.locals in
        record {
          alloc = agrees;
          marker = share_stays m.marker a b g.marker tells.heap (ap (λ (v : View). v.work) e);
          heap = tells.heap ∙ g.heap;
          caller = kept.1 ∙ g.caller;
          knows = record {
            locals = locals;
            epoch = ap epoch_in e ∙ g.knows.epoch;
            log = ap (λ (v : View). v.log) e ∙ said_is m a here g call replies.Ok address;
            begun = ap (λ (v : View). v.calls) e ∙ g.knows.begun;
            target = ap (λ (v : View). v.target) e ∙ g.knows.target;
          };
          planned = g.planned;
          births = ap (λ (v : View). v.births) e ∙ g.births;
          width = length-set m.locals o.0 address ∙ g.width;
          addresses = λ r l. subst (λ l. slice_index l r ≤ 1000000) locals (small r l);
          at = record {
            position = ap (λ (v : View). v.position) e;
            answers = answers_more m call at_birth.under_way replies.Ok address;
            untargeted = at_birth.untargeted;
            alloc = rests;
          };
        }

-- those turns, of a mutator that is n, whose parts m has
module _ {T : Type 0} (stand : T → Stand) (here : T → ℕ → Bool) (did : T → Step → Found → T → Type 0)
    (moved : T → ℕ → Option FrameView → Option FrameView → T → Type 0) (m n : Mutating) (same : m ≡ n) (s s' : T)
    (agrees_n : Agrees n (stand s) (here s)) (call : Call) (is_n : n.task ≡ Births call) (alloc : Keeps) (kept : IsKept m.alloc alloc) where
  g : Agrees m (stand s) (here s)
  g = subst (λ (q : Mutating). Agrees q (stand s) (here s)) (sym same) agrees_n

  is : m.task ≡ Births call
  is = ap (λ (q : Mutating). q.task) same ∙ is_n

  -- behind any turn the locals are addresses
  addresses_one : OneTurn stand here did moved s s' → (r : ℕ) → r < LOCALS → slice_index (stand s').view.locals r ≤ 1000000
  addresses_one (inl t) = addresses_made (stand s) (here s) t.step t.found (stand s') (here s') t.made g.alloc.good (is_thread m (stand s) (here s) g)
  addresses_one (inr t) = λ r l.
      subst (λ l. slice_index l r ≤ 1000000) (sym (ap (λ (x : Stand). x.view.locals) t.made.view ∙ g.knows.locals)) (g.addresses r l)

  cell_of : (told : AllocTurn) (m' : Mutating) → AllocTurned stand here did moved m.alloc s s' m'.alloc told →
      m'.marker ≡ m.marker → m'.task ≡ task_by m' (stand s').view → GetsCell stand here did moved m s s' m' turns.Moved
  cell_of told m' turned marker task = record { told = told; turned = turned; marker = marker; task = task; answer = refl }

  -- the call goes on
  module _ (turned : AllocTurned stand here did moved m.alloc s s' alloc Moved) (tells : TellsView m.alloc.stage Moved (stand s) (stand s'))
      (agrees : (IsSweeping alloc.stage → ⊥) → AllocAgrees alloc (stand s') (here s'))
      (unswept : IsSweeping alloc.stage → MetUnswept stand here did moved s s') (behind : IsGetting alloc.stage ⊎ IsSweeping alloc.stage) where
    getting : IsGetting alloc.stage ⊎ IsSweeping alloc.stage → (IsSweeping alloc.stage → ⊥) → IsGetting alloc.stage
    getting (inl h) never = h
    getting (inr h) never = absurd (never h)

    pub goes_on : GoesOrStops stand here did moved asks_none n s s' (record m { alloc = alloc }) turns.Moved
    goes_on = subst (λ (q : Mutating). GoesOrStops stand here did moved asks_none q s s' (record m { alloc = alloc }) turns.Moved) same (record {
      turned = (
        on_follows m (stand s) (here s) g call is alloc (stand s') kept tells,
        subst (λ t. TurnedAt stand here did moved t asks_none m s s' (record m { alloc = alloc }) turns.Moved) (sym is)
            (cell_of Moved (record m { alloc = alloc }) turned refl (on_task m (stand s) (here s) g call is alloc (stand s') kept tells)),
      );
      agrees = λ never. on_agrees m (stand s) (here s) g call is alloc (stand s') kept tells (here s') (agrees never) (getting behind never);
      unswept = unswept;
      done = moves_on m.task (subst (λ t. HasEnded t → ⊥) (sym is) (λ x. x));
    })

  -- the call is answered, or its object is born
  module _ (told : AllocTurn) (turned : AllocTurned stand here did moved m.alloc s s' alloc told) (tells : TellsView m.alloc.stage told (stand s) (stand s'))
      (agrees : (IsSweeping alloc.stage → ⊥) → AllocAgrees alloc (stand s') (here s')) (rests : alloc.stage ≡ Resting) where
    settled : AllocAgrees alloc (stand s') (here s')
    settled = agrees (λ h. subst IsSweeping rests h)

    ends_at : (m' : Mutating) → m'.alloc ≡ alloc → m'.marker ≡ m.marker → m'.heap ≡ m.heap → m'.by ≡ m.by → m'.calls ≡ m.calls →
        m'.task ≡ task_by m' (stand s').view → Agrees m' (stand s') (here s') → (HasEnded m'.task → ⊥) → (q : Mutating) → q ≡ m' →
        GoesOrStops stand here did moved asks_none n s s' q turns.Moved
    ends_at m' alloc_is marker heap by calls task after on q is_q =
        let cell : GetsCell stand here did moved m s s' m' turns.Moved =
        cell_of told m' (subst (λ k. AllocTurned stand here did moved m.alloc s s' k told) (sym alloc_is) turned) marker task in
        goes_still stand here did moved asks_none n s s' q turns.Moved
        (subst (λ (p : Mutating). Goes stand here did moved asks_none p s s' q turns.Moved) same
        (subst (λ (q : Mutating). Goes stand here did moved asks_none m s s' q turns.Moved) (sym is_q)
        (goes_by stand here did moved m s s' m' turns.Moved asks_none (Births call) is cell heap by calls after (moves_on m'.task on))))

  pub is_full : AllocTurned stand here did moved m.alloc s s' alloc Full → TellsView m.alloc.stage Full (stand s) (stand s') →
      ((IsSweeping alloc.stage → ⊥) → AllocAgrees alloc (stand s') (here s')) → alloc.stage ≡ Resting →
      (q : Mutating) → q ≡ answered (record m { alloc = alloc }) call replies.Full → GoesOrStops stand here did moved asks_none n s s' q turns.Moved
  is_full turned tells agrees rests =
      let x = settled Full turned tells agrees rests in
      let m' : Mutating = answered (record m { alloc = alloc }) call replies.Full in
      ends_at Full turned tells agrees rests m' refl refl refl refl refl
      (sym (ap (task_at (has_left m) (has_single alloc.hands) (stand s').view.header)
      (full_at m (stand s) (here s) g call is alloc (stand s') kept (here s') x rests tells)))
      (full_agrees m (stand s) (here s) g call is alloc (stand s') kept (here s') x rests tells)
      (rest_goes_on (has_left m) (has_single alloc.hands))

  pub is_born : (address : ℕ) → AllocTurned stand here did moved m.alloc s s' alloc (Born address) →
      TellsView m.alloc.stage (Born address) (stand s) (stand s') →
      ((IsSweeping alloc.stage → ⊥) → AllocAgrees alloc (stand s') (here s')) → alloc.stage ≡ Resting →
      (m.alloc.stage ≢ TooLong → OneTurn stand here did moved s s') → (q : Mutating) → Bears (record m { alloc = alloc }) call address q →
      GoesOrStops stand here did moved asks_none n s s' q turns.Moved
  is_born address turned tells agrees rests one q bears =
      let b = birth_there m.heap call (at_birth m (stand s) (here s) g call is alloc (stand s') kept).birth in
      let after = born_agrees m (stand s) (here s) g call is alloc (stand s') kept (here s') (settled (Born address) turned tells agrees rests) rests
      address tells (addresses_one (one (not_long m (stand s) (here s) g call is alloc (stand s') kept))) b.0 b.1 in
      ends_at (Born address) turned tells agrees rests (born (record m { alloc = alloc }) call b.0.0 address) refl refl refl refl refl
      (sym (ap (task_at (has_left m) (has_single alloc.hands) (stand s').view.header) after.at.position)) after (λ x. x) q (bears b.0 b.1)
