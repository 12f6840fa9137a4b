-- A step of a call, and the turn that it makes.
use Rattle.std.proofs.Common.{◌≡◌, ℕ, ◌<◌, ◌≤◌, Bool, List, length}
use Rattle.std.proofs.Common.{Option, Some, None, slice_index, slice_set, refl, sym, ap, ◌∙◌, subst, arith, length-set}
use Rattle.std.proofs.lemmas.List.{get_or-set_same}
use Rattle.kn_base.specs.declared.limits.TheConstants.{LOCALS}
use Rattle.kn_base.specs.Pages.{FrameView}
use Rattle.kn_graph.specs.declared.calls.Call.{Call}
use Rattle.kn_graph.specs.declared.calls.Reply.{Reply}
use Rattle.kn_graph.specs.Arguments.{IsInRange}
use Rattle.kn_layout.specs.declared.layouts.FieldKind.{FieldKind}
use Rattle.kn_rule.specs.declared.positions.Position.TheVariants as positions
use Rattle.kn_rule.specs.Allowed.{IsBuilt}
use Rattle.kn_rule.specs.Moves.{view_after}
use Rattle.kn_rule.specs.Outcomes.{ref_word}
use Rattle.kn_rule.specs.Requests.{field_of, told_kind}
use Rattle.kn_rule.specs.Steps.{Found, Step, epoch_in, logged, quietly, saying}
use Rattle.kn_rule.specs.Views.{View}
use Rattle.kn_steps.specs.Made.{LieAs, Made, Stand}
use Rattle.kn_steps.specs.declared.turns.Turn.TheVariants.{Moved}
use Rattle.kn_alloc.specs.Agree.{IsIdle}
use Rattle.kn_mutator.specs.declared.task.Task.{Task}
use Rattle.kn_mutator.specs.declared.task.Task.TheVariants.{Calls, Writes}
use Rattle.kn_mutator.specs.Agree.{Agrees, AtTask, CallsAt, HasEnded, IsHeaderRead}
use Rattle.kn_mutator.specs.After.{referred, resting_task, said}
use Rattle.kn_mutator.specs.Mutating.{Mutating}
use Rattle.kn_mutator.specs.Tasks.{call_step, calling_task, has_left, has_single, local_kept, task_at, task_by}
use Rattle.kn_mutator.specs.Turns.{Goes, asks_none}
use Rattle.kn_mutator.proofs.Making.{goes_by, makes, moves_on, rest_goes_on}
use Rattle.kn_mutator.proofs.Core.{addresses_made, agrees_then, all_get, answers_more, is_thread, rest_at, said_is}

-- a task is the same at a call and a header that are the same
pub task_as : {t : Task} {call : Call} {call' : Call} {h : Option ℕ} {h' : Option ℕ} →
    t ≡ Calls call h → call ≡ call' → h ≡ h' → t ≡ Calls call' h'
task_as {t} {call} {call'} {h} is same same_header = is ∙ ap (λ q. Calls q h) same ∙ ap (Calls call') same_header

-- a call at its own steps
module _ (m : Mutating) (a : Stand) (here : ℕ → Bool) (g : Agrees m a here) (call : Call) (h : Option ℕ) (is : m.task ≡ Calls call h) where
  pub calls_at : CallsAt m a.view call h
  calls_at = subst (λ t. AtTask t m a.view) is g.at

  pub is_built : IsBuilt call
  is_built =
      let under = calls_at.under_way in
      all_get IsBuilt m.calls under.number call g.planned.built under.is_call

  pub in_range : IsInRange m.heap call
  in_range =
      let under = calls_at.under_way in
      all_get (IsInRange m.heap) m.calls under.number call g.planned.in_range under.is_call

  module _ (d : Step) (f : Found) (b : Stand) (here' : ℕ → Bool) (made : Made a here d f b here') (idle : IsIdle m.alloc.stage)
      (lies : LieAs b.view here here') where
    -- it is answered, and nothing is due of it
    pub answered_agrees : (reply : Reply) (now locals : List ℕ) → now ≡ locals → length locals ≡ LOCALS →
        b ≡ record a { view = logged (saying a.by (epoch_in a.view) call reply 0 (record a.view { position = positions.Between; locals = now })) } →
        Agrees (record m { locals = locals; log = said m call reply 0; task = resting_task m }) b here'
    answered_agrees reply now locals same width view =
        let at = calls_at in
        let u : View = logged (saying a.by (epoch_in a.view) call reply 0 (record a.view { position = positions.Between; locals = now })) in
        let m' : Mutating = record m { locals = locals; log = said m call reply 0; task = resting_task m } in
        agrees_then m a here g idle b here' u view refl refl refl lies refl m.begun m.epoch locals (resting_task m) (said m call reply 0)
        (record { locals = same; epoch = g.knows.epoch; log = said_is m a here g call reply 0; begun = g.knows.begun; target = g.knows.target }) g.births width
        (addresses_made a here d f b here' made g.alloc.good (is_thread m a here g))
        (rest_at m' u refl (answers_more m call at.under_way reply 0) at.untargeted at.alloc)

    -- a reference was read, whose store is due
    pub referred_agrees : (r w : ℕ) →
        b ≡ record a {
          view = logged (saying a.by (epoch_in a.view) call (ref_word w) 0
              (record a.view { position = positions.Writing r w 0; locals = slice_set a.view.locals r w }));
        } →
        Agrees (referred m call r w) b here'
    referred_agrees r w view =
        let at = calls_at in
        let u : View = logged (saying a.by (epoch_in a.view) call (ref_word w) 0
        (record a.view { position = positions.Writing r w 0; locals = slice_set a.view.locals r w })) in
        let l : List ℕ = slice_set m.locals r w in
        let m' : Mutating = referred m call r w in
        agrees_then m a here g idle b here' u view refl refl refl lies refl m.begun m.epoch l (Writes r w) (said m call (ref_word w) 0)
        (record {
          locals = ap (λ l. slice_set l r w) g.knows.locals;
          epoch = g.knows.epoch;
          log = said_is m a here g call (ref_word w) 0;
          begun = g.knows.begun;
          target = g.knows.target;
        })
        g.births (length-set m.locals r w ∙ g.width)
        (addresses_made a here d f b here' made g.alloc.good (is_thread m a here g))
        (record { position = refl; answers = answers_more m call at.under_way (ref_word w) 0; untargeted = at.untargeted; alloc = at.alloc })

    -- the reference that was read is an address
    pub referred_small : (r w : ℕ) → r < LOCALS →
        b ≡ record a {
          view = logged (saying a.by (epoch_in a.view) call (ref_word w) 0
              (record a.view { position = positions.Writing r w 0; locals = slice_set a.view.locals r w }));
        } → w ≤ 1000000
    referred_small r w near view =
        let small = addresses_made a here d f b here' made g.alloc.good (is_thread m a here g) r near in
        let within : r < length a.view.locals = let e = ap length g.knows.locals ∙ g.width in omega arith in
        let is_word : slice_index b.view.locals r ≡ w =
        ap (λ (x : Stand). slice_index x.view.locals r) view ∙ get_or-set_same a.view.locals r w 0 within in
        subst (λ n. n ≤ 1000000) is_word small

    -- the header was read, and the call goes on
    pub judged_agrees : (w : ℕ) (t : ℕ × ℕ × FieldKind) → h ≡ None → field_of call ≡ Some t → told_kind m.heap w t.1 ≡ Some t.2 →
        b ≡ record a { view = logged (quietly (record a.view { header = Some w })) } →
        Agrees (record m { task = Calls call (Some w) }) b here'
    judged_agrees w t none field told view =
        let at = calls_at in
        let u : View = logged (quietly (record a.view { header = Some w })) in
        let m' : Mutating = record m { task = Calls call (Some w) } in
        agrees_then m a here g idle b here' u view refl refl refl lies refl m.begun m.epoch m.locals (Calls call (Some w)) m.log
        (record { locals = g.knows.locals; epoch = g.knows.epoch; log = g.knows.log; begun = g.knows.begun; target = g.knows.target }) g.births g.width
        (addresses_made a here d f b here' made g.alloc.good (is_thread m a here g))
        (record {
          position = at.position;
          header = refl;
          no_birth = at.no_birth;
          untargeted = at.untargeted;
          not_alone = at.not_alone;
          under_way = at.under_way;
          alloc = at.alloc;
          object = at.object;
          read = subst (λ x. IsHeaderRead m.heap x (Some w)) (sym field) told;
        })

-- the turns
module _ {T : Type 0} (stand : T → Stand) (here : T → ℕ → Bool) (did : T → Step → Found → T → Type 0)
    (moved : T → ℕ → Option FrameView → Option FrameView → T → Type 0) (m : Mutating) (s s' : T) (g : Agrees m (stand s) (here s))
    (call : Call) (h : Option ℕ) (is : m.task ≡ Calls call h) (d : Step) (f : Found) (named : call_step m.by m.epoch (local_kept m) call h ≡ Some d)
    (made : Made (stand s) (here s) d f (stand s') (here s')) (kept : did s d f s') (lies : LieAs (stand s').view (here s) (here s')) where
  is_idle : IsIdle m.alloc.stage
  is_idle = subst IsIdle (sym (calls_at m (stand s) (here s) g call h is).alloc) tt

  pub turn_by : (m' : Mutating) → m'.task ≡ task_by m' (stand s').view → m'.alloc ≡ m.alloc → m'.marker ≡ m.marker →
      m'.heap ≡ m.heap → m'.by ≡ m.by → m'.calls ≡ m.calls → Agrees m' (stand s') (here s') → (HasEnded m'.task → ⊥) →
      (q : Mutating) → q ≡ m' → Goes stand here did moved asks_none m s s' q Moved
  turn_by m' task alloc marker heap by calls agrees on q is_q =
      subst (λ (q : Mutating). Goes stand here did moved asks_none m s s' q Moved) (sym is_q)
      (goes_by stand here did moved m s s' m' Moved asks_none (Calls call h) is
      (makes stand here did moved m s s' m' Moved (Calls call h) is d f named made kept task alloc marker refl) heap by calls agrees
      (moves_on m'.task on))

  pub turn_answers : (reply : Reply) (now locals : List ℕ) → now ≡ locals → length locals ≡ LOCALS →
      view_after (stand s).heap (stand s).by (stand s).view d f ≡
      logged (saying (stand s).by (epoch_in (stand s).view) call reply 0 (record (stand s).view { position = positions.Between; locals = now })) →
      (q : Mutating) → q ≡ record m { locals = locals; log = said m call reply 0; task = resting_task m } →
      Goes stand here did moved asks_none m s s' q Moved
  turn_answers reply now locals same width outcome =
      let a : Stand = stand s in
      let u : View = logged (saying a.by (epoch_in a.view) call reply 0 (record a.view { position = positions.Between; locals = now })) in
      let m' : Mutating = record m { locals = locals; log = said m call reply 0; task = resting_task m } in
      let view : stand s' ≡ record a { view = u } = made.view ∙ ap (λ v. record a { view = v }) outcome in
      let agrees : Agrees m' (stand s') (here s') =
      answered_agrees m a (here s) g call h is d f (stand s') (here s') made is_idle lies reply now locals same width view in
      let between : (stand s').view.position ≡ positions.Between = ap (λ (x : Stand). x.view.position) view in
      turn_by m' (sym (ap (task_at (has_left m') (has_single m'.alloc.hands) (stand s').view.header) between)) refl refl refl refl refl agrees
      (rest_goes_on (has_left m) (has_single m.alloc.hands))

  pub turn_refers : (r w : ℕ) →
      view_after (stand s).heap (stand s).by (stand s).view d f ≡
      logged (saying (stand s).by (epoch_in (stand s).view) call (ref_word w) 0
      (record (stand s).view { position = positions.Writing r w 0; locals = slice_set (stand s).view.locals r w })) →
      (q : Mutating) → q ≡ referred m call r w → Goes stand here did moved asks_none m s s' q Moved
  turn_refers r w outcome =
      let a : Stand = stand s in
      let u : View = logged (saying a.by (epoch_in a.view) call (ref_word w) 0
      (record a.view { position = positions.Writing r w 0; locals = slice_set a.view.locals r w })) in
      let m' : Mutating = referred m call r w in
      let view : stand s' ≡ record a { view = u } = made.view ∙ ap (λ v. record a { view = v }) outcome in
      let agrees : Agrees m' (stand s') (here s') =
      referred_agrees m a (here s) g call h is d f (stand s') (here s') made is_idle lies r w view in
      let writing : (stand s').view.position ≡ positions.Writing r w 0 = ap (λ (x : Stand). x.view.position) view in
      turn_by m' (sym (ap (task_at (has_left m') (has_single m'.alloc.hands) (stand s').view.header) writing)) refl refl refl refl refl agrees
      (λ x. x)

  pub turn_goes_on : (w : ℕ) (t : ℕ × ℕ × FieldKind) → h ≡ None → field_of call ≡ Some t → told_kind m.heap w t.1 ≡ Some t.2 →
      view_after (stand s).heap (stand s).by (stand s).view d f ≡ logged (quietly (record (stand s).view { header = Some w })) →
      (q : Mutating) → q ≡ record m { task = Calls call (Some w) } → Goes stand here did moved asks_none m s s' q Moved
  turn_goes_on w t none field told outcome =
      let a : Stand = stand s in
      let u : View = logged (quietly (record a.view { header = Some w })) in
      let m' : Mutating = record m { task = Calls call (Some w) } in
      let at : CallsAt m a.view call h = calls_at m a (here s) g call h is in
      let view : stand s' ≡ record a { view = u } = made.view ∙ ap (λ v. record a { view = v }) outcome in
      let agrees : Agrees m' (stand s') (here s') =
      judged_agrees m a (here s) g call h is d f (stand s') (here s') made is_idle lies w t none field told view in
      let calling : (stand s').view.position ≡ positions.Calling call = ap (λ (x : Stand). x.view.position) view ∙ at.position in
      let header : (stand s').view.header ≡ Some w = ap (λ (x : Stand). x.view.header) view in
      turn_by m'
      (sym (ap (λ p. task_at (has_left m') (has_single m'.alloc.hands) (stand s').view.header p) calling
      ∙ (ap (λ birth. calling_task birth call (stand s').view.header) at.no_birth ∙ ap (λ x. Calls call x) header))) refl refl refl refl refl agrees
      (λ x. x)

  pub turn_small : (r w : ℕ) → r < LOCALS →
      view_after (stand s).heap (stand s).by (stand s).view d f ≡
      logged (saying (stand s).by (epoch_in (stand s).view) call (ref_word w) 0
      (record (stand s).view { position = positions.Writing r w 0; locals = slice_set (stand s).view.locals r w })) → w ≤ 1000000
  turn_small r w near outcome =
      referred_small m (stand s) (here s) g call h is d f (stand s') (here s') made is_idle lies r w near
      (made.view ∙ ap (λ v. record (stand s) { view = v }) outcome)
