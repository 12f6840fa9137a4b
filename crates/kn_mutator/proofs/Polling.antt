-- What polls make of the agreement.
use Rattle.std.proofs.Common.{◌≡◌, ℕ, zero, suc, ◌+◌, ◌<◌, ◌≤◌, ◌⊎◌, inl, inr}
use Rattle.std.proofs.Common.{Bool, true, false, cond, List, [], ◌∷◌, ◌++◌, length, take, replicate}
use Rattle.std.proofs.Common.{Option, Some, None, IsTrue, slice_get, slice_index, eqb, refl, sym, ap, ◌∙◌, subst, arith}
use Rattle.std.proofs.lemmas.Bool.{true≢false}
use Rattle.std.proofs.lemmas.List.Sums.{sum_by-append, sum_by-cons}
use Rattle.kn_base.specs.declared.limits.TheConstants.{LOCALS}
use Rattle.kn_base.specs.Sizes.{frame_count}
use Rattle.kn_layout.specs.declared.layouts.FieldKind.{FieldKind}
use Rattle.kn_base.specs.declared.places.Place.TheVariants.{Phase}
use Rattle.kn_graph.specs.declared.calls.Call.{Call}
use Rattle.kn_graph.specs.declared.calls.Call.TheVariants as calls
use Rattle.kn_graph.specs.declared.calls.Reply.{Reply}
use Rattle.kn_graph.specs.declared.calls.Reply.TheVariants as replies
use Rattle.kn_graph.specs.Answers.{yes_or_no}
use Rattle.kn_graph.specs.Arguments.{IsInRange}
use Rattle.kn_graph.specs.Counts.{births_among, makes_object}
use Rattle.kn_graph.specs.Ground.{Ground}
use Rattle.kn_marking.specs.declared.work.Work.{Work}
use Rattle.kn_marking.specs.Shares.{joined}
use Rattle.kn_rule.specs.declared.positions.Position.{Position}
use Rattle.kn_rule.specs.declared.positions.Position.TheVariants as positions
use Rattle.kn_rule.specs.declared.steps.Action.TheVariants.{LoadsFor}
use Rattle.kn_rule.specs.declared.steps.Kind.TheVariants.{K1}
use Rattle.kn_rule.specs.Allowed.{IsBuilt, MayBegin, MayNext, MayPoll, MayPollAt, MayEnterFor}
use Rattle.kn_rule.specs.Decoding.{phase_of}
use Rattle.kn_rule.specs.MarkSteps.{joined_by}
use Rattle.kn_rule.specs.Outcomes.{begin_with, poll_at, poll_run, view_answer, with_call, enters_for}
use Rattle.kn_rule.specs.Phases.{is_run, pauses}
use Rattle.kn_rule.specs.Requests.{birth_of, field_of, header_for}
use Rattle.kn_rule.specs.Rule.{fresh}
use Rattle.kn_rule.specs.Steps.{Found, does, entry_of, epoch_in, logged, quietly, saying}
use Rattle.kn_rule.specs.Views.{View}
use Rattle.kn_steps.specs.Made.{Made, Stand}
use Rattle.kn_alloc.specs.Agree.{Agrees as AllocAgrees, HasBegun, IsIdle}
use Rattle.kn_alloc.specs.Keeps.{Keeps}
use Rattle.kn_mutator.specs.declared.task.Task.{Task}
use Rattle.kn_mutator.specs.declared.task.Task.TheVariants.{Births, Calls, Enters, Leaves, Polls}
use Rattle.kn_mutator.specs.Agree.{Agrees, AtTask, HasAnswered, HasLeft, IsHeaderRead, IsObjectIn, Owes, Rests, Stands, UnderWay}
use Rattle.kn_mutator.specs.After.{answered, resting_task, said}
use Rattle.kn_mutator.specs.Begun.{IsReady, RequestsCell, alone}
use Rattle.kn_mutator.specs.Mutating.{Knows, Mutating}
use Rattle.kn_mutator.specs.Tasks.{next_call}
use Rattle.kn_mutator.proofs.Core.{addresses_made, agrees_then, all_get, alloc_then, answers_more, by_is, is_thread, loads_joined}
use Rattle.kn_mutator.proofs.Core.{rest_at, share_then, take_one_more}

abbrev one : Call → ℕ
one call = cond (makes_object call) 1 0

births_of : (c : Call) (cs : List Call) → births_among (c ∷ cs) ≡ one c + births_among cs
births_of c cs = sum_by-cons (λ (c : Call). cond (makes_object c) 1 0) c cs

births_after : (all : List Call) (n : ℕ) (call : Call) → slice_get all n ≡ Some call → births_among (take n all) + one call ≤ births_among all
births_after [] n call e = cc
births_after (c ∷ cs) zero call e =
    let is : one c ≡ one call = ap one (let x : c ≡ call = cc in x) in
    let more = births_of c cs in
    let none : births_among (take zero (c ∷ cs)) ≡ 0 = refl in
    omega (arith, is, more, none)
births_after (c ∷ cs) (suc n) call e =
    let h = births_after cs n call e in
    let more = births_of c cs in
    let taken : births_among (take (suc n) (c ∷ cs)) ≡ one c + births_among (take n cs) = births_of c (take n cs) in
    omega (arith, h, more, taken)

births_more : (all : List Call) (n : ℕ) (call : Call) → slice_get all n ≡ Some call →
    births_among (take n all) + one call ≡ births_among (take (n + 1) all)
births_more all n call e =
    let both : births_among (take n all ++ call ∷ []) ≡ births_among (take n all) + births_among (call ∷ []) =
    sum_by-append (λ (c : Call). cond (makes_object c) 1 0) (take n all) (call ∷ []) in
    let last = births_of call [] in
    let none : births_among [] ≡ 0 = refl in
    let more : births_among (take (n + 1) all) ≡ births_among (take n all ++ call ∷ []) = ap births_among (take_one_more all n call e) in
    omega (arith, both, last, none, more)

-- a view alone answers by its locals
same_alone : (z : Ground) (v u : View) (call : Call) → v.locals ≡ u.locals → view_answer z v call ≡ view_answer z u call
same_alone z v u (calls.New r l) e = refl
same_alone z v u (calls.NewArray r l n) e = refl
same_alone z v u (calls.Same r s) e = ap (λ l. Some (yes_or_no (eqb (slice_index l r) (slice_index l s)))) e
same_alone z v u (calls.Get r s f) e = ap (λ l. cond (eqb (slice_index l s) 0) (Some replies.Nil) None) e
same_alone z v u (calls.Set s f r) e = ap (λ l. cond (eqb (slice_index l s) 0) (Some replies.Nil) None) e
same_alone z v u (calls.Put s f n) e = ap (λ l. cond (eqb (slice_index l s) 0) (Some replies.Nil) None) e
same_alone z v u (calls.Read s f) e = ap (λ l. cond (eqb (slice_index l s) 0) (Some replies.Nil) None) e
same_alone z v u _ e = refl

-- a call that the view alone does not answer has its object
not_null : (w : ℕ) (r : Reply) → cond (eqb w 0) (Some r) None ≡ None → 0 < w
not_null zero r e = cc
not_null (suc n) r e = omega arith

object_in : (z : Ground) (locals : List ℕ) (call : Call) → view_answer z (record (fresh z) { locals = locals }) call ≡ None →
    IsObjectIn (λ r. slice_index locals r) (field_of call)
object_in z locals (calls.Get r s f) e = not_null (slice_index locals s) replies.Nil e
object_in z locals (calls.Set s f r) e = not_null (slice_index locals s) replies.Nil e
object_in z locals (calls.Put s f n) e = not_null (slice_index locals s) replies.Nil e
object_in z locals (calls.Read s f) e = not_null (slice_index locals s) replies.Nil e
object_in z locals _ e = tt

nothing_read : (z : Ground) (field : Option (ℕ × ℕ × FieldKind)) → IsHeaderRead z field None
nothing_read z None = tt
nothing_read z (Some t) = tt

-- one that enters and wants no epoch has a call left to begin
pub rests_entering : (m : Mutating) (v : View) (p : Position) → m.target ≡ None → Stands m v p → Rests m v p × HasLeft m
rests_entering m v p none h =
    let owes : HasAnswered m.log m.calls m.begun × HasLeft m = subst (Owes m) none h.owes in
    (record { position = h.position; answers = owes.0; untargeted = none; alloc = h.alloc }, owes.1)

-- one that was in or entering goes out behind a load of the phase
module _ (m : Mutating) (a : Stand) (here : ℕ → Bool) (g : Agrees m a here) (owes : Owes m m.target) (idle : IsIdle m.alloc.stage)
    (next : Option Call) (f : Found) (b : Stand) (here' : ℕ → Bool) (made : Made a here (does K1 Phase (LoadsFor next)) f b here') where
  pub leaves_at : (at : Position) (work : Work) → work ≡ joined a.view.work work.epoch → ((at ≡ positions.Leaving) ⊎ (at ≡ positions.Entering)) →
      b ≡ record a { view = record a.view { position = at; work = work } } → Agrees (record m { task = Leaves }) b here'
  leaves_at at work share which view =
      agrees_then m a here g idle b here' (record a.view { position = at; work = work }) view refl refl refl made.lies share m.begun m.epoch m.locals
      Leaves m.log
      (record { locals = g.knows.locals; epoch = g.knows.epoch; log = g.knows.log; begun = g.knows.begun; target = g.knows.target }) g.births g.width
      (addresses_made a here (does K1 Phase (LoadsFor next)) f b here' made g.alloc.good (is_thread m a here g)) (which, owes, idle)

module _ (m : Mutating) (a : Stand) (here : ℕ → Bool) (g : Agrees m a here) (p : Position)
    (ready : (p ≡ positions.Entering) ⊎ (p ≡ positions.Between)) (at : Rests m a.view p × HasLeft m) where
  owes : Owes m m.target
  owes = subst (Owes m) (sym at.0.untargeted) (at.0.answers, at.1)

  free : a.view.target ≡ None
  free = g.knows.target ∙ at.0.untargeted

  -- the poll is allowed
  may_begin : (call : Call) → slice_get m.calls m.begun ≡ Some call → MayBegin a.heap a.by a.view here call
  may_begin call e =
      let left : m.begun < length m.calls = at.1 in
      let births = births_after m.calls m.begun call e in
      record {
        built = all_get IsBuilt m.calls m.begun call g.planned.built e;
        in_range = subst (λ z. Rattle.kn_graph.specs.Arguments.IsInRange z call) (sym g.heap)
            (all_get (Rattle.kn_graph.specs.Arguments.IsInRange m.heap) m.calls m.begun call g.planned.in_range e);
        call_left = subst (λ n. n < slice_index a.heap.sizes.calls a.by) (sym g.knows.begun)
            (subst (λ n. m.begun < n) (sym (ap (λ (z : Ground). slice_index z.sizes.calls a.by) g.heap
            ∙ (ap (λ c. slice_index m.heap.sizes.calls c) (by_is m a here g) ∙ g.planned.calls_are))) left);
        birth_left = λ t.
            subst (λ n. n < slice_index a.heap.sizes.births a.by) (sym g.births)
            (subst (λ n. births_among (take m.begun m.calls) < n) (sym (ap (λ (z : Ground). slice_index z.sizes.births a.by) g.heap
            ∙ (ap (λ c. slice_index m.heap.sizes.births c) (by_is m a here g) ∙ g.planned.births_are)))
            (one_less (makes_object call) t (births_among (take m.begun m.calls)) (births_among m.calls) births));
      }
    where
      one_less : (b : Bool) → IsTrue b → (n k : ℕ) → n + cond b 1 0 ≤ k → n < k
      one_less true t n k l = omega arith
      one_less false t n k l = absurd (true≢false (sym t))

  may_next : (next : Option Call) → ((call : Call) → next ≡ Some call → slice_get m.calls m.begun ≡ Some call) →
      MayNext a.heap a.by a.view here next
  may_next None h = tt
  may_next (Some call) h = may_begin call (h call refl)

  may_at : (p ≡ positions.Entering) ⊎ (p ≡ positions.Between) → (next : Option Call) → MayNext a.heap a.by a.view here next →
      MayPollAt a.heap a.by a.view here p next
  may_at (inl e) next n =
      subst (λ q. MayPollAt a.heap a.by a.view here q next) (sym e) (subst (λ t. MayEnterFor a.heap a.by a.view here t next) (sym free) n)
  may_at (inr e) next n = subst (λ q. MayPollAt a.heap a.by a.view here q next) (sym e) (free, n)

  next_is : (passed : Bool) (call : Call) → next_call m passed ≡ Some call → slice_get m.calls m.begun ≡ Some call
  next_is true call e = e
  next_is false call e = cc

  -- an entering load may be a poll for the next call
  pub may_enter : (passed : Bool) (next : Option Call) → next ≡ next_call m passed → MayEnterFor a.heap a.by a.view here a.view.target next
  may_enter passed next e =
      subst (λ t. MayEnterFor a.heap a.by a.view here t next) (sym free) (may_next next (λ call is. next_is passed call (sym e ∙ is)))

  -- the next call may begin
  pub ready_is : IsReady m
  ready_is = record {
    left = at.1;
    room = subst (λ n. n < length m.calls) (sym at.0.answers.count) at.1;
    resting = at.0.alloc;
    sizes = sym g.alloc.sizes ∙ ap (λ (z : Ground). z.sizes) g.heap;
    agrees = (a, here, g.alloc);
  }

  pub next_in_range : (passed : Bool) (next : Option Call) → next ≡ next_call m passed → (call : Call) → next ≡ Some call → IsInRange m.heap call
  next_in_range passed next e call is =
      all_get (IsInRange m.heap) m.calls m.begun call g.planned.in_range (next_is passed call (sym e ∙ is))

  pub may_poll : (passed : Bool) (next : Option Call) → next ≡ next_call m passed → MayPoll a.heap a.by a.view here Phase (LoadsFor next)
  may_poll passed next e = record {
    next = next;
    place = refl;
    act = refl;
    thread = is_thread m a here g;
    may = subst (λ q. MayPollAt a.heap a.by a.view here q next) (sym at.0.position)
        (may_at ready next (may_next next (λ call is. next_is passed call (sym e ∙ is))));
  }

  module _ (next : Option Call) (f : Found) (b : Stand) (here' : ℕ → Bool) (made : Made a here (does K1 Phase (LoadsFor next)) f b here') where
    polled_view : (run : Bool) → is_run (phase_of f.word).code ≡ run →
        b ≡ record a { view = logged (poll_at a.heap a.by a.view Phase (LoadsFor next) f p run next) }
    polled_view run e =
        made.view
        ∙ (λ t. record a { view = logged (poll_at a.heap a.by a.view Phase (LoadsFor next) f (at.0.position t) (e t) next) })

    small : (r : ℕ) → r < LOCALS → slice_index b.view.locals r ≤ 1000000
    small = addresses_made a here (does K1 Phase (LoadsFor next)) f b here' made g.alloc.good (is_thread m a here g)

    idle : IsIdle m.alloc.stage
    idle = subst IsIdle (sym at.0.alloc) tt

    -- in no run phase it goes out
    left_at : (p ≡ positions.Entering) ⊎ (p ≡ positions.Between) →
        b ≡ record a { view = logged (poll_at a.heap a.by a.view Phase (LoadsFor next) f p false next) } → Agrees (record m { task = Leaves }) b here'
    left_at (inl e) view =
        let work : Work = joined_by (phase_of f.word) a.view.work in
        leaves_at m a here g owes idle next f b here' made positions.Entering work (loads_joined f.word a.view.work) (inr refl)
        (view ∙ ((λ t. record a { view = logged (poll_at a.heap a.by a.view Phase (LoadsFor next) f (e t) false next) })
        ∙ λ t. record a { view = record a.view { position = (at.0.position ∙ e) t; work = work } }))
    left_at (inr e) view =
        leaves_at m a here g owes idle next f b here' made positions.Leaving a.view.work refl (inl refl)
        (view ∙ λ t. record a { view = logged (poll_at a.heap a.by a.view Phase (LoadsFor next) f (e t) false next) })

    pub left : is_run (phase_of f.word).code ≡ false → Agrees (record m { task = Leaves }) b here'
    left e = left_at ready (polled_view false e)

    run_view : (p ≡ positions.Entering) ⊎ (p ≡ positions.Between) →
        b ≡ record a { view = logged (poll_at a.heap a.by a.view Phase (LoadsFor next) f p true next) } →
        b ≡ record a { view = logged (poll_run a.heap a.by a.view Phase (LoadsFor next) f next) }
    run_view (inl e) view =
        view ∙ ((λ t. record a { view = logged (poll_at a.heap a.by a.view Phase (LoadsFor next) f (e t) true next) })
        ∙ λ t. record a { view = logged (enters_for a.heap a.by a.view Phase (LoadsFor next) f (free t) next) })
    run_view (inr e) view = view ∙ λ t. record a { view = logged (poll_at a.heap a.by a.view Phase (LoadsFor next) f (e t) true next) }

    module _ (run : is_run (phase_of f.word).code ≡ true) (epoch : ℕ) (epoch_is : epoch ≡ pauses (phase_of f.word)) where
      ran : b ≡ record a { view = logged (poll_run a.heap a.by a.view Phase (LoadsFor next) f next) }
      ran = run_view ready (polled_view true run)

      -- no call was let through
      pub waited : next ≡ None → Agrees (record m { epoch = epoch; task = Polls }) b here'
      waited none =
          let u : View = record a.view { position = positions.Between; polled = f.word } in
          let e : b ≡ record a { view = u } =
          ran ∙ (λ t. record a { view = logged (poll_run a.heap a.by a.view Phase (LoadsFor next) f (none t)) }) in
          agrees_then m a here g idle b here' u e refl refl refl made.lies refl m.begun epoch m.locals Polls m.log
          (record { locals = g.knows.locals; epoch = sym epoch_is; log = g.knows.log; begun = g.knows.begun; target = g.knows.target }) g.births g.width small (
            record {
              position = refl;
              answers = at.0.answers;
              untargeted = at.0.untargeted;
              alloc = at.0.alloc;
            },
            at.1,
          )

      module _ (call : Call) (is_next : next ≡ Some call) (is_call : slice_get m.calls m.begun ≡ Some call) where
        -- the mutator in the epoch of the poll
        abbrev now : Mutating
        now = record m { epoch = epoch }

        abbrev begun_one : Mutating
        begun_one = record m { epoch = epoch; begun = m.begun + 1 }

        alone_is : view_answer a.heap a.view call ≡ alone now call
        alone_is = ap (λ z. view_answer z a.view call) g.heap ∙ same_alone m.heap a.view (record (fresh m.heap) { locals = m.locals }) call g.knows.locals

        begun_view : (r : Option Reply) → alone now call ≡ r →
            b ≡ record a { view = logged (begin_with a.heap a.by a.view Phase (LoadsFor next) f call r) }
        begun_view r e =
            ran
            ∙ ((λ t. record a { view = logged (poll_run a.heap a.by a.view Phase (LoadsFor next) f (is_next t)) })
            ∙ (λ t. record a { view = logged (begin_with a.heap a.by a.view Phase (LoadsFor next) f call ((alone_is ∙ e) t)) }))

        under : UnderWay m.log m.calls (m.begun + 1) call
        under = record {
          number = m.begun;
          is_last = refl;
          is_call = is_call;
          answers = at.0.answers;
        }

        births_then : a.view.births + cond (makes_object call) 1 0 ≡ births_among (take (m.begun + 1) m.calls)
        births_then = ap (λ n. n + cond (makes_object call) 1 0) g.births ∙ births_more m.calls m.begun call is_call

        epoch_then : pauses (phase_of f.word) ≡ epoch
        epoch_then = sym epoch_is

        pub answered_at_once : (reply : Reply) → alone now call ≡ Some reply → Agrees (answered begun_one call reply) b here'
        unfolding under
        answered_at_once reply e =
            let u : View = logged (saying a.by (pauses (phase_of f.word)) call reply 0 (with_call a.heap a.by a.view Phase
            (LoadsFor next) f call positions.Between)) in
            let answers = answers_more begun_one call under reply 0 in
            agrees_then m a here g idle b here' u (begun_view (Some reply) e) refl refl refl made.lies refl (m.begun + 1) epoch m.locals
            (resting_task begun_one) (said begun_one call reply 0)
            (record {
              locals = g.knows.locals;
              epoch = epoch_then;
              log = λ t. (g.knows.log t) ++ entry_of (by_is m a here g t) (epoch_then t) call reply 0 ∷ [];
              begun = ap (λ n. n + 1) g.knows.begun;
              target = g.knows.target;
            })
            births_then g.width small (rest_at (answered begun_one call reply) u refl answers at.0.untargeted at.0.alloc)

        pub answered_between : (reply : Reply) → alone now call ≡ Some reply → b.view.position ≡ positions.Between
        answered_between reply e = ap (λ (x : Stand). x.view.position) (begun_view (Some reply) e)

        abbrev calling : View
        calling = logged (quietly (with_call a.heap a.by a.view Phase (LoadsFor next) f call (positions.Calling call)))

        knows_then : (task : Task) (alloc : Keeps) → Knows (record begun_one { task = task; alloc = alloc }) calling
        knows_then task alloc = record {
          locals = g.knows.locals;
          epoch = epoch_then;
          log = g.knows.log;
          begun = ap (λ n. n + 1) g.knows.begun;
          target = g.knows.target;
        }

        pub goes_on : alone now call ≡ None → makes_object call ≡ false → Agrees (record begun_one { task = Calls call None }) b here'
        goes_on e birth =
            agrees_then m a here g idle b here' calling (begun_view None e) refl refl refl made.lies refl (m.begun + 1) epoch m.locals (Calls call None)
            m.log (record { locals = g.knows.locals; epoch = epoch_then; log = g.knows.log; begun = ap (λ n. n + 1) g.knows.begun; target = g.knows.target })
            births_then g.width small
            (record {
              position = refl;
              header = refl;
              no_birth = birth;
              untargeted = at.0.untargeted;
              not_alone = e;
              under_way = under;
              alloc = at.0.alloc;
              object = object_in m.heap m.locals call e;
              read = nothing_read m.heap (field_of call);
            })

        pub gets : alone now call ≡ None → (m' : Mutating) → RequestsCell now call m' → Agrees m' b here'
        gets e m' r =
            let view = begun_view None e in
            let v : b.view ≡ calling = ap (λ (x : Stand). x.view) view in
            let heap : b.heap ≡ m.heap = ap (λ (x : Stand). x.heap) view ∙ g.heap in
            let before : AllocAgrees m.alloc b here' = alloc_then m a here g idle b here' calling view refl refl refl made.lies in
            let has : HasBegun b r.words (header_for (birth_of m.heap call)) epoch = record {
              call = call;
              is_call = ap (λ (x : View). x.position) v;
              is_request = ap (λ z. Rattle.kn_rule.specs.Requests.words_asked z call) heap ∙ r.asked;
              is_header = sym (ap (λ z. header_for (birth_of z call)) heap);
              is_epoch = sym (ap (λ (x : View). epoch_in x) v ∙ epoch_then);
              seen = ap (λ (x : View). x.seen) v
                  ∙ sym (ap (λ z. replicate (frame_count z.sizes) None) (ap (λ (x : Stand). x.heap) view));
              refused = ap (λ (x : View). x.refused) v
                  ∙ sym (ap (λ z. replicate (frame_count z.sizes) false) (ap (λ (x : Stand). x.heap) view));
            } in
            let task : Task = Births call in
            let new : Mutating = record begun_one { task = task; alloc = r.alloc } in
            subst (λ (q : Mutating). Agrees q b here') (sym r.after) (record {
              alloc = r.agrees b here' before has;
              marker = share_then m a here g idle b here' calling view refl refl refl made.lies refl;
              heap = heap;
              caller = r.by ∙ g.caller;
              knows = subst (Knows new) (sym v) (knows_then task r.alloc);
              planned = g.planned;
              births = ap (λ (x : View). x.births) v ∙ births_then;
              width = g.width;
              addresses = λ q l. subst (λ l. slice_index l q ≤ 1000000) (ap (λ (x : View). x.locals) v ∙ g.knows.locals) (small q l);
              at = record {
                position = ap (λ (x : View). x.position) v;
                birth = r.birth;
                untargeted = at.0.untargeted;
                under_way = under;
                alloc = r.gets;
              };
            })

-- a poll at either of its tasks
module _ (m : Mutating) (a : Stand) (here : ℕ → Bool) (g : Agrees m a here) where
  at_task : (t : Task) → m.task ≡ t → AtTask t m a.view
  at_task t e = subst (λ t. AtTask t m a.view) e g.at

  module _ (is : m.task ≡ Enters) (none : m.target ≡ None) where
    entering : Rests m a.view positions.Entering × HasLeft m
    entering = rests_entering m a.view positions.Entering none (at_task Enters is)

    pub may_enter_at : (passed : Bool) (next : Option Call) → next ≡ next_call m passed → MayEnterFor a.heap a.by a.view here a.view.target next
    may_enter_at = may_enter m a here g positions.Entering (inl refl) entering

    pub ready_entering : IsReady m
    ready_entering = ready_is m a here g positions.Entering (inl refl) entering

    pub range_entering : (passed : Bool) (next : Option Call) → next ≡ next_call m passed → (call : Call) → next ≡ Some call → IsInRange m.heap call
    range_entering = next_in_range m a here g positions.Entering (inl refl) entering

  module _ (is : m.task ≡ Polls) where
    pub may_poll_at : (passed : Bool) (next : Option Call) → next ≡ next_call m passed → MayPoll a.heap a.by a.view here Phase (LoadsFor next)
    may_poll_at = may_poll m a here g positions.Between (inr refl) (at_task Polls is)

    pub ready_between : IsReady m
    ready_between = ready_is m a here g positions.Between (inr refl) (at_task Polls is)

    pub range_between : (passed : Bool) (next : Option Call) → next ≡ next_call m passed → (call : Call) → next ≡ Some call → IsInRange m.heap call
    range_between = next_in_range m a here g positions.Between (inr refl) (at_task Polls is)
