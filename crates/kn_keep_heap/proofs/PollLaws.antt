-- The laws of a poll and of a store of a mutator's state.
use Rattle.std.proofs.Common.{◌≡◌, ℕ, ◌+◌, ◌<◌, ◌≤◌, inl, inr, Bool, true, false, cond, eqb, leb, List, length, Option, Some, None}
use Rattle.std.proofs.Common.{slice_index, refl, ◌≢◌, leb-true}
use Rattle.std.proofs.Common.{sym, subst, ap, ◌∙◌, arith}
use Rattle.std.proofs.lemmas.Bool.Decides.{eqb_tells}
use Rattle.kn_base.specs.declared.places.Place.TheVariants.{Phase, State as StateOf, Local, Body}
use Rattle.kn_base.specs.declared.kinds.Code.{Code}
use Rattle.kn_base.specs.declared.kinds.Code.TheVariants as codes
use Rattle.kn_base.specs.Functions.{upd, Tells}
use Rattle.kn_base.proofs.Updates.{upd_case, upd_case2}
use Rattle.kn_layout.specs.declared.layouts.FieldKind.{FieldKind}
use Rattle.kn_graph.specs.declared.calls.Call.{Call}
use Rattle.kn_graph.specs.declared.calls.Call.TheVariants.{New, NewArray, Same, Get, Set, Put, Read}
use Rattle.kn_graph.specs.declared.calls.Reply.{Reply}
use Rattle.kn_graph.specs.declared.calls.Reply.TheVariants as replies
use Rattle.kn_graph.specs.Ground.{Ground}
use Rattle.kn_graph.specs.Arguments.{IsInRange}
use Rattle.kn_graph.specs.Graph.{Graph, shapes, field_kind, with_points, with_number, with_entered}
use Rattle.kn_graph.specs.Sound.{Alive}
use Rattle.kn_graph.specs.Answers.{Answer, IsAnswer, MayAnswer, answers, needs, where_ref, where_int, reads, yes_or_no}
use Rattle.kn_graph.specs.Counts.{makes_object, births_among}
use Rattle.kn_graph.specs.Logs.{calls_of}
use Rattle.kn_rule.specs.declared.steps.Kind.TheVariants.{K1, K2}
use Rattle.kn_rule.specs.declared.steps.Action.TheVariants.{LoadsFor, Stores}
use Rattle.kn_rule.specs.declared.positions.Position.{Position}
use Rattle.kn_rule.specs.declared.positions.Position.TheVariants.{Out, Entering, Between, Calling, Waiting, Leaving, Ended}
use Rattle.kn_rule.specs.Decoding.{phase_of}
use Rattle.kn_rule.specs.Phases.{is_run, pauses, last_done}
use Rattle.kn_rule.specs.Places.{put}
use Rattle.kn_rule.specs.Views.{View, Views, State, views_of, local_of}
use Rattle.kn_rule.specs.Requests.{field_of}
use Rattle.kn_rule.specs.Steps.{Found, does, quietly, epoch_in}
use Rattle.kn_rule.specs.Outcomes.{position_of, view_answer, begin_with, poll_run, poll_at, with_call, epoch_told, waits_on, enters_for, waits_at}
use Rattle.kn_rule.specs.Outcomes.{stays_out}
use Rattle.kn_rule.specs.MarkSteps.{joined_by}
use Rattle.kn_rule.specs.Allowed.{MayBegin, MayNext, MayEnterFor, MayPollAt, MayGo}
use Rattle.kn_rule.specs.Moves.{stepped_by}
use Rattle.kn_rule.specs.HistoryClauses.{under_way, births_under_way, IsRightCall, Told}
use Rattle.kn_rule.specs.ObjectClauses.{IsReadAt, IsReadFor, IsCleared, IsWriting, IsValueDue, address_of}
use Rattle.kn_rule.specs.CallerClauses.{state_number, IsSince, IsIn, IsBusy, IsInOrLeaving, Stopped, IsDue}
use Rattle.kn_rule.specs.Rule.{Rule, RuleOf}
use Rattle.kn_keep_heap.specs.Answered.{IsIdle}
use Rattle.kn_keep_heap.proofs.Changed.{some_is}
use Rattle.kn_keep_heap.proofs.Parts.{local_same, own_same, taken_same, position_put, polled_put, target_same, header_put, log_same, calls_put}
use Rattle.kn_keep_heap.proofs.Parts.{births_put, rest_same, width_same}
use Rattle.kn_keep_heap.proofs.Loads.{put_same}
use Rattle.kn_keep_heap.proofs.Locals.{locals_moved}
use Rattle.kn_keep_heap.proofs.Positions.{formed_at, at_end_at, stated_at, owners_at, cleared_at, apart_at, taken_in_at}
use Rattle.kn_keep_heap.proofs.Wants.{stopped_run, stopped_at}
use Rattle.kn_keep_heap.proofs.EpochLaw.{told_rule}
use Rattle.kn_keep_heap.proofs.Idle.{idle_calls, idle_births, not_writing, not_asking, none_asked, idle_moved, owners_gone, none_out}
use Rattle.kn_keep_heap.proofs.Values.{same_told, positive, below_sixteen}
use Rattle.kn_keep_heap.proofs.ReadLaws.{snd}
use Rattle.kn_keep_heap.proofs.ThenAnswer.{then_answer, views_kept}
use Rattle.kn_keep_heap.proofs.Works.{joined_rule}

-- a run phase is what was polled there
run_since : (e : ℕ) (c : Code) → is_run c ≡ true → IsSince (record { epoch = e; code = c }) (record { epoch = e; code = c })
run_since e codes.Idle h = inl (refl, refl)
run_since e codes.StopA h = absurd (cc)
run_since e codes.Mark h = absurd (cc)
run_since e codes.Weak h = inl (refl, refl)
run_since e codes.StopB h = absurd (cc)
run_since e codes.Prep h = absurd (cc)
run_since e codes.Sweep h = inl (refl, refl)

pub in_leaves : (q : Position) → IsIn q → IsInOrLeaving q
in_leaves Leaving h = absurd h
in_leaves _ h = h

nil_at : (w : ℕ) (reply : Reply) → cond (eqb w 0) (Option.Some replies.Nil) None ≡ Some reply → (w ≡ 0) × (replies.Nil ≡ reply)
nil_at w reply e = by (eqb_tells w 0)
  where
    by : Tells w 0 → (w ≡ 0) × (replies.Nil ≡ reply)
    by (inl t) = (t.1, some_is replies.Nil reply (sym (ap (λ b. cond b (Option.Some replies.Nil) None) t.0) ∙ e))
    by (inr t) = let h : Option.None ≡ Some reply = sym (ap (λ b. cond b (Option.Some replies.Nil) None) t.0) ∙ e in absurd (cc)

full_at : (b : Bool) (reply : Reply) → cond b (Option.Some replies.Full) None ≡ Some reply → replies.Full ≡ reply
full_at true reply e = some_is replies.Full reply e
full_at false reply e = let h : Option.None ≡ Some reply = e in absurd (cc)

module _ (z : Ground) (s : State) (by : ℕ) (less : by < z.sizes.threads) (g : Graph) (rule : RuleOf z g s.word s.page
    (views_of s.caller) s.history) where
  abbrev V : Views
  V = views_of s.caller

  null_there : (t : ℕ) → t < 16 → local_of (s.caller by) t ≡ 0 → g.local by t ≡ None
  null_there t small e = at (g.local by t) refl
    where
      at : (x : Option ℕ) → g.local by t ≡ x → x ≡ None
      at None h = refl
      at (Some m) h =
          let S = snd z s by less g rule in
          let a = rule.localed.views by t less small in
          let b : 0 ≡ (shapes g m).address = sym e ∙ (a ∙ ap (address_of (shapes g)) h) in
          let al = subst (λ x. Alive g.born (shapes g) x) h (S.roots.locals by t) in
          let p = positive z g S m al.0 in absurd (omega arith)

  -- `nil` is the answer where the local that a call needs is null
  nil_answer : (t : ℕ) (f : ℕ → Answer) (reply : Reply) → t ≤ 15 →
      cond (eqb (local_of (s.caller by) t) 0) (Option.Some replies.Nil) None ≡ Some reply →
      IsAnswer (needs z by g (g.local by t) f) reply 0 g
  nil_answer t f reply small e =
      let h = nil_at (local_of (s.caller by) t) reply e in
      subst (λ x. IsAnswer (needs z by g x f) reply 0 g) (sym (null_there t (below_sixteen t small) h.0))
      (record { reply_is = sym h.1; nowhere = refl; after = refl })

  -- what the view alone answers is an answer
  view_answers : (call : Call) (reply : Reply) → IsInRange z call → view_answer z (s.caller by) call ≡ Some reply → MayAnswer z by call g reply 0 g
  view_answers (New r layout) reply fits e = inr (record { reply_is = sym (full_at _ reply e); nowhere = refl; after = refl })
  view_answers (NewArray r layout n) reply fits e = inr (record { reply_is = sym (full_at _ reply e); nowhere = refl; after = refl })
  view_answers (Same r t) reply fits e =
      let S = snd z s by less g rule in
      let h = some_is _ reply e in
      let a = rule.localed.views by r less (below_sixteen r fits.0) in
      let b = rule.localed.views by t less (below_sixteen t fits.1.0) in
      let same = same_told z g S (g.local by r) (g.local by t) (S.roots.locals by r) (S.roots.locals by t) in
      record { reply_is = sym h ∙ ap yes_or_no ((λ i. eqb (a i) (b i)) ∙ same); nowhere = refl; after = refl }
  view_answers (Get r t i) reply fits e =
      nil_answer t (λ n. where_ref z by g (field_kind z (shapes g n) i) (reads z by g r ((g.object n).points i))) reply fits.1.0 e
  view_answers (Set t i r) reply fits e =
      nil_answer t (λ n. where_ref z by g (field_kind z (shapes g n) i) (answers replies.Ok (with_points g n i (g.local by r)))) reply fits.0 e
  view_answers (Put t i w) reply fits e =
      nil_answer t (λ n. where_int z by g (field_kind z (shapes g n) i) (answers replies.Ok (with_number g n i w))) reply fits.0 e
  view_answers (Read t i) reply fits e =
      nil_answer t (λ n. where_int z by g (field_kind z (shapes g n) i) (answers (replies.Int ((g.object n).number i)) g)) reply fits.0 e
  view_answers _ reply fits e = let h : Option.None ≡ Some reply = e in absurd (cc)

  -- a poll of a run phase, by an idle mutator with the state 1 and this target
  module _ (q : Position) (at : (s.caller by).position ≡ q) (idle : IsIdle q) (state : state_number q ≡ 1) (t : Option ℕ)
      (target : (s.caller by).target ≡ t)
      (f : Found) (found : s.word Phase ≡ f.word) (run : is_run (phase_of f.word).code ≡ true) where
    no_cell : (s.caller by).taken ≡ None
    no_cell = none_asked z s by less g rule q at (not_asking z q idle)

    same_word : put s.word Phase f.word ≡ s.word
    same_word = put_same s.word Phase f.word (sym found)

    since_now : IsSince (phase_of f.word) (phase_of (s.word Phase))
    since_now = subst (λ x. IsSince (phase_of f.word) (phase_of x)) (sym found) (run_since (phase_of f.word).epoch (phase_of f.word).code run)

    -- the view behind it, with these calls and births begun
    abbrev polled_view : Position → Option ℕ → List (Option ℕ) → List Bool → ℕ → ℕ → View
    polled_view p header seen refused calls births = record (s.caller by) {
      position = p;
      polled = f.word;
      header = header;
      seen = seen;
      refused = refused;
      calls = calls;
      births = births;
    }

    module _ (p : Position) (header : Option ℕ) (seen : List (Option ℕ)) (refused : List Bool) (calls births : ℕ)
        (right : IsRightCall z p) (state' : state_number p ≡ 1) (own : IsInOrLeaving p) (due : IsValueDue p (V.local by))
        (read : IsReadAt (shapes g) (g.local by) p header) (clear : IsCleared z (λ b. s.word (Body b)) (V.local by) p None)
        (calls_are : under_way p t + V.calls by ≡ calls + under_way Out t) (free : IsBusy p → t ≡ None) (is_due : IsDue p t)
        (births_are : births_under_way p + V.births by ≡ births)
        (calls_fit : calls ≤ slice_index z.sizes.calls by) (births_fit : births ≤ slice_index z.sizes.births by) where
      poll_told : Told z g s.history V.log (upd V.position by p) V.target (upd V.calls by calls) (upd V.births by births)
      poll_told = record {
        leads = rule.told.leads;
        logs = rule.told.logs;
        calls_are = λ c l. upd_case2 (λ k x n. k < z.sizes.threads →
            length (calls_of (V.log k)) + under_way x (V.target k) ≡ n) V.position V.calls by p calls
            (λ l.
            let old : length (calls_of (V.log by)) + under_way q t ≡ V.calls by =
            subst (λ t. length (calls_of (V.log by)) + under_way q t ≡ V.calls by) target
            (subst (λ x. length (calls_of (V.log by)) + under_way x (V.target by) ≡ V.calls by) at (rule.told.calls_are by l)) in
            let due = idle_calls q t idle in
            let new : under_way p (V.target by) ≡ under_way p t = ap (under_way p) target in
            omega (arith, old, due, new, calls_are)) c (λ _ l. rule.told.calls_are c l) l;
        births_are = λ c l. upd_case2 (λ k x n. k < z.sizes.threads →
            births_among (calls_of (V.log k)) + births_under_way x ≡ n) V.position V.births by p births
            (λ l.
            let old : births_among (calls_of (V.log by)) + births_under_way q ≡ V.births by =
            subst (λ x. births_among (calls_of (V.log by)) + births_under_way x ≡ V.births by) at (rule.told.births_are by l) in
            let none = idle_births q idle in
            omega (arith, old, none, births_are)) c (λ _ l. rule.told.births_are c l) l;
        calls_fit = λ c l. upd_case (λ k n. k < z.sizes.threads → n ≤ slice_index z.sizes.calls k) V.calls by calls
            (λ _. calls_fit) c (λ _ l. rule.told.calls_fit c l) l;
        births_fit = λ c l. upd_case (λ k n. k < z.sizes.threads → n ≤ slice_index z.sizes.births k) V.births by births
            (λ _. births_fit) c (λ _ l. rule.told.births_fit c l) l;
      }

      poll_rule : RuleOf z g (put s.word Phase f.word) s.page (views_of (upd s.caller by (polled_view p header seen refused calls births))) s.history
      poll_rule =
          let u : View = polled_view p header seen refused calls births in
          subst (λ x. RuleOf z g x s.page (views_of (upd s.caller by u)) s.history) (sym same_word)
          (subst (λ W. RuleOf z g s.word s.page W s.history) (sym (λ t. record {
            position = position_put s.caller by u t;
            polled = polled_put s.caller by u t;
            target = target_same s.caller by u refl t;
            local = local_same s.caller by u refl t;
            header = header_put s.caller by u t;
            own = own_same s.caller by u refl t;
            taken = taken_same s.caller by u refl t;
            log = log_same s.caller by u refl t;
            calls = calls_put s.caller by u t;
            births = births_put s.caller by u t;
            rest = rest_same s.caller by u refl t;
            width = width_same s.caller by u refl refl t;
          }))
          (record {
            told = poll_told;
            formed = formed_at z V.position by p V.width rule.formed right;
            read_right = record {
              each = λ c l. upd_case2 (λ k x h. k < z.sizes.threads → IsReadAt (shapes g) (g.local k) x h) V.position V.header by p header
                  (λ _. read) c (λ _ l. rule.read_right.each c l) l;
            };
            localed = locals_moved z (shapes g) g.local (λ c i. s.word (Local c i)) V.position V.local rule.localed by p
                (λ i _ h. not_writing q idle i (subst (λ x. IsWriting x i) at h)) due;
            stands = record {
              timed = rule.stands.timed;
              headed = rule.stands.headed;
              fielded = rule.stands.fielded;
              cleared = cleared_at z V.position by p (λ b. s.word (Body b)) V.local V.local V.taken (λ c ne. refl) rule.stands.cleared
                  (subst (λ x. IsCleared z (λ b. s.word (Body b)) (V.local by) p x) (sym no_cell) clear);
              globaled = rule.stands.globaled;
              named = rule.stands.named;
              apart = apart_at z V.position by p g.born (shapes g) V.taken rule.stands.apart no_cell;
              stated = stated_at z V.position by p (λ c. s.word (StateOf c)) rule.stands.stated less (state'
                  ∙ (sym state ∙ ap state_number (sym at)));
              at_end = at_end_at z V.position by p (λ c. (V.rest c).collecting.ended) rule.stands.at_end less
                  (λ e. let h : 1 ≡ 2 = sym state ∙ (ap state_number (sym at) ∙ ap state_number e) in absurd (omega arith));
              polling = record {
                since = λ c l i. upd_case2 (λ k x v. k < z.sizes.threads → IsIn x →
                    IsSince (phase_of v) (phase_of (s.word Phase))) V.position V.polled by p f.word
                    (λ _ _. since_now) c (λ _ l i. rule.stands.polling.since c l i) l i;
                untargeted = λ c l i. upd_case (λ k x. k < z.sizes.threads → IsBusy x → V.target k ≡ None) V.position by p
                    (λ _ i. target ∙ free i) c (λ _ l i. rule.stands.polling.untargeted c l i) l i;
                due = λ c l. upd_case (λ k x. k < z.sizes.threads → IsDue x (V.target k)) V.position by p
                    (λ _. subst (λ x. IsDue p x) (sym target) is_due) c (λ _ l. rule.stands.polling.due c l) l;
                targets = rule.stands.polling.targets;
              };
              owners = owners_at z V.position by p (s.word Phase) V.own rule.stands.owners (λ _. own);
              stopped = stopped_run z (s.word Phase) (upd V.position by p) (λ c. (V.rest c).collecting.counted)
                  (subst (λ x. is_run (phase_of x).code ≡ true) (sym found) run);
              wanted = rule.stands.wanted;
              working = rule.stands.working;
              framed = rule.stands.framed;
              housed = rule.stands.housed;
              handed = rule.stands.handed;
              classed = rule.stands.classed;
              placed = rule.stands.placed;
              taken_in = taken_in_at z V.position by p V.own V.taken (λ c. (V.rest c).sweep) rule.stands.taken_in no_cell;
            };
            phased = rule.phased;
          }))

    -- it goes on waiting
    still_waiting : IsDue Waiting t → (next : Option Call) →
        Rule z (stepped_by s by (does K1 Phase (LoadsFor next)) f (waits_on z by (s.caller by) Phase (LoadsFor next) f))
    still_waiting due next =
        let me = s.caller by in
        let same = idle_calls Waiting t tt in (
          g,
          poll_rule Waiting me.header me.seen me.refused me.calls me.births tt refl tt tt tt tt (omega (arith, same)) (λ h. absurd h) due
              (omega arith) (rule.told.calls_fit by less) (rule.told.births_fit by less),
        )

    none_read : (x : Option (ℕ × ℕ × FieldKind)) → IsReadFor (shapes g) (g.local by) x None
    none_read None = tt
    none_read (Some t) = tt

    -- it wants no epoch
    module _ (free : t ≡ None) where
      -- no call begins
      none_begun : Rule z (stepped_by s by (does K1 Phase (LoadsFor None)) f (quietly (record (s.caller by) {
        position = Between;
        polled = f.word;
      })))
      none_begun =
          let me = s.caller by in
          let same = idle_calls Between t tt in (
            g,
            poll_rule Between me.header me.seen me.refused me.calls me.births tt refl tt tt tt tt (omega (arith, same)) (λ _. free) tt
                (omega arith) (rule.told.calls_fit by less) (rule.told.births_fit by less),
          )

      -- a call begins, and may be answered at once
      module _ (here : ℕ → Bool) (call : Call) (may : MayBegin z by (s.caller by) here call) where
        abbrev u : View
        u = with_call z by (s.caller by) Phase (LoadsFor (Some call)) f call (Calling call)

        births_ok : (b : Bool) → makes_object call ≡ b → (s.caller by).births + cond b 1 0 ≤ slice_index z.sizes.births by
        births_ok true e = let h = may.birth_left e in omega arith
        births_ok false e = let h = rule.told.births_fit by less in omega arith

        begun_rule : RuleOf z g (put s.word Phase f.word) s.page (views_of (upd s.caller by u)) s.history
        begun_rule =
            let left = may.call_left in
            let none = ap (under_way Out) free in
            poll_rule (Calling call) None u.seen u.refused u.calls u.births (may.built, may.in_range) refl tt tt (none_read (field_of call)) tt
            (omega (arith, none)) (λ _. free) tt (omega arith) (omega arith) (births_ok (makes_object call) refl)

        call_begun : (x : Option Reply) → view_answer z (s.caller by) call ≡ x →
            Rule z (stepped_by s by (does K1 Phase (LoadsFor (Some call))) f (begin_with z by (s.caller by) Phase (LoadsFor (Some call)) f call x))
        call_begun None e = (g, begun_rule)
        call_begun (Some reply) e = (
          with_entered g by (epoch_in u),
          then_answer z s by less g u (put s.word Phase f.word) s.page begun_rule call reply (view_answers call reply may.in_range e) refl no_cell,
        )

      ran : (here : ℕ → Bool) (next : Option Call) → MayNext z by (s.caller by) here next →
          Rule z (stepped_by s by (does K1 Phase (LoadsFor next)) f (poll_run z by (s.caller by) Phase (LoadsFor next) f next))
      ran here None m = none_begun
      ran here (Some call) m = call_begun here call m _ refl

  -- a poll
  module _ (f : Found) (here : ℕ → Bool) (found : s.word Phase ≡ f.word) where
    unmoved : (next : Option Call) → Rule z (stepped_by s by (does K1 Phase (LoadsFor next)) f (quietly (s.caller by)))
    unmoved next = (
      g,
      subst (λ x. RuleOf z g x s.page (views_of (upd s.caller by (s.caller by))) s.history) (sym (put_same s.word Phase f.word (sym found)))
          (subst (λ W. RuleOf z g s.word s.page W s.history)
          (sym (views_kept z s by less g (s.caller by) refl refl refl refl refl refl refl)) rule),
    )

    -- one that finds Mark keeps its epoch
    stays_away : (next : Option Call) → Rule z (stepped_by s by (does K1 Phase (LoadsFor next)) f (stays_out z by (s.caller by) Phase (LoadsFor next) f))
    stays_away next = (
      g,
      subst (λ x. RuleOf z g x s.page (views_of (upd s.caller by (record (s.caller by) { work = joined_by (phase_of f.word) (s.caller by).work }))) s.history)
          (sym (put_same s.word Phase f.word (sym found))) (joined_rule z s by g rule (omega (arith, less)) f.word found),
    )

    -- a mutator that is in, with nothing under way, leaves; its state stays 1
    left : (next : Option Call) (q : Position) → (s.caller by).position ≡ q → IsIdle q → IsIn q → state_number q ≡ 1 →
        Rule z (stepped_by s by (does K1 Phase (LoadsFor next)) f (quietly (record (s.caller by) { position = Leaving })))
    left next q at idle isin state =
        let u : View = record (s.caller by) { position = Leaving } in
        let one : 1 ≡ s.word (StateOf by) = sym (rule.stands.stated.each by (omega arith) ∙ (ap state_number at ∙ state)) in
        let owners = owners_at z V.position by Leaving (s.word Phase) V.own rule.stands.owners (λ _. tt) in
        let going : q ≢ Ended = λ e. let h : 1 ≡ 2 = sym state ∙ ap state_number e in omega (arith, h) in (
          g,
          subst (λ x. RuleOf z g x s.page (views_of (upd s.caller by u)) s.history)
              (put_same s.word (StateOf by) 1 one ∙ sym (put_same s.word Phase f.word (sym found)))
              (idle_moved z s by less g rule q Leaving 1 at idle going tt (λ h. h) refl owners (λ _. in_leaves q isin) tt),
        )

    -- a mutator that waits for an epoch, and finds it done
    told_at_once : (next : Option Call) (q : Position) → (s.caller by).position ≡ q → IsIdle q → state_number q ≡ 1 → (n : ℕ) →
        (s.caller by).target ≡ Some n → n ≤ last_done (phase_of f.word) → (w : ℕ) → IsSince (phase_of w) (phase_of (s.word Phase)) →
        Stopped z (s.word Phase) (upd V.position by Between) (λ c. (V.rest c).collecting.counted) →
        Rule z (stepped_by s by (does K1 Phase (LoadsFor next)) f (epoch_told z by (s.caller by) Phase (LoadsFor next) f w n))
    told_at_once next q at idle state n target done w since stopped = (
      with_entered g by (pauses (phase_of f.word)),
      told_rule z s by less g rule q at idle state n target f found done w since stopped,
    )

    run_stops : is_run (phase_of f.word).code ≡ true →
        Stopped z (s.word Phase) (upd V.position by Between) (λ c. (V.rest c).collecting.counted)
    run_stops run = stopped_run z (s.word Phase) (upd V.position by Between) (λ c. (V.rest c).collecting.counted)
        (subst (λ x. is_run (phase_of x).code ≡ true) (sym found) run)

    run_polled : is_run (phase_of f.word).code ≡ true → IsSince (phase_of f.word) (phase_of (s.word Phase))
    run_polled run = subst (λ x. IsSince (phase_of f.word) (phase_of x)) (sym found) (run_since (phase_of f.word).epoch (phase_of f.word).code run)

    -- a poll of a run phase by one that waits for an epoch
    waited : (next : Option Call) (q : Position) → (s.caller by).position ≡ q → IsIdle q → state_number q ≡ 1 →
        is_run (phase_of f.word).code ≡ true → (n : ℕ) → (s.caller by).target ≡ Some n → (b : Bool) →
        leb n (last_done (phase_of f.word)) ≡ b →
        Rule z (stepped_by s by (does K1 Phase (LoadsFor next)) f (cond b (epoch_told z by (s.caller by) Phase (LoadsFor next) f f.word n)
        (waits_on z by (s.caller by) Phase (LoadsFor next) f)))
    waited next q at idle state run n target true e =
        told_at_once next q at idle state n target (leb-true n (last_done (phase_of f.word)) e) f.word (run_polled run) (run_stops run)
    waited next q at idle state run n target false e = still_waiting q at idle state (Some n) target f found run tt next

    entering_for : (next : Option Call) → (s.caller by).position ≡ Entering → is_run (phase_of f.word).code ≡ true → (t : Option ℕ) →
        (s.caller by).target ≡ t → MayEnterFor z by (s.caller by) here t next →
        Rule z (stepped_by s by (does K1 Phase (LoadsFor next)) f (enters_for z by (s.caller by) Phase (LoadsFor next) f t next))
    entering_for next at run None target m = ran Entering at tt refl None target f found run refl here next m
    entering_for next at run (Some n) target m = waited next Entering at tt refl run n target _ refl

    entering_by : (next : Option Call) → (s.caller by).position ≡ Entering → MayPollAt z by (s.caller by) here Entering next → (b : Bool) →
        is_run (phase_of f.word).code ≡ b →
        Rule z (stepped_by s by (does K1 Phase (LoadsFor next)) f (poll_at z by (s.caller by) Phase (LoadsFor next) f Entering b next))
    entering_by next at m true run = entering_for next at run (s.caller by).target refl m
    entering_by next at m false run = stays_away next

    between_by : (next : Option Call) → (s.caller by).position ≡ Between → MayPollAt z by (s.caller by) here Between next → (b : Bool) →
        is_run (phase_of f.word).code ≡ b →
        Rule z (stepped_by s by (does K1 Phase (LoadsFor next)) f (poll_at z by (s.caller by) Phase (LoadsFor next) f Between b next))
    between_by next at m true run = ran Between at tt refl None m.0 f found run refl here next m.1
    between_by next at m false run = left next Between at tt tt refl

    -- a stop that one finds which waits
    stop_found : (next : Option Call) → (s.caller by).position ≡ Waiting → (n : ℕ) → (s.caller by).target ≡ Some n → (b : Bool) →
        leb n (last_done (phase_of f.word)) ≡ b →
        Rule z (stepped_by s by (does K1 Phase (LoadsFor next)) f (cond b (epoch_told z by (s.caller by) Phase (LoadsFor next) f (s.caller by).polled n)
        (quietly (record (s.caller by) { position = Leaving }))))
    stop_found next at n target true e =
        told_at_once next Waiting at tt refl n target (leb-true n (last_done (phase_of f.word)) e) (s.caller by).polled
        (rule.stands.polling.since by less (subst (λ p. IsIn p) (sym at) tt))
        (stopped_at z V.position by Between (s.word Phase) (λ c. (V.rest c).collecting.counted) rule.stands.stopped
        (λ _ _. subst (λ p. IsInOrLeaving p) (sym at) tt))
    stop_found next at n target false e = left next Waiting at tt tt refl

    waiting_by : (next : Option Call) → (s.caller by).position ≡ Waiting → (b : Bool) → is_run (phase_of f.word).code ≡ b → (t : Option ℕ) →
        (s.caller by).target ≡ t →
        Rule z (stepped_by s by (does K1 Phase (LoadsFor next)) f (waits_at z by (s.caller by) Phase (LoadsFor next) f b t))
    waiting_by next at b run None target = unmoved next
    waiting_by next at true run (Some n) target = waited next Waiting at tt refl run n target _ refl
    waiting_by next at false run (Some n) target = stop_found next at n target _ refl

    pub polled_kept : (next : Option Call) (q : Position) → (s.caller by).position ≡ q → MayPollAt z by (s.caller by) here q next →
        Rule z (stepped_by s by (does K1 Phase (LoadsFor next)) f (poll_at z by (s.caller by) Phase (LoadsFor next) f q
        (is_run (phase_of f.word).code) next))
    polled_kept next Out at m = stays_away next
    polled_kept next Entering at m = entering_by next at m _ refl
    polled_kept next Between at m = between_by next at m _ refl
    polled_kept next Waiting at m = waiting_by next at _ refl (s.caller by).target refl
    polled_kept next _ at m = absurd m

  -- the state is stored
  module _ (f : Found) (here : ℕ → Bool) where
    abbrev Stored : ℕ → Type 0
    Stored n = Rule z (stepped_by s by (does K2 (StateOf by) (Stores n)) f (quietly (record (s.caller by) { position = position_of n })))

    pub state_kept : (n : ℕ) (q : Position) → (s.caller by).position ≡ q → MayGo z by (s.caller by) here q n → Stored n
    state_kept n Out at (inl e) =
        let none = none_out z s by less g rule Out at (λ h. h) in
        subst (λ n. Stored n) (sym e) (
          g,
          idle_moved z s by less g rule Out Entering 1 at tt (λ e. cc) tt (λ h. h) refl
              (owners_gone z s by less g rule Entering none) (λ h. absurd h) tt,
        )
    state_kept n Out at (inr e) =
        let none = none_out z s by less g rule Out at (λ h. h) in
        subst (λ n. Stored n) (sym e.0) (
          g,
          idle_moved z s by less g rule Out Ended 2 at tt (λ e. cc) tt (λ h. h) refl
              (owners_gone z s by less g rule Ended none) (λ h. absurd h) (subst (λ t. IsDue Ended t) (sym e.1.0) tt),
        )
    state_kept n Entering at m =
        subst (λ n. Stored n) (sym m.0) (
          g,
          idle_moved z s by less g rule Entering Out 0 at tt (λ e. cc) tt (λ h. h) refl
              (owners_gone z s by less g rule Out m.1) (λ h. absurd h) tt,
        )
    state_kept n Leaving at m =
        subst (λ n. Stored n) (sym m.0) (
          g,
          idle_moved z s by less g rule Leaving Out 0 at tt (λ e. cc) tt (λ h. h) refl
              (owners_gone z s by less g rule Out m.1) (λ h. absurd h) tt,
        )
    state_kept n Between at m =
        subst (λ n. Stored n) (sym m.0) (
          g,
          idle_moved z s by less g rule Between Ended 2 at tt (λ e. cc) tt (λ h. h) refl
              (owners_gone z s by less g rule Ended m.1.2) (λ h. absurd h) (subst (λ t. IsDue Ended t) (sym m.1.0) tt),
        )
    state_kept n _ at m = absurd m
