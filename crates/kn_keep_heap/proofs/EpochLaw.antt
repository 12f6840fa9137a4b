-- A `gc` is answered whose epoch is done.
use Rattle.std.proofs.Common.{◌≡◌, ℕ, ◌+◌, ◌<◌, ◌≤◌, inl, inr, List, [], ◌∷◌, ◌++◌, length, Option, Some, None, refl}
use Rattle.std.proofs.Common.{sym, subst, ap, ◌∙◌}
use Rattle.std.proofs.Common.{arith, length-append}
use Rattle.std.specs.List.{AllByRecursion}
use Rattle.std.proofs.lemmas.List.Elements.{Contains-append_left, Contains-push}
use Rattle.kn_base.specs.declared.places.Place.TheVariants.{Phase, Want, State as StateOf, Local, Body}
use Rattle.kn_base.specs.Functions.{upd}
use Rattle.kn_base.proofs.Updates.{upd_case2}
use Rattle.kn_graph.specs.declared.calls.Call.TheVariants.{Collect}
use Rattle.kn_graph.specs.declared.calls.Reply.TheVariants as replies
use Rattle.kn_graph.specs.declared.entries.Event.TheVariants as events
use Rattle.kn_graph.specs.declared.entries.Entry.{Entry}
use Rattle.kn_graph.specs.Ground.{Ground}
use Rattle.kn_graph.specs.Graph.{Graph, shapes, empty_graph, with_entered}
use Rattle.kn_graph.specs.Counts.{births_among}
use Rattle.kn_graph.specs.Histories.{Follows}
use Rattle.kn_graph.specs.Logs.{calls_of}
use Rattle.kn_graph.proofs.Entered.{entered_below}
use Rattle.kn_graph.proofs.LegalGraphs.{empty_sound}
use Rattle.kn_graph.proofs.Splits.{appended, calls_of-append, births_of-append}
use Rattle.kn_rule.specs.declared.positions.Position.{Position}
use Rattle.kn_rule.specs.declared.positions.Position.TheVariants.{Between}
use Rattle.kn_rule.specs.Decoding.{phase_of}
use Rattle.kn_rule.specs.Phases.{pauses, last_done}
use Rattle.kn_rule.specs.Places.{put}
use Rattle.kn_rule.specs.Views.{View, Views, State, views_of}
use Rattle.kn_rule.specs.Steps.{Found, entry_of}
use Rattle.kn_rule.specs.HistoryClauses.{under_way, births_under_way, Told}
use Rattle.kn_rule.specs.ObjectClauses.{IsReadAt, IsWriting}
use Rattle.kn_rule.specs.CallerClauses.{state_number, IsIn, IsBusy, IsSince, IsTarget, Polled, Stopped, IsTargetOf, targets_had, IsDue}
use Rattle.kn_rule.specs.Rule.{RuleOf}
use Rattle.kn_keep_heap.specs.Answered.{IsIdle}
use Rattle.kn_keep_heap.proofs.Changed.{upd_case3, some_is}
use Rattle.kn_keep_heap.proofs.Parts.{local_same, own_same, taken_same, position_put, polled_put, target_put, header_put, log_put, calls_same}
use Rattle.kn_keep_heap.proofs.Parts.{births_same, rest_same, width_same}
use Rattle.kn_keep_heap.proofs.Loads.{put_same}
use Rattle.kn_keep_heap.proofs.Locals.{locals_moved}
use Rattle.kn_keep_heap.proofs.Positions.{formed_at, at_end_at, stated_at, owners_at, cleared_at, apart_at, taken_in_at, log_said}
use Rattle.kn_keep_heap.proofs.Idle.{idle_calls, idle_births, not_writing, not_asking, none_asked}
use Rattle.kn_keep_heap.proofs.Wants.{wanted_more, collects_more}

module _ (z : Ground) (s : State) (by : ℕ) (less : by < z.sizes.threads) (g : Graph) (rule : RuleOf z g s.word s.page
    (views_of s.caller) s.history) where
  abbrev V : Views
  V = views_of s.caller

  module _ (q : Position) (at : (s.caller by).position ≡ q) (idle : IsIdle q) (state : state_number q ≡ 1) (n : ℕ)
      (target : (s.caller by).target ≡ Some n) (f : Found) (found : s.word Phase ≡ f.word) (is_done : n ≤ last_done (phase_of f.word)) (w : ℕ)
      (since : IsSince (phase_of w) (phase_of (s.word Phase)))
      (stopped : Stopped z (s.word Phase) (upd V.position by Between) (λ c. (V.rest c).collecting.counted)) where
    abbrev epoch : ℕ
    epoch = pauses (phase_of f.word)

    abbrev entry : Entry
    entry = entry_of by epoch Collect (replies.Epoch n) 0

    abbrev pub told_view : View
    told_view = record (s.caller by) {
      position = Between;
      polled = w;
      target = None;
      header = None;
      log = (s.caller by).log ++ entry ∷ [];
    }

    is_target : IsTarget g.paused (s.word Want) (Some n) (V.log by)
    is_target = subst (λ t. IsTarget g.paused (s.word Want) t (V.log by)) target (rule.stands.polling.targets by less)

    follows : Follows z entry g (with_entered g by epoch)
    follows = record {
      graph = g;
      event = record {
        by_thread = less;
        epoch_is = sym (rule.stands.timed.now ∙ ap (λ x. pauses (phase_of x)) found);
        in_range = tt;
        answer = record {
          epoch = n;
          awaited = record {
            first = is_target.0;
            done = let e = rule.stands.timed.last ∙ ap (λ x. last_done (phase_of x)) found in omega (arith, e, is_done);
            above = entered_below z s.history empty_graph g (empty_sound z) rule.told.leads by n (omega (arith, is_target.0))
                (subst (λ l. AllByRecursion (λ x. x.epoch < n) l) (sym (rule.told.logs by (omega (arith, less)))) is_target.3);
          };
          is = record { reply_is = refl; nowhere = refl; after = refl };
        };
      };
      after = refl;
    }

    told : Told z (with_entered g by epoch) (s.history ++ entry ∷ []) (upd V.log by (V.log by ++ entry ∷ [])) (upd V.position by Between)
        (upd V.target by None) V.calls V.births
    told = record {
      leads = appended z s.history entry empty_graph g (with_entered g by epoch) rule.told.leads follows;
      logs = λ c l. log_said by Collect (replies.Epoch n) 0 epoch s.history V.log c (rule.told.logs c l);
      calls_are = λ c l. upd_case3 (λ k (x : List Entry) p t. k < z.sizes.threads → length (calls_of x) + under_way p t ≡ V.calls k)
          V.log V.position V.target by (V.log by ++ entry ∷ []) Between None
          (λ l.
          let old : length (calls_of (V.log by)) + under_way q (Some n) ≡ V.calls by =
          subst (λ t. length (calls_of (V.log by)) + under_way q t ≡ V.calls by) target
          (subst (λ x. length (calls_of (V.log by)) + under_way x (V.target by) ≡ V.calls by) at (rule.told.calls_are by l)) in
          let due = idle_calls q (Some n) idle in
          let more : length (calls_of (V.log by ++ entry ∷ [])) ≡ length (calls_of (V.log by)) + 1 =
          ap length (calls_of-append (V.log by) entry) ∙ length-append (calls_of (V.log by)) (Collect ∷ []) in
          omega (arith, old, due, more)) c (λ _ l. rule.told.calls_are c l) l;
      births_are = λ c l. upd_case2 (λ k (x : List Entry) p. k < z.sizes.threads → births_among (calls_of x) + births_under_way p ≡ V.births k)
          V.log V.position by (V.log by ++ entry ∷ []) Between
          (λ l.
          let old : births_among (calls_of (V.log by)) + births_under_way q ≡ V.births by =
          subst (λ x. births_among (calls_of (V.log by)) + births_under_way x ≡ V.births by) at (rule.told.births_are by l) in
          let none = idle_births q idle in
          let more = births_of-append (V.log by) entry in
          omega (arith, old, none, more)) c (λ _ l. rule.told.births_are c l) l;
      calls_fit = rule.told.calls_fit;
      births_fit = rule.told.births_fit;
    }

    polling : Polled z g.paused (s.word Phase) (s.word Want) (upd V.position by Between) (upd V.polled by w) (upd V.target by None)
        (upd V.log by (V.log by ++ entry ∷ []))
    polling = record {
      since = λ c l i. upd_case2 (λ k x v. k < z.sizes.threads → IsIn x → IsSince (phase_of v) (phase_of (s.word Phase)))
          V.position V.polled by Between w (λ _ _. since) c (λ _ l i. rule.stands.polling.since c l i) l i;
      untargeted = λ c l i. upd_case2 (λ k x t. k < z.sizes.threads → IsBusy x → t ≡ None) V.position V.target by Between None
          (λ _ _. refl) c (λ _ l i. rule.stands.polling.untargeted c l i) l i;
      due = λ c l. upd_case2 (λ k x t. k < z.sizes.threads → IsDue x t) V.position V.target by Between None (λ _. tt) c
          (λ _ l. rule.stands.polling.due c l) l;
      targets = λ c l. upd_case2 (λ k t (x : List Entry). k < z.sizes.threads → IsTarget g.paused (s.word Want) t x)
          V.target V.log by None (V.log by ++ entry ∷ []) (λ _. tt) c (λ _ l. rule.stands.polling.targets c l) l;
    }

    target_told : (e : ℕ) (t : Option ℕ) → t ≡ Some n → IsTargetOf e t (V.log by) → IsTargetOf e None (V.log by ++ entry ∷ [])
    target_told e t is (inl h) =
        let same : n ≡ e = some_is n e (sym is ∙ h) in
        inr (entry, Contains-push (V.log by) entry, λ i. events.Call Collect (replies.Epoch (same i)) 0)
    target_told e t is (inr h) = inr (h.0, Contains-append_left (V.log by) (entry ∷ []) h.0 h.1, h.2)

    had : (t : Option ℕ) → t ≡ Some n → targets_had t (V.log by) ≤ targets_had None (V.log by ++ entry ∷ [])
    had t is =
        let more = collects_more (V.log by) entry in
        let old = ap (λ t. targets_had t (V.log by)) is in omega (arith, more, old)

    pub told_rule : RuleOf z (with_entered g by epoch) (put s.word Phase f.word) s.page (views_of (upd s.caller by told_view))
        (s.history ++ entry ∷ [])
    told_rule =
        let u : View = told_view in
        let none = none_asked z s by less g rule q at (not_asking z q idle) in
        subst (λ x. RuleOf z (with_entered g by epoch) x s.page (views_of (upd s.caller by u)) (s.history ++ entry ∷ []))
        (sym (put_same s.word Phase f.word (sym found)))
        (subst (λ W. RuleOf z (with_entered g by epoch) s.word s.page W (s.history ++ entry ∷ [])) (sym (λ t. record {
          position = position_put s.caller by u t;
          polled = polled_put s.caller by u t;
          target = target_put s.caller by u t;
          local = local_same s.caller by u refl t;
          header = header_put s.caller by u t;
          own = own_same s.caller by u refl t;
          taken = taken_same s.caller by u refl t;
          log = log_put s.caller by u t;
          calls = calls_same s.caller by u refl t;
          births = births_same s.caller by u refl t;
          rest = rest_same s.caller by u refl t;
          width = width_same s.caller by u refl refl t;
        }))
        (record {
          told = told;
          formed = formed_at z V.position by Between V.width rule.formed tt;
          read_right = record {
            each = λ c l. upd_case2 (λ k x h. k < z.sizes.threads → IsReadAt (shapes g) (g.local k) x h) V.position V.header by Between None
                (λ _. tt) c (λ _ l. rule.read_right.each c l) l;
          };
          localed = locals_moved z (shapes g) g.local (λ c i. s.word (Local c i)) V.position V.local rule.localed by Between
              (λ i _ h. not_writing q idle i (subst (λ x. IsWriting x i) at h)) tt;
          stands = record {
            timed = rule.stands.timed;
            headed = rule.stands.headed;
            fielded = rule.stands.fielded;
            cleared = cleared_at z V.position by Between (λ b. s.word (Body b)) V.local V.local V.taken (λ c ne. refl) rule.stands.cleared tt;
            globaled = rule.stands.globaled;
            named = rule.stands.named;
            apart = apart_at z V.position by Between g.born (shapes g) V.taken rule.stands.apart none;
            stated = stated_at z V.position by Between (λ c. s.word (StateOf c)) rule.stands.stated less (sym state ∙ ap state_number (sym at));
            at_end = at_end_at z V.position by Between (λ c. (V.rest c).collecting.ended) rule.stands.at_end less
                (λ e. let h : 1 ≡ 2 = sym state ∙ (ap state_number (sym at) ∙ ap state_number e) in absurd (omega arith));
            polling = polling;
            owners = owners_at z V.position by Between (s.word Phase) V.own rule.stands.owners (λ _. tt);
            stopped = stopped;
            wanted = wanted_more z (s.word Phase) (s.word Want) (V.rest z.sizes.threads).collecting.wanted V.target (upd V.target by None)
                V.log (upd V.log by (V.log by ++ entry ∷ [])) rule.stands.wanted
                (λ c e l. upd_case2 (λ k t x. IsTargetOf e (V.target k) (V.log k) → IsTargetOf e t x) V.target V.log by None
                (V.log by ++ entry ∷ []) (target_told e (V.target by) target) c (λ _ h. h))
                (λ c l. upd_case2 (λ k t x. targets_had (V.target k) (V.log k) ≤ targets_had t x) V.target V.log by None
                (V.log by ++ entry ∷ []) (had (V.target by) target) c (λ _. omega arith));
            working = rule.stands.working;
            framed = rule.stands.framed;
            housed = rule.stands.housed;
            handed = rule.stands.handed;
            classed = rule.stands.classed;
            placed = rule.stands.placed;
            taken_in = taken_in_at z V.position by Between V.own V.taken (λ c. (V.rest c).sweep) rule.stands.taken_in none;
          };
          phased = rule.phased;
        }))
