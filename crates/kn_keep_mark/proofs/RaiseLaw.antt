-- A mutator wants the next epoch.
use Rattle.std.proofs.Common.{◌≡◌, ℕ, ◌+◌, ◌<◌, ◌≤◌, inl, inr, Bool, true, false, cond, leb, List, [], ◌∷◌, length}
use Rattle.std.proofs.Common.{Option, Some, None}
use Rattle.std.proofs.Common.{refl, sym, subst, ap, ◌∙◌, ◌⊎◌, arith, leb-true, leb-false}
use Rattle.std.specs.List.{AllByRecursion}
use Rattle.kn_base.specs.declared.kinds.Code.{Code}
use Rattle.kn_base.specs.declared.kinds.Code.TheVariants as codes
use Rattle.kn_base.specs.declared.places.Place.TheVariants.{Phase, Want, State as StateOf, Local, Body}
use Rattle.kn_base.specs.Functions.{upd}
use Rattle.kn_base.proofs.Updates.{upd_here, upd_case, upd_case2}
use Rattle.kn_graph.specs.declared.calls.Call.TheVariants.{Collect}
use Rattle.kn_graph.specs.declared.entries.Entry.{Entry}
use Rattle.kn_graph.specs.Ground.{Ground}
use Rattle.kn_graph.specs.Graph.{Graph, shapes, empty_graph}
use Rattle.kn_graph.specs.Counts.{births_among}
use Rattle.kn_graph.specs.Logs.{calls_of}
use Rattle.kn_graph.proofs.Entered.{epochs_all_past}
use Rattle.kn_graph.proofs.LegalGraphs.{empty_sound}
use Rattle.kn_rule.specs.declared.steps.Kind.TheVariants.{K13}
use Rattle.kn_rule.specs.declared.steps.Action.TheVariants.{Raises}
use Rattle.kn_rule.specs.declared.positions.Position.TheVariants.{Calling, Waiting, Ended}
use Rattle.kn_rule.specs.declared.parts.Taken.{Taken}
use Rattle.kn_rule.specs.Decoding.{phase_of}
use Rattle.kn_rule.specs.Phases.{pauses}
use Rattle.kn_rule.specs.Places.{put}
use Rattle.kn_rule.specs.Views.{View, Views, State, views_of}
use Rattle.kn_rule.specs.Steps.{Found, does, quietly, epoch_in, word_after}
use Rattle.kn_rule.specs.Moves.{stepped_by}
use Rattle.kn_rule.specs.HistoryClauses.{under_way, births_under_way, Told}
use Rattle.kn_rule.specs.ObjectClauses.{IsReadAt, IsWriting, IsAskedBy}
use Rattle.kn_rule.specs.CallerClauses.{state_number, IsIn, IsBusy, IsInOrLeaving, IsSince, IsTarget}
use Rattle.kn_rule.specs.CallerClauses.{Polled, IsTargetOf, IsWantedBySome, targets_had, Wanted, IsDue}
use Rattle.kn_marking.specs.Totals.{total}
use Rattle.kn_rule.specs.Rule.{Rule, RuleOf}
use Rattle.kn_keep_heap.proofs.Parts.{local_same, own_same, taken_same, position_put, polled_same, target_put, header_same, log_same, calls_same}
use Rattle.kn_keep_heap.proofs.Parts.{births_same, rest_same, width_same}
use Rattle.kn_keep_heap.proofs.Locals.{locals_moved}
use Rattle.kn_keep_heap.proofs.Positions.{formed_at, at_end_at, stated_at, owners_at, cleared_at, apart_at, taken_in_at}
use Rattle.kn_keep_heap.proofs.Answers.{epoch_call}
use Rattle.kn_keep_heap.proofs.Idle.{none_asked}
use Rattle.kn_keep_heap.proofs.Wants.{stopped_at, total_more}

-- a number that was raised
raised : (n d : ℕ) → (n ≤ cond (leb n d) d n) × (d ≤ cond (leb n d) d n) × ((cond (leb n d) d n ≡ n) ⊎ (cond (leb n d) d n ≡ d))
raised n d = at (leb n d) refl
  where
    at : (b : Bool) → leb n d ≡ b → (n ≤ cond b d n) × (d ≤ cond b d n) × ((cond b d n ≡ n) ⊎ (cond b d n ≡ d))
    at true e = let l = leb-true n d e in (l, omega arith, inr refl)
    at false e = let l = leb-false n d e in (omega arith, omega (arith, l), inl refl)

-- the pauses before a phase are no more than its epoch, and it is at most one ahead
pauses_at : (e : ℕ) (c : Code) → pauses (record { epoch = e; code = c }) ≤ e
pauses_at e codes.StopA = omega arith
pauses_at e codes.Mark = omega arith
pauses_at e _ = omega arith

all_next : (log : List Entry) (n : ℕ) → AllByRecursion (λ entry. entry.epoch ≤ n) log → AllByRecursion (λ entry. entry.epoch < n + 1) log
all_next [] n all = tt
all_next (entry ∷ log) n all = let l = all.0 in (omega (arith, l), all_next log n all.1)

target_below : (paused want want' : ℕ) (t : Option ℕ) (log : List Entry) → want ≤ want' → IsTarget paused want t log → IsTarget paused want' t log
target_below paused want want' None log l r = tt
target_below paused want want' (Some n) log l r = let m = r.2 in (r.0, r.1, omega (arith, l, m), r.3)

module _ (z : Ground) (s : State) (by : ℕ) (less : by < z.sizes.threads) (g : Graph) (rule : RuleOf z g s.word s.page
    (views_of s.caller) s.history) (is : (s.caller by).position ≡ Calling Collect) (f : Found) (found : s.word Want ≡ f.word) where
  abbrev V : Views
  V = views_of s.caller

  abbrev wish : ℕ
  wish = epoch_in (s.caller by) + 1

  abbrev want' : ℕ
  want' = word_after (Raises wish) f.word

  abbrev waiting_view : View
  waiting_view = record (s.caller by) { position = Waiting; target = Some wish }

  not_asked : (t : Taken) → ¬ IsAskedBy z (Calling Collect) t
  not_asked t h = let e : Option.None ≡ Some t.span.len = h in cc

  no_target : V.target by ≡ None
  no_target = rule.stands.polling.untargeted by less (subst (λ p. IsBusy p) (sym is) tt)

  now : epoch_in (s.caller by) ≡ g.paused
  now = epoch_call z g s.word s.page V s.history rule by less Collect is

  grows : s.word Want ≤ want'
  grows = let r = raised f.word wish in let l = r.0 in omega (arith, found, l)

  wish_near : wish ≤ want'
  wish_near = let r = raised f.word wish in r.1

  told : Told z g s.history V.log (upd V.position by Waiting) (upd V.target by (Some wish)) V.calls V.births
  told = record {
    leads = rule.told.leads;
    logs = rule.told.logs;
    calls_are = λ c l. upd_case2 (λ k p t. k < z.sizes.threads → length (calls_of (V.log k)) + under_way p t ≡ V.calls k)
        V.position V.target by Waiting (Some wish)
        (λ l.
        let old : length (calls_of (V.log by)) + under_way (Calling Collect) (V.target by) ≡ V.calls by =
        subst (λ p. length (calls_of (V.log by)) + under_way p (V.target by) ≡ V.calls by) is (rule.told.calls_are by l) in
        omega (arith, old)) c (λ _ l. rule.told.calls_are c l) l;
    births_are = λ c l. upd_case (λ k p. k < z.sizes.threads → births_among (calls_of (V.log k)) + births_under_way p ≡ V.births k)
        V.position by Waiting
        (λ l.
        let old : births_among (calls_of (V.log by)) + births_under_way (Calling Collect) ≡ V.births by =
        subst (λ p. births_among (calls_of (V.log by)) + births_under_way p ≡ V.births by) is (rule.told.births_are by l) in
        omega (arith, old)) c (λ _ l. rule.told.births_are c l) l;
    calls_fit = rule.told.calls_fit;
    births_fit = rule.told.births_fit;
  }

  polling : Polled z g.paused (s.word Phase) want' (upd V.position by Waiting) V.polled (upd V.target by (Some wish)) V.log
  polling = record {
    since = λ c l i. upd_case (λ k p. k < z.sizes.threads → IsIn p → IsSince (phase_of (V.polled k)) (phase_of (s.word Phase)))
        V.position by Waiting (λ l _. rule.stands.polling.since by l (subst (λ p. IsIn p) (sym is) tt)) c
        (λ _ l i. rule.stands.polling.since c l i) l i;
    untargeted = λ c l i. upd_case2 (λ k p t. k < z.sizes.threads → IsBusy p → t ≡ None) V.position V.target by Waiting (Some wish)
        (λ _ h. absurd h) c (λ _ l i. rule.stands.polling.untargeted c l i) l i;
    due = λ c l. upd_case2 (λ k p t. k < z.sizes.threads → IsDue p t) V.position V.target by Waiting (Some wish) (λ _. tt) c
        (λ _ l. rule.stands.polling.due c l) l;
    targets = λ c l. upd_case (λ k t. k < z.sizes.threads → IsTarget g.paused want' t (V.log k)) V.target by (Some wish)
        (λ l. (
          omega arith,
          omega (arith, now),
          wish_near,
          subst (λ n. AllByRecursion (λ entry. entry.epoch < n + 1) (V.log by)) (sym now)
              (all_next (V.log by) g.paused (subst (λ x. AllByRecursion (λ entry. entry.epoch ≤ g.paused) x) (rule.told.logs by (omega (arith, less)))
              ((epochs_all_past z s.history empty_graph g (empty_sound z) rule.told.leads).1 by))),
        )) c (λ _ l. target_below g.paused (s.word Want) want' (V.target c) (V.log c) grows (rule.stands.polling.targets c l)) l;
  }

  paused_near : g.paused ≤ s.word Want
  paused_near =
      let a = rule.stands.timed.now in
      let b = pauses_at (phase_of (s.word Phase)).epoch (phase_of (s.word Phase)).code in
      let c = rule.stands.wanted.reached in omega (arith, a, b, c)

  target_kept : (c e : ℕ) → IsTargetOf e (V.target c) (V.log c) → IsTargetOf e (upd V.target by (Some wish) c) (V.log c)
  target_kept c e h = upd_case (λ k t. IsTargetOf e (V.target k) (V.log k) → IsTargetOf e t (V.log k)) V.target by (Some wish) mine c (λ _ h. h) h
    where
      mine : IsTargetOf e (V.target by) (V.log by) → IsTargetOf e (Some wish) (V.log by)
      mine (inl h) = let x : Option.None ≡ Some e = sym no_target ∙ h in absurd (cc)
      mine (inr h) = inr h

  had : (c : ℕ) → targets_had (V.target c) (V.log c) ≤ targets_had (upd V.target by (Some wish) c) (V.log c)
  had c = upd_case (λ k t. targets_had (V.target k) (V.log k) ≤ targets_had t (V.log k)) V.target by (Some wish)
      (let none = ap (λ t. targets_had t (V.log by)) no_target in omega (arith, none)) c (λ _. omega arith)

  had_one : targets_had (V.target by) (V.log by) + 1 ≤ targets_had (upd V.target by (Some wish) by) (V.log by)
  had_one =
      let none = ap (λ t. targets_had t (V.log by)) no_target in
      let here = ap (λ t. targets_had t (V.log by)) (upd_here V.target by (Some wish)) in omega (arith, none, here)

  wanted : Wanted z (s.word Phase) want' (upd V.target by (Some wish)) V.log (V.rest z.sizes.threads).collecting.wanted
  wanted =
      let old = rule.stands.wanted in record {
        reached = let a = old.reached in omega (arith, a, grows);
        known = let a = old.known in omega (arith, a, grows);
        targets = λ e a b. each e a b (leb e (s.word Want)) refl;
        few = few (raised f.word wish).2;
      }
    where
      each : (e : ℕ) → 1 ≤ e → e ≤ want' → (b : Bool) → leb e (s.word Want) ≡ b → IsWantedBySome z (upd V.target by (Some wish)) V.log e
      each e a b true h = let t = rule.stands.wanted.targets e a (leb-true e (s.word Want) h) in (t.0, t.1, target_kept t.0 e t.2)
      each e a b false h =
          (by, less, inl (upd_here V.target by (Some wish) ∙ ap Some (same (raised f.word wish).2 (leb-false e (s.word Want) h))))
        where
          same : (want' ≡ f.word) ⊎ (want' ≡ wish) → s.word Want < e → wish ≡ e
          same (inl x) l = absurd (omega (arith, x, found, l, b))
          same (inr x) l = omega (arith, x, now, paused_near, l, b)

      few : (want' ≡ f.word) ⊎ (want' ≡ wish) → want' ≤ total z.sizes.threads (λ c. targets_had (upd V.target by (Some wish) c) (V.log c))
      few x =
          let more = total_more z.sizes.threads (λ c. targets_had (V.target c) (V.log c))
          (λ c. targets_had (upd V.target by (Some wish) c) (V.log c)) by less had_one (λ c _. had c) in
          let old = rule.stands.wanted.few in at x more old
        where
          at : (want' ≡ f.word) ⊎ (want' ≡ wish) →
              total z.sizes.threads (λ c. targets_had (V.target c) (V.log c)) + 1
              ≤ total z.sizes.threads (λ c. targets_had (upd V.target by (Some wish) c) (V.log c)) →
              s.word Want ≤ total z.sizes.threads (λ c. targets_had (V.target c) (V.log c)) →
              want' ≤ total z.sizes.threads (λ c. targets_had (upd V.target by (Some wish) c) (V.log c))
          at (inl x) more old = omega (arith, x, found, more, old)
          at (inr x) more old = omega (arith, x, now, paused_near, more, old)

  pub raise_rule : Rule z (stepped_by s by (does K13 Want (Raises wish)) f (quietly waiting_view))
  raise_rule =
      let u : View = waiting_view in
      let busy : IsIn (V.position by) = subst (λ p. IsIn p) (sym is) tt in
      let none = none_asked z s by less g rule (Calling Collect) is not_asked in (
        g,
        subst (λ W. RuleOf z g (put s.word Want want') s.page W s.history) (sym (λ t. record {
          position = position_put s.caller by u t;
          polled = polled_same s.caller by u refl t;
          target = target_put s.caller by u t;
          local = local_same s.caller by u refl t;
          header = header_same s.caller by u refl t;
          own = own_same s.caller by u refl t;
          taken = taken_same s.caller by u refl t;
          log = log_same s.caller by u refl t;
          calls = calls_same s.caller by u refl t;
          births = births_same s.caller by u refl t;
          rest = rest_same s.caller by u refl t;
          width = width_same s.caller by u refl refl t;
        }))
            (record {
              told = told;
              formed = formed_at z V.position by Waiting V.width rule.formed tt;
              read_right = record {
                each = λ c l. upd_case (λ k p. k < z.sizes.threads → IsReadAt (shapes g) (g.local k) p (V.header k)) V.position by Waiting
                    (λ _. tt) c (λ _ l. rule.read_right.each c l) l;
              };
              localed = locals_moved z (shapes g) g.local (λ c i. s.word (Local c i)) V.position V.local rule.localed by Waiting
                  (λ i _ h. subst (λ p. IsWriting p i) is h) tt;
              stands = record {
                timed = rule.stands.timed;
                headed = rule.stands.headed;
                fielded = rule.stands.fielded;
                cleared = cleared_at z V.position by Waiting (λ b. s.word (Body b)) V.local V.local V.taken (λ c ne. refl) rule.stands.cleared tt;
                globaled = rule.stands.globaled;
                named = rule.stands.named;
                apart = apart_at z V.position by Waiting g.born (shapes g) V.taken rule.stands.apart none;
                stated = stated_at z V.position by Waiting (λ c. s.word (StateOf c)) rule.stands.stated less (sym (ap state_number is));
                at_end = at_end_at z V.position by Waiting (λ c. (V.rest c).collecting.ended) rule.stands.at_end less
                    (λ e. let h : Calling Collect ≡ Ended = sym is ∙ e in absurd (cc));
                polling = polling;
                owners = owners_at z V.position by Waiting (s.word Phase) V.own rule.stands.owners (λ _. tt);
                stopped = stopped_at z V.position by Waiting (s.word Phase) (λ c. (V.rest c).collecting.counted) rule.stands.stopped
                    (λ _ _. subst (λ p. IsInOrLeaving p) (sym is) tt);
                wanted = wanted;
                working = rule.stands.working;
                framed = rule.stands.framed;
                housed = rule.stands.housed;
                handed = rule.stands.handed;
                classed = rule.stands.classed;
                placed = rule.stands.placed;
                taken_in = taken_in_at z V.position by Waiting V.own V.taken (λ c. (V.rest c).sweep) rule.stands.taken_in none;
              };
              phased = record {
                in_mark = λ e. let m = rule.phased.in_mark e in record { marking = m.marking; headers = m.headers };
                at_rest = rule.phased.at_rest;
              };
            }),
      )
