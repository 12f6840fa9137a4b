-- An actor that has ended stays so, and one is flagged only once it has ended.
use Rattle.std.proofs.Common.{◌≡◌, ◌∙◌, ℕ, zero, suc, ◌+◌, ◌<◌, Bool, true, false, List, [], ◌∷◌, length, get_or, length-set}
use Rattle.std.proofs.Common.{inl, inr, refl, sym, ap, subst, arith, slice_set}
use Rattle.std.proofs.lemmas.List.{get_or-replicate, get_or-set_other, get_or-set_same, length-replicate}
use Rattle.std.proofs.lemmas.Bool.Decides.{eqb_tells}
use Rattle.kn_base.specs.Functions.{upd, Tells}
use Rattle.kn_base.proofs.Updates.{upd_else}
use Rattle.kn_graph.specs.declared.calls.Call.{Call}
use Rattle.kn_graph.specs.declared.calls.Call.TheVariants.{Set}
use Rattle.kn_graph.specs.Ground.{Ground}
use Rattle.kn_lines.specs.declared.orders.Actor.{Actor}
use Rattle.kn_lines.specs.declared.orders.Actor.TheVariants.{Thread, Collector, Finalizer, Round}
use Rattle.kn_script.specs.Scripts.{Scripted, ground_of}
use Rattle.kn_cms_rule.specs.declared.stages.CmsTurn.{CmsTurn}
use Rattle.kn_cms_rule.specs.declared.stages.CmsTurn.TheVariants.{Done, Idle, Moved}
use Rattle.kn_cms_rule.specs.declared.stages.Stage.{Stage}
use Rattle.kn_cms_rule.specs.declared.stages.Stage.TheVariants.{Waiting, Marking, Looking, Finished}
use Rattle.kn_cms_rule.specs.Words.{one_framed}
use Rattle.kn_cms_rule.specs.State.{State}
use Rattle.kn_cms_rule.specs.Steps.{ThreadStep, CollectorStep, bears, fills, answers, refuses, loads, shades, stores, snapshots, begins, looks, blackens, ends}
use Rattle.kn_cms_rule.specs.Turns.{TurnOf, ThreadTurn, CollectorTurn, HasEnded, ended, stepped, waits, rests, moves}
use Rattle.kn_cms_rule.proofs.Turned.{done_exactly}
use Rattle.kn_cms_trace.specs.CoreRuns.{CoreRun, CoreTurns, IsCoreTurn, actor_at, core_start, is_done}

answered_left : (left : ℕ → List Call) (i j : ℕ) (call : Call) (rest : List Call) → left i ≡ call ∷ rest → left j ≡ [] → upd left i rest j ≡ []
answered_left left i j call rest is none = upd_else left i rest j other ∙ none
  where
    other : i ≡ j → ⊥
    other e = let no : [] ≡ call ∷ rest = sym none ∙ (ap left (sym e) ∙ is) in absurd (cc)

thread_left : (z : Ground) (s : State) (i : ℕ) (s' : State) (j : ℕ) → ThreadStep z s i s' → s.left j ≡ [] → s'.left j ≡ []
thread_left z s i s' j (bears k) none = ap (λ (x : State). x.left j) k.after ∙ answered_left s.left i j k.call k.rest k.next.is_left none
thread_left z s i s' j (fills k) none = ap (λ (x : State). x.left j) k.after ∙ answered_left s.left i j k.call k.rest k.next.is_left none
thread_left z s i s' j (answers k) none = ap (λ (x : State). x.left j) k.after ∙ answered_left s.left i j k.call k.rest k.next.is_left none
thread_left z s i s' j (refuses k) none =
    ap (λ (x : State). x.left j) k.after ∙ answered_left s.left i j (Set k.local k.field k.value) k.rest k.next.is_left none
thread_left z s i s' j (loads k) none = ap (λ (x : State). x.left j) k.after ∙ none
thread_left z s i s' j (shades k) none = ap (λ (x : State). x.left j) k.after ∙ none
thread_left z s i s' j (stores k) none =
    ap (λ (x : State). x.left j) k.after ∙ answered_left s.left i j (Set k.aims.local k.field k.aims.value) k.aims.rest k.aims.is_left none

thread_stage : (z : Ground) (s : State) (i : ℕ) (s' : State) → ThreadStep z s i s' → s'.stage ≡ s.stage
thread_stage z s i s' (bears k) = ap (λ (x : State). x.stage) k.after
thread_stage z s i s' (fills k) = ap (λ (x : State). x.stage) k.after
thread_stage z s i s' (answers k) = ap (λ (x : State). x.stage) k.after
thread_stage z s i s' (refuses k) = ap (λ (x : State). x.stage) k.after
thread_stage z s i s' (loads k) = ap (λ (x : State). x.stage) k.after
thread_stage z s i s' (shades k) = ap (λ (x : State). x.stage) k.after
thread_stage z s i s' (stores k) = ap (λ (x : State). x.stage) k.after

collector_left : (z : Ground) (s s' : State) (j : ℕ) → CollectorStep z s s' → s'.left j ≡ s.left j
collector_left z s s' j (snapshots k) = ap (λ (x : State). x.left j) k.after
collector_left z s s' j (begins k) = ap (λ (x : State). x.left j) k.after
collector_left z s s' j (looks k) = ap (λ (x : State). x.left j) k.after
collector_left z s s' j (blackens k) = ap (λ (x : State). x.left j) k.after
collector_left z s s' j (ends k) = ap (λ (x : State). x.left j) k.after

no_other_stage : (s : State) (a : Stage) → s.stage ≡ Finished → s.stage ≡ a → Finished ≡ a
no_other_stage s a e f = sym e ∙ f

never_goes_on : (z : Ground) (s s' : State) → s.stage ≡ Finished → CollectorStep z s s' → ⊥
never_goes_on z s s' e (snapshots k) = let f = no_other_stage s Waiting e k.waits in absurd (cc)
never_goes_on z s s' e (begins k) = let f = no_other_stage s Marking e k.marks in absurd (cc)
never_goes_on z s s' e (looks k) = let f = no_other_stage s (Looking k.object k.from) e k.begun in absurd (cc)
never_goes_on z s s' e (blackens k) = let f = no_other_stage s (Looking k.object k.from) e k.begun in absurd (cc)
never_goes_on z s s' e (ends k) = let f = no_other_stage s Marking e k.marks in absurd (cc)

after_thread : (z : Ground) (s s' : State) (i : ℕ) (turn : CmsTurn) (a : Actor) → ThreadTurn z s i turn s' → HasEnded s a → HasEnded s' a
after_thread z s s' i turn a (ended e) h = h
after_thread z s s' i turn (Thread j) (stepped k) h = thread_left z s i s' j k h
after_thread z s s' i turn Collector (stepped k) h = thread_stage z s i s' k ∙ h
after_thread z s s' i turn Finalizer (stepped k) h = h
after_thread z s s' i turn Round (stepped k) h = h

after_collector : (z : Ground) (s s' : State) (turn : CmsTurn) (a : Actor) → CollectorTurn z s turn s' → HasEnded s a → HasEnded s' a
after_collector z s s' turn a (waits e first) h = h
after_collector z s s' turn a (rests e) h = h
after_collector z s s' turn (Thread j) (moves k) h = collector_left z s s' j k ∙ h
after_collector z s s' turn Collector (moves k) h = absurd (never_goes_on z s s' h k)
after_collector z s s' turn Finalizer (moves k) h = h
after_collector z s s' turn Round (moves k) h = h

ended_stays : (z : Ground) (s s' : State) (who : Actor) (turn : CmsTurn) (a : Actor) → TurnOf z s who turn s' → HasEnded s a → HasEnded s' a
ended_stays z s s' (Thread i) turn a t h = after_thread z s s' i turn a t h
ended_stays z s s' Collector turn a t h = after_collector z s s' turn a t h
ended_stays z s s' Finalizer turn a t h = absurd t
ended_stays z s s' Round turn a t h = absurd t

done_is : (turn : CmsTurn) → is_done turn ≡ true → turn ≡ Done
done_is Done e = refl
done_is Moved e = absurd (cc)
done_is (Idle i) e = absurd (cc)

module _ (z : Ground) (r r' : CoreRun) (t : IsCoreTurn z r r') (i : ℕ) (near : i < length r.ended)
    (before : get_or r.ended i false ≡ true → HasEnded r.state (actor_at z.sizes.threads i)) (flag : get_or r'.ended i false ≡ true) where
  flag_is : get_or (slice_set r.ended t.actor (is_done t.turn)) i false ≡ true
  flag_is = ap (λ (x : List Bool). get_or x i false) (sym t.ended) ∙ flag

  turned_so : Tells t.actor i → HasEnded r'.state (actor_at z.sizes.threads i)
  turned_so (inl e) =
      let there : t.actor < length r.ended = omega (arith, near, e.1) in
      let done = done_is t.turn (sym (get_or-set_same r.ended t.actor (is_done t.turn) false there)
      ∙ (ap (λ (j : ℕ). get_or (slice_set r.ended t.actor (is_done t.turn)) j false) e.1 ∙ flag_is)) in
      subst (λ (j : ℕ). HasEnded r'.state (actor_at z.sizes.threads j)) e.1
      ((done_exactly (one_framed z) r.state r'.state (actor_at z.sizes.threads t.actor) t.turn t.turned).0 done)
  turned_so (inr e) =
      let was = sym (get_or-set_other r.ended t.actor i (is_done t.turn) false (λ q. e.1 (sym q))) ∙ flag_is in
      ended_stays (one_framed z) r.state r'.state (actor_at z.sizes.threads t.actor) t.turn (actor_at z.sizes.threads i) t.turned (before was)

  pub one_more_ended : HasEnded r'.state (actor_at z.sizes.threads i)
  one_more_ended = turned_so (eqb_tells t.actor i)

-- between any two turns of a run there is a flag for each actor
pub flags_long : (script : Scripted) (n : ℕ) (r : CoreRun) → CoreTurns (ground_of script) n (core_start script) r →
    length r.ended ≡ script.sizes.threads + 1
flags_long script zero r e = ap (λ (x : CoreRun). length x.ended) e ∙ length-replicate (script.sizes.threads + 1) false
flags_long script (suc n) r (mid, runs, t) = ap (λ (x : List Bool). length x) t.ended
    ∙ (length-set mid.ended t.actor (is_done t.turn) ∙ flags_long script n mid runs)

-- and an actor that is flagged has ended
pub flagged_ended : (script : Scripted) (n : ℕ) (r : CoreRun) → CoreTurns (ground_of script) n (core_start script) r →
    (i : ℕ) → i < script.sizes.threads + 1 → get_or r.ended i false ≡ true → HasEnded r.state (actor_at script.sizes.threads i)
flagged_ended script zero r e i near flag =
    let no : false ≡ true = sym (get_or-replicate (script.sizes.threads + 1) i false false near)
    ∙ (ap (λ (x : CoreRun). get_or x.ended i false) (sym e) ∙ flag) in
    absurd (cc)
flagged_ended script (suc n) r (mid, runs, t) i near flag =
    one_more_ended (ground_of script) mid r t i (omega (arith, near, flags_long script n mid runs)) (flagged_ended script n mid runs i near) flag
