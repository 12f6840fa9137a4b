-- What one turn, and a number of turns, make of a run.
use Rattle.std.proofs.Common.{◌≡◌, ◌∙◌, ℕ, ◌+◌, ◌<◌, ◌⊎◌, Bool, true, false, cond, List, [], ◌++◌, arith, refl}
use Rattle.std.proofs.Common.{sym, ap, subst, inl, inr, slice_set, MatchBool, add-one}
use Rattle.std.proofs.lemmas.Bool.{le-ltb, lt-ltb}
use Rattle.std.proofs.lemmas.List.{append-nil}
use Rattle.kn_graph.specs.declared.calls.Call.{Call}
use Rattle.kn_graph.specs.Ground.{Ground}
use Rattle.kn_graph.specs.Logs.{calls_of, log_of}
use Rattle.kn_lines.specs.declared.orders.Actor.{Actor}
use Rattle.kn_lines.specs.declared.orders.Actor.TheVariants.{Collector, Thread}
use Rattle.kn_script.specs.Scripts.{Scripted, ground_of}
use Rattle.kn_cms_rule.specs.declared.stages.CmsTurn.{CmsTurn}
use Rattle.kn_cms_rule.specs.declared.stages.Stage.TheVariants.{Finished}
use Rattle.kn_cms_rule.specs.Words.{one_framed}
use Rattle.kn_cms_rule.specs.State.{State}
use Rattle.kn_cms_rule.specs.Calls.{IsCoreHistory}
use Rattle.kn_cms_rule.specs.Turns.{HasEnded, TurnOf}
use Rattle.kn_cms.specs.Moves.{TurnMoves}
use Rattle.kn_cms.specs.Stands.{StandsFor}
use Rattle.kn_cms_lists.specs.Kept.{Kept, calls_of_threads}
use Rattle.kn_schedule.specs.Schedules.{IsNext, Left}
use Rattle.kn_cms_trace.specs.CoreRuns.{CoreRun, CoreGoesOn, CoreHasEnded, CoreTurns, IsCoreOver, IsCoreRecord, IsCoreTurn, IsWholeRecord}
use Rattle.kn_cms_trace.specs.CoreRuns.{actor_at, answered_by, core_start, is_done, standing_in}
use Rattle.kn_cms_trace.proofs.Ended.{flagged_ended}
use Rattle.kn_cms_trace.specs.Runners.{IsOfScript, KeepsScript, RanCore, Runner, RunnerTurns, TakesTurns}

-- the turn of the actor whose turn it is
pub one_turn : (k : Runner) (core : Kept) (left : Left) (actor ended_at answered_at : ℕ) (who : Actor) (turn : CmsTurn) (flag : Bool) (count : ℕ) →
    ended_at ≡ actor → answered_at ≡ actor → who ≡ actor_at k.core.ground.sizes.threads actor → flag ≡ is_done turn →
    TurnMoves k.core who turn core → ((s : State) → StandsFor core s → count ≡ answered_by s who) →
    IsNext k.core.ground.sizes.threads (standing_in k.ended k.answered) k.left actor left →
    RunnerTurns k (record {
      core = core;
      ended = slice_set k.ended ended_at flag;
      answered = slice_set k.answered answered_at count;
      left = left;
    })
one_turn k core left actor ended_at answered_at who turn flag count there here is done moves counts next r h =
    let threads = k.core.ground.sizes.threads in
    let made = moves.stands r.state h.core in
    let asked = subst (λ (l : Left). IsNext threads (standing_in k.ended k.answered) l actor left) (sym h.left) next in
    let asked = subst (λ (e : List Bool). IsNext threads (standing_in e k.answered) r.left actor left) (sym h.ended) asked in
    let asked = subst (λ (a : List ℕ). IsNext threads (standing_in r.ended a) r.left actor left) (sym h.answered) asked in (
      record {
        state = made.0;
        ended = slice_set k.ended ended_at flag;
        answered = slice_set k.answered answered_at count;
        left = left;
      },
      record { core = made.1; ended = refl; answered = refl; left = refl },
      record {
        actor = actor;
        next = asked;
        turn = turn;
        turned = subst (λ (w : Actor). TurnOf (one_framed k.core.ground) r.state w turn made.0) is made.2;
        ended = ap (λ (e : List Bool). slice_set e ended_at flag) (sym h.ended)
            ∙ (ap (λ (i : ℕ). slice_set r.ended i flag) there ∙ ap (λ (b : Bool). slice_set r.ended actor b) done);
        answered = ap (λ (a : List ℕ). slice_set a answered_at count) (sym h.answered)
            ∙ (ap (λ (i : ℕ). slice_set r.answered i count) here
            ∙ ap (λ (n : ℕ). slice_set r.answered actor n)
            (counts made.0 made.1 ∙ ap (λ (w : Actor). answered_by made.0 w) is));
      },
    )

pub turns_more : (z : Ground) (n : ℕ) (r mid r' : CoreRun) → CoreTurns z n r mid → IsCoreTurn z mid r' → CoreTurns z (n + 1) r r'
turns_more z n r mid r' runs turn = subst (λ k. CoreTurns z k r r') (sym (add-one n)) (mid, runs, turn)

-- a thread and the collector that have ended, by their numbers
thread_ended : (threads i : ℕ) → i < threads → (s : State) → HasEnded s (actor_at threads i) → s.left i ≡ []
thread_ended threads i near s h = subst (λ (b : Bool). HasEnded s (cond b (Thread i) Collector)) (lt-ltb i threads near) h

collector_ended : (threads : ℕ) (s : State) → HasEnded s (actor_at threads threads) → s.stage ≡ Finished
collector_ended threads s h = subst (λ (b : Bool). HasEnded s (cond b (Thread threads) Collector)) (le-ltb threads threads (omega arith)) h

-- turns up to the greatest number of turns of a script, or until each actor has ended, are a run of it
module _ (script : Scripted) (k k' : Runner) (is_of : IsOfScript script k.core) (keeps : KeepsScript k.core k'.core)
    (t : TakesTurns script.turns k k' (core_start script)) where
  ended_so : (P : ℕ → List Bool → Type 0) → P k'.core.ground.sizes.threads k'.ended → P script.sizes.threads t.last.ended
  ended_so P h = subst (λ (e : List Bool). P script.sizes.threads e) (sym t.ended)
      (subst (λ (z : Ground). P z.sizes.threads k'.ended) (keeps.ground ∙ is_of.ground) h)

  spent : (t.turns ≡ script.turns) ⊎ CoreHasEnded k.core.ground.sizes.threads t.last.ended →
      CoreGoesOn script.sizes.threads t.last.ended → t.turns ≡ script.turns
  spent (inl all) goes = all
  spent (inr ended) goes =
      let over = subst (λ (z : Ground). CoreHasEnded z.sizes.threads t.last.ended) is_of.ground ended goes.0 goes.1 in
      let no : true ≡ false = sym over ∙ goes.2 in absurd (cc)

  over : (is_spent : Bool) →
      MatchBool is_spent (CoreGoesOn k'.core.ground.sizes.threads k'.ended) (CoreHasEnded k'.core.ground.sizes.threads k'.ended) →
      IsCoreOver script is_spent t.turns t.last
  over true goes = let on = ended_so CoreGoesOn goes in (spent t.over on, on)
  over false ended = ended_so CoreHasEnded ended

  -- the threads have the calls of the script
  calls_are : (i : ℕ) → calls_of_threads k'.core.calls i ≡ calls_of_threads script.threads i
  calls_are i = ap (λ (x : List (List Call)). calls_of_threads x i) (keeps.calls ∙ is_of.calls)

  all_made : (i : ℕ) → i < script.sizes.threads → calls_of (log_of i t.last.state.history) ++ t.last.state.left i ≡ calls_of_threads script.threads i
  all_made i near =
      let there = subst (λ (z : Ground). i < z.sizes.threads) (sym (keeps.ground ∙ is_of.ground)) near in
      t.stands.rule.made i there ∙ calls_are i

  is_record : IsCoreRecord script t.last.state
  is_record = record {
    is_history = subst (λ (z : Ground). IsCoreHistory (one_framed z) t.last.state.history) (keeps.ground ∙ is_of.ground)
        (record { legal = (t.last.state.graph, t.stands.rule.leads); full = t.stands.rule.full });
    partial = λ i near. (t.last.state.left i, all_made i near);
  }

  runs_so : CoreTurns (ground_of script) t.turns (core_start script) t.last
  runs_so = subst (λ (z : Ground). CoreTurns z t.turns (core_start script) t.last) is_of.ground t.runs

  whole : CoreHasEnded script.sizes.threads t.last.ended → IsWholeRecord script t.last.state
  whole ended = record {
    complete = λ i near.
        let flag = ended i (omega (arith, near)) in
        let none = thread_ended script.sizes.threads i near t.last.state (flagged_ended script t.turns t.last runs_so i (omega (arith, near)) flag) in
        sym (append-nil (calls_of (log_of i t.last.state.history)))
        ∙ (ap (λ (x : List Call). calls_of (log_of i t.last.state.history) ++ x) (sym none) ∙ all_made i near);
    finished = collector_ended script.sizes.threads t.last.state
        (flagged_ended script t.turns t.last runs_so script.sizes.threads (omega arith) (ended script.sizes.threads (omega arith)));
  }

  pub ran : (is_spent : Bool) →
      MatchBool is_spent (CoreGoesOn k'.core.ground.sizes.threads k'.ended) (CoreHasEnded k'.core.ground.sizes.threads k'.ended) →
      RanCore script is_spent k'.core
  ran is_spent h = record {
    last = t.last;
    run = record {
      turns = t.turns;
      runs = runs_so;
      few = t.few;
      over = over is_spent h;
    };
    stands = t.stands;
    kept = is_record;
    whole = λ no. whole (subst (λ (b : Bool). IsCoreOver script b t.turns t.last) no (over is_spent h));
  }
