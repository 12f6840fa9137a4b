-- Each turn of a run lowers the turns that are left.
use Rattle.std.proofs.Common.{◌≡◌, ◌≢◌, ℕ, zero, suc, ◌+◌, ◌*◌, ◌<◌, ◌≤◌, ◌⊎◌, ◌∙◌}
use Rattle.std.proofs.Common.{inl, inr, Bool, true, false, cond, List, [], ◌∷◌, length, get_or}
use Rattle.std.proofs.Common.{refl, sym, ap, subst, arith, slice_set, ltb, leb, length-set, replicate}
use Rattle.std.specs.List.{AllByRecursion, sum_by}
use Rattle.std.proofs.Math.Nat.{mul-le-mul_left}
use Rattle.std.proofs.lemmas.Bool.{both_ways, le-leb, lt-leb, lt-ltb, ltb-false, ltb-true}
use Rattle.std.proofs.lemmas.Bool.Decides.{eqb_tells}
use Rattle.kn_base.specs.Functions.{Tells}
use Rattle.std.proofs.lemmas.List.{get_or-replicate, get_or-set_other, get_or-set_same, length-replicate}
use Rattle.std.proofs.lemmas.List.Sums.{sum_by-cons}
use Rattle.kn_base.specs.Sizes.{word_count}
use Rattle.kn_graph.specs.declared.calls.Call.{Call}
use Rattle.kn_graph.specs.declared.calls.Call.TheVariants.{Set}
use Rattle.kn_graph.specs.Ground.{Ground}
use Rattle.kn_lines.specs.declared.orders.Actor.TheVariants.{Thread, Collector}
use Rattle.kn_lines.specs.Ranges.{IsOrderWord}
use Rattle.kn_script.specs.Scripts.{Scripted, ground_of}
use Rattle.kn_script.specs.Good.{IsGoodScript}
use Rattle.kn_schedule.specs.Schedules.{ComesTo}
use Rattle.kn_cms_rule.specs.declared.stages.CmsTurn.{CmsTurn}
use Rattle.kn_cms_rule.specs.declared.stages.CmsTurn.TheVariants.{Idle, Done, Moved}
use Rattle.kn_cms_rule.specs.declared.stages.Doing.{Doing}
use Rattle.kn_cms_rule.specs.declared.stages.Doing.TheVariants.{Free, Loaded, Shaded}
use Rattle.kn_cms_rule.specs.declared.stages.Stage.TheVariants.{Waiting}
use Rattle.kn_cms_rule.specs.Calls.{is_core_call}
use Rattle.kn_cms_rule.specs.Words.{one_framed}
use Rattle.kn_cms_rule.specs.State.{State, opening}
use Rattle.kn_cms_rule.specs.Rule.{IsInMiddle}
use Rattle.kn_cms_rule.specs.Turns.{HasEnded, IsFirstInMiddle, MayTurn}
use Rattle.kn_cms_rule.proofs.Turned.{idle_exactly}
use Rattle.kn_cms_bound.specs.TurnLaws.{Lowers}
use Rattle.kn_cms_bound.specs.Work.{steps_left, steps_of_calls, sum_below}
use Rattle.kn_cms_bound.proofs.Sums.{sum_falls, sum_first, sum_mono}
use Rattle.kn_cms_bound.proofs.ThreadWork.{between_calls}
use Rattle.kn_cms_bound.proofs.Turned.{goes_on, turn_lowers}
use Rattle.kn_cms_lists.specs.Kept.{calls_of_threads}
use Rattle.kn_cms.proofs.OpenedCore.{opening_stands}
use Rattle.kn_cms_trace.specs.CoreRuns.{CoreRun, CoreTurns, IsCoreRunOf, IsCoreTurn, actor_at, core_start, is_done, standing_in}
use Rattle.kn_cms_trace.specs.Enough.{call_count, enough_turns, weight_of_order}
use Rattle.kn_cms_trace.specs.Measures.{OrderFalls, RunHolds, actor_left, actors_left, asks_left, by_round, by_word}
use Rattle.kn_cms_trace.specs.Measures.{turns_left, wait_left, waits_left, work_left}
use Rattle.kn_cms_trace.proofs.Ended.{one_more_ended}
use Rattle.kn_cms_trace.proofs.Ordered.{next_falls, next_near, next_runs, next_stays, whole_is_left, whole_weight}

-- the actor of a number may take a turn
pub actor_may : (z : Ground) (i : ℕ) → MayTurn z (actor_at z.sizes.threads i)
actor_may z i = by (ltb i z.sizes.threads) refl
  where
    by : (b : Bool) → ltb i z.sizes.threads ≡ b → MayTurn z (cond b (Thread i) Collector)
    by true is = ltb-true i z.sizes.threads is
    by false is = tt

-- a number whose actor is the collector is that of no thread
collector_behind : (threads i : ℕ) → actor_at threads i ≡ Collector → threads ≤ i
collector_behind threads i is = by (ltb i threads) refl is
  where
    by : (b : Bool) → ltb i threads ≡ b → cond b (Thread i) Collector ≡ Collector → threads ≤ i
    by true less is = absurd (cc)
    by false more is = ltb-false i threads more

-- one actor less is left where it ends, and as many where none does
module _ (ended : List Bool) (actors a : ℕ) (long : length ended ≡ actors) (near : a < actors) (runs : get_or ended a false ≡ false) where
  flag_less : (b : Bool) (i : ℕ) → a ≢ i → actor_left (get_or (slice_set ended a b) i false) ≤ actor_left (get_or ended i false)
  flag_less b i ne = let e = ap actor_left (get_or-set_other ended a i b false (λ q. ne (sym q))) in omega (arith, e)

  flag_here : (b : Bool) → actor_left (get_or (slice_set ended a b) a false) ≡ actor_left b
  flag_here b = ap actor_left (get_or-set_same ended a b false (omega (arith, long, near)))

  flag_was : actor_left (get_or ended a false) ≡ 1
  flag_was = ap actor_left runs

  ends_one : actors_left actors (slice_set ended a true) < actors_left actors ended
  ends_one = sum_falls (λ i. actor_left (get_or ended i false)) (λ i. actor_left (get_or (slice_set ended a true) i false)) actors a near
      (let e = flag_here true in let f = flag_was in omega (arith, e, f)) (λ i less ne. flag_less true i ne)

  ends_none : (b : Bool) → actors_left actors (slice_set ended a b) ≤ actors_left actors ended
  ends_none b = sum_mono (λ i. actor_left (get_or ended i false)) (λ i. actor_left (get_or (slice_set ended a b) i false)) actors
      (λ i less. split i (eqb_tells a i))
    where
      one_most : (c : Bool) → actor_left c ≤ 1
      one_most true = omega arith
      one_most false = omega arith

      split : (i : ℕ) → Tells a i → actor_left (get_or (slice_set ended a b) i false) ≤ actor_left (get_or ended i false)
      split i (inl t) = subst (λ j. actor_left (get_or (slice_set ended a b) j false) ≤ actor_left (get_or ended j false)) t.1
          (let e = flag_here b in let f = flag_was in let g = one_most b in omega (arith, e, f, g))
      split i (inr t) = flag_less b i t.1

waits_most : (threads place : ℕ) → waits_left threads place ≤ 1
waits_most threads place = by (leb place threads)
  where
    by : (b : Bool) → wait_left b ≤ 1
    by true = omega arith
    by false = omega arith

some_middle : (z : Ground) (s : State) (i : ℕ) (d : Doing) → d ≢ Free → IsInMiddle z s.graph i (s.left i) d → s.left i ≡ [] → ⊥
some_middle z s i Free not m none = not refl
some_middle z s i (Loaded n f v) not m none = let e : [] ≡ Set m.local f m.value ∷ m.rest = sym none ∙ m.is_left in absurd (cc)
some_middle z s i (Shaded n f) not m none = let e : [] ≡ Set m.local f m.value ∷ m.rest = sym none ∙ m.is_left in absurd (cc)

module _ (z : Ground) (calls : ℕ → List Call) (r r' : CoreRun) (h : RunHolds z calls r) (t : IsCoreTurn z r r') where
  may : MayTurn z (actor_at z.sizes.threads t.actor)
  may = actor_may z t.actor

  lowers : Lowers (one_framed z) r.state t.turn r'.state
  lowers = turn_lowers z calls r.state h.holds r'.state (actor_at z.sizes.threads t.actor) t.turn (actor_may z t.actor) t.turned

  -- the actor is one that has not ended
  pub near : t.actor < z.sizes.threads + 1
  near = next_near z.sizes.threads (standing_in r.ended r.answered) r.left h.order t.actor r'.left t.next

  pub runs : get_or r.ended t.actor false ≡ false
  runs = next_runs z.sizes.threads (standing_in r.ended r.answered) r.left h.order t.actor r'.left t.next

  pub run_goes_on : RunHolds z calls r'
  run_goes_on = record {
    holds = goes_on z calls r.state h.holds r'.state (actor_at z.sizes.threads t.actor) t.turn (actor_may z t.actor) t.turned;
    long = ap (λ (l : List Bool). length l) t.ended ∙ (length-set r.ended t.actor (is_done t.turn) ∙ h.long);
    flagged = λ i less flag. one_more_ended z r r' t i (let e = h.long in omega (arith, e, less)) (h.flagged i less) flag;
    order = next_stays z.sizes.threads (standing_in r.ended r.answered) r.left h.order t.actor r'.left t.next;
  }

  actors_are : actors_left (z.sizes.threads + 1) r'.ended ≡ actors_left (z.sizes.threads + 1) (slice_set r.ended t.actor (is_done t.turn))
  actors_are = ap (actors_left (z.sizes.threads + 1)) t.ended

  -- no turn raises the work that is left
  never_more : work_left z r' ≤ work_left z r
  never_more =
      let steps = lowers.never_rises in
      let actors = ends_none r.ended (z.sizes.threads + 1) t.actor h.long near runs (is_done t.turn) in
      let are = actors_are in omega (arith, steps, actors, are)

  -- a turn that is not idle lowers it
  less_by : (turn : CmsTurn) → t.turn ≡ turn → (work_left z r' < work_left z r) ⊎ ((i : ℕ) × (t.turn ≡ Idle i))
  less_by Moved is =
      let steps = lowers.moves is in
      let actors = ends_none r.ended (z.sizes.threads + 1) t.actor h.long near runs (is_done t.turn) in
      let are = actors_are in inl (omega (arith, steps, actors, are))
  less_by (Idle i) is = inr (i, is)
  less_by Done is =
      let steps = lowers.never_rises in
      let actors = ends_one r.ended (z.sizes.threads + 1) t.actor h.long near runs in
      let are = actors_are ∙ ap (λ (b : Bool). actors_left (z.sizes.threads + 1) (slice_set r.ended t.actor b)) (ap is_done is) in
      inl (omega (arith, steps, actors, are))

  -- where the collector is idle in a round, the round had not begun again
  module _ (i : ℕ) (idle : t.turn ≡ Idle i) where
    exactly : (actor_at z.sizes.threads t.actor ≡ Collector) × (r.state.stage ≡ Waiting) × IsFirstInMiddle (one_framed z) r.state i
    exactly = (idle_exactly (one_framed z) r.state r'.state (actor_at z.sizes.threads t.actor) t.turn i t.turned).0 idle

    behind : z.sizes.threads ≤ t.actor
    behind = collector_behind z.sizes.threads t.actor exactly.0

    not_over : get_or r.ended i false ≡ true → ⊥
    not_over flag =
        let first = exactly.2 in
        let less : i < z.sizes.threads = first.is_thread in
        let over = h.flagged i (omega (arith, less)) flag in
        some_middle (one_framed z) r.state i (r.state.doing i) first.in_middle (h.holds.rule.in_middle i less)
        (subst (λ (b : Bool). HasEnded r.state (cond b (Thread i) Collector)) (lt-ltb i z.sizes.threads less) over)

    place_by : ComesTo (z.sizes.threads + 1) (λ j. get_or r.ended j false) r.left.next t.actor → r.left.next ≤ z.sizes.threads
    place_by (inl c) = let at = c.0 in let less = near in omega (arith, at, less)
    place_by (inr c) =
        let far = behind in let less : i < z.sizes.threads = exactly.2.is_thread in absurd (not_over (c.2 i (omega (arith, far, less))))

    waited : ComesTo (z.sizes.threads + 1) (λ j. get_or r.ended j false) r.left.next t.actor →
        waits_left z.sizes.threads r.left.next ≡ 1
    waited comes = ap wait_left (le-leb r.left.next z.sizes.threads (place_by comes))

    waits_no_more : waits_left z.sizes.threads (t.actor + 1) ≡ 0
    waits_no_more = let far = behind in ap wait_left (lt-leb (t.actor + 1) z.sizes.threads (omega (arith, far)))

  falls_by : OrderFalls z.sizes.threads (λ j. get_or r.ended j false) r.left t.actor r'.left →
      (work_left z r' < work_left z r) ⊎ ((i : ℕ) × (t.turn ≡ Idle i)) → turns_left z r' < turns_left z r
  falls_by (by_word asks same) work =
      let less = never_more in let place = ap (waits_left z.sizes.threads) same in omega (arith, asks, less, place)
  falls_by (by_round none comes next) (inl less) =
      let most = waits_most z.sizes.threads r'.left.next in omega (arith, none, less, most)
  falls_by (by_round none comes next) (inr (i, idle)) =
      let less = never_more in
      let before = waited i idle comes in
      let after = ap (waits_left z.sizes.threads) next ∙ waits_no_more i idle in
      omega (arith, none, less, before, after)

  pub turn_falls : turns_left z r' < turns_left z r
  turn_falls = falls_by (next_falls z.sizes.threads (standing_in r.ended r.answered) r.left h.order t.actor r'.left t.next) (less_by t.turn refl)

-- so many turns lower it by so many
pub turns_fall : (z : Ground) (calls : ℕ → List Call) (n : ℕ) (r r' : CoreRun) → RunHolds z calls r → CoreTurns z n r r' →
    RunHolds z calls r' × (turns_left z r' + n ≤ turns_left z r)
turns_fall z calls zero r r' h same =
    (subst (RunHolds z calls) (sym same) h, let e = ap (turns_left z) same in omega (arith, e))
turns_fall z calls (suc n) r r' h (mid, runs, turn) =
    let before = turns_fall z calls n r mid h runs in
    let falls = turn_falls z calls mid r' before.0 turn in
    let less = before.1 in
    (run_goes_on z calls mid r' before.0 turn, omega (arith, falls, less))

-- before the first turn
opened_calls : (threads : List (List Call)) →
    sum_below (λ i. steps_of_calls (calls_of_threads threads i) Free) (length threads) ≡ 3 * sum_by length threads
opened_calls [] = refl
opened_calls (calls ∷ threads) =
    let split = sum_first (λ i. steps_of_calls (calls_of_threads (calls ∷ threads) i) Free) (length threads) in
    let here = between_calls calls in
    let rest = opened_calls threads in
    let sums = sum_by-cons length calls threads in
    omega (arith, split, here, rest, sums)

none_ended : (n : ℕ) → (m : ℕ) → m ≤ n → actors_left m (replicate n false) ≡ m
none_ended n zero less = refl
none_ended n (suc m) less =
    let here = ap actor_left (get_or-replicate n m false false (omega (arith, less))) in
    let rest = none_ended n m (omega (arith, less)) in omega (arith, here, rest)

-- some actor is left where some has not ended
some_left : (actors : ℕ) (ended : List Bool) (i : ℕ) → i < actors → get_or ended i false ≡ false → 1 ≤ actors_left actors ended
some_left actors ended i less over =
    let falls = sum_falls (λ j. actor_left (get_or ended j false)) (λ j. 0) actors i less
    (let e = ap actor_left over in omega (arith, e)) (λ j within ne. omega arith) in
    omega (arith, falls)

sum_up : (asks weight steps actors wait calls words threads most : ℕ) → asks ≤ weight → steps ≡ calls + (1 + words) → actors ≡ threads + 1 →
    wait ≤ 1 → 2 * (calls + words + threads + 2) ≤ most → asks + (2 * (steps + actors) + wait) ≤ most + weight + 1
sum_up asks weight steps actors wait calls words threads most a b c d e = omega (arith, a, b, c, d, e)

module _ (script : Scripted) (good : IsGoodScript script)
    (core : AllByRecursion (AllByRecursion (λ c. is_core_call c ≡ true)) script.threads) where
  pub start_holds : RunHolds (ground_of script) (calls_of_threads script.threads) (core_start script)
  start_holds = record {
    holds = record { rule = (opening_stands script good core).rule; fits = omega arith };
    long = length-replicate (script.sizes.threads + 1) false;
    flagged = λ i less flag. absurd (both_ways (get_or (replicate (script.sizes.threads + 1) false) i false)
        (get_or-replicate (script.sizes.threads + 1) i false false less) flag);
    order = whole_is_left script.sizes.threads script.order
        (subst (λ n. AllByRecursion (IsOrderWord n) script.order) good.each_thread good.order_words);
  }

  start_steps : steps_left (one_framed (ground_of script)) (opening (calls_of_threads script.threads)) ≡
      3 * call_count script + (1 + 2 * word_count script.sizes)
  start_steps =
      let e = ap (λ n. sum_below (λ i. steps_of_calls (calls_of_threads script.threads i) Free) n) (sym good.each_thread) in
      let f = opened_calls script.threads in omega (arith, e, f)

  twice : (n : ℕ) → 1 ≤ script.sizes.threads → 2 * n ≤ (script.sizes.threads + 1) * n
  twice n some = let h = mul-le-mul_left n (let two : 2 ≤ script.sizes.threads + 1 = omega (arith, some) in two) in omega (arith, h)

  start_turns : turns_left (ground_of script) (core_start script) ≤ enough_turns script + 1
  start_turns =
      let asks = whole_weight script.sizes.threads script.order in
      let steps : steps_left (one_framed (ground_of script)) (core_start script).state ≡ 3 * call_count script + (1 + 2 * word_count script.sizes) =
      start_steps in
      let actors : actors_left (script.sizes.threads + 1) (core_start script).ended ≡ script.sizes.threads + 1 =
      none_ended (script.sizes.threads + 1) (script.sizes.threads + 1) (omega arith) in
      let wait = waits_most script.sizes.threads (core_start script).left.next in
      let more = twice (3 * call_count script + 2 * word_count script.sizes + script.sizes.threads + 2) good.sizes.of_threads.threads.0 in
      sum_up (asks_left script.sizes.threads (core_start script).left) (weight_of_order script)
      (steps_left (one_framed (ground_of script)) (core_start script).state)
      (actors_left (script.sizes.threads + 1) (core_start script).ended) (waits_left script.sizes.threads (core_start script).left.next)
      (3 * call_count script) (2 * word_count script.sizes) script.sizes.threads
      ((script.sizes.threads + 1) * (3 * call_count script + 2 * word_count script.sizes + script.sizes.threads + 2))
      asks steps actors wait more

  -- where turns are spent there were fewer than are enough
  pub enough : (last : CoreRun) → IsCoreRunOf script true last → script.turns < enough_turns script
  enough last run =
      let fallen = turns_fall (ground_of script) (calls_of_threads script.threads) run.turns (core_start script) last start_holds run.runs in
      let less = fallen.1 in
      let start = start_turns in
      let all = run.over.0 in
      let goes = run.over.1 in
      let some = some_left (script.sizes.threads + 1) last.ended goes.0 goes.1 goes.2 in
      omega (arith, less, start, all, some)
