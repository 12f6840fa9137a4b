-- A mutator that has made no turn agrees with a view that has made no step.
use Rattle.std.proofs.Common.{◌≡◌, ℕ, zero, suc, ◌<◌, ◌≤◌, inr, Bool, List, [], ◌∷◌, length, replicate, get_or, slice_index}
use Rattle.std.proofs.Common.{slice_index_or, sum, take}
use Rattle.std.proofs.Common.{refl, sym, ap, ◌∙◌, arith}
use Rattle.std.specs.List.{AllByRecursion}
use Rattle.std.proofs.lemmas.Option.{get_or_from_slice_get, slice_get_read}
use Rattle.std.proofs.lemmas.List.Sums.{get_or-le-sum_by}
use Rattle.kn_base.specs.declared.limits.TheConstants.{LOCALS, MOST_CALLS}
use Rattle.kn_graph.specs.declared.calls.Call.{Call}
use Rattle.kn_graph.specs.Arguments.{IsInRange}
use Rattle.kn_graph.specs.Counts.{births_among}
use Rattle.kn_graph.specs.Ground.{Ground, IsGoodGround}
use Rattle.kn_graph.specs.Logs.{calls_of}
use Rattle.kn_rule.specs.Allowed.{IsBuilt}
use Rattle.kn_rule.specs.Decoding.{phase_of}
use Rattle.kn_rule.specs.Rule.{fresh}
use Rattle.kn_rule.specs.Steps.{epoch_in}
use Rattle.kn_script.specs.Good.{IsGoodScript}
use Rattle.kn_script.specs.Scripts.{Scripted, counts_of, ground_of}
use Rattle.kn_script.proofs.GoodLemmas.{All-at}
use Rattle.kn_alloc.proofs.Agreements.{opens}
use Rattle.kn_view.specs.Parts.{ground_of as ground_with}
use Rattle.kn_layout.specs.declared.layouts.Layout.{Layout}
use Rattle.kn_mutator.specs.Agree.{Agrees, HasAnswered, AtTask, Planned}
use Rattle.kn_mutator.specs.Mutating.{Mutating, first_task, new_mutating}

-- the count of a thread
counts_at : (count : List Call → ℕ) (n : ℕ) (threads : List (List Call)) (i : ℕ) → i < n → i < length threads →
    get_or (counts_of count n threads) i 0 ≡ count (get_or threads i [])
counts_at count zero threads i l there = absurd (omega (arith, l))
counts_at count (suc n) [] i l there = absurd (omega (arith, there))
counts_at count (suc n) (calls ∷ threads) zero l there = refl
counts_at count (suc n) (calls ∷ threads) (suc i) l there = counts_at count n threads i (omega arith) (omega arith)

-- the calls of a thread that were read
pub calls_read : (threads there : List (List Call)) (k i : ℕ) (calls : List Call) → i < length there → threads ≡ there → k ≡ i →
    calls ≡ slice_index_or threads k calls → calls ≡ slice_index_or there i []
calls_read threads there k i calls less same at read =
    let e : calls ≡ slice_index_or there i calls = read ∙ λ t. slice_index_or (same t) (at t) calls in
    sym (get_or_from_slice_get there i calls [] (slice_get_read there (length there) i calls refl less e))

-- the heap of a script whose layouts were copied
pub ground_read : (x s : Scripted) → x ≡ s → (copies read : List Layout) → copies ≡ read → read ≡ x.layouts →
    ground_with x.sizes copies ≡ ground_of s
ground_read x s same copies read copied layouts =
    let is : copies ≡ s.layouts = copied ∙ (layouts ∙ ap (λ (s : Scripted). s.layouts) same) in
    λ t. record { sizes = (same t).sizes; layouts = is t }

small_at : (n r : ℕ) → slice_index (replicate n 0) r ≤ 1000000
small_at zero r = omega arith
small_at (suc n) zero = omega arith
small_at (suc n) (suc r) = small_at n r

-- no pause comes before a view that has made no step
epoch_at_start : (z : Ground) → epoch_in (fresh z) ≡ 0
unfolding phase_of
epoch_at_start z = refl

module _ (s : Scripted) (i : ℕ) (good : IsGoodScript s) (there : i < length s.threads) where
  abbrev calls : List Call
  calls = slice_index_or s.threads i []

  near : i < s.sizes.threads
  near = let e = good.each_thread in omega arith

  below : i < 16
  below = let l = near in let most = good.sizes.of_threads.threads.1 in omega arith

  pub good_ground : IsGoodGround (ground_of s)
  good_ground = record { sizes = good.sizes; few_layouts = good.few_layouts; layouts = good.layouts }

  calls_are : slice_index s.sizes.calls i ≡ length calls
  calls_are = ap (λ l. slice_index l i) good.counts.calls ∙ counts_at length 16 s.threads i below there

  births_are : slice_index s.sizes.births i ≡ births_among calls
  births_are = ap (λ l. slice_index l i) good.counts.births ∙ counts_at births_among 16 s.threads i below there

  -- the calls of a thread are within the limit
  pub few_calls : length calls ≤ MOST_CALLS
  few_calls =
      let lists = good.sizes.of_threads.lists.0 in
      let b = below in
      let one : slice_index s.sizes.calls i ≤ sum s.sizes.calls = get_or-le-sum_by (λ (n : ℕ). n) s.sizes.calls i 0 (omega arith) in
      let all = good.sizes.of_threads.calls in
      let e = calls_are in
      omega arith

  planned : AllByRecursion IsBuilt calls → Planned (ground_of s) i calls
  planned built = record {
    good = good_ground;
    thread = near;
    calls_are = calls_are;
    births_are = births_are;
    built = built;
    in_range = All-at (AllByRecursion (IsInRange (ground_of s))) s.threads i [] good.calls tt;
  }

  no_answers : (m : Mutating) → m.begun ≡ 0 → m.log ≡ [] → HasAnswered m.log m.calls m.begun
  no_answers m begun log = record {
    calls = ap calls_of log ∙ sym (ap (λ n. take n m.calls) begun);
    count = ap length log ∙ sym begun;
    within = omega arith;
  }

  at_start : (calls : List Call) → AtTask (first_task calls) (new_mutating (ground_of s) i calls) (fresh (ground_of s))
  at_start [] = (inr refl, record { answers = no_answers (new_mutating (ground_of s) i []) refl refl; untargeted = refl; alloc = tt }, refl)
  at_start (call ∷ calls) =
      record { position = refl; owes = (no_answers (new_mutating (ground_of s) i (call ∷ calls)) refl refl, omega arith); alloc = refl }

  pub opened : AllByRecursion IsBuilt calls → (here : ℕ → Bool) →
      Agrees (new_mutating (ground_of s) i calls) (record { heap = ground_of s; by = i; view = fresh (ground_of s) }) here
  opened built here = record {
    alloc = opens (ground_of s) i here good_ground near;
    marker = record { sizes = refl; share = refl; at_ref = tt };
    heap = refl;
    caller = refl;
    knows = record { locals = refl; epoch = epoch_at_start (ground_of s); log = refl; begun = refl; target = refl };
    planned = planned built;
    births = refl;
    width = refl;
    addresses = λ r l. small_at LOCALS r;
    at = at_start calls;
  }
