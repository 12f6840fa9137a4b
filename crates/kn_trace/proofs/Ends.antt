-- What the last turn of a run leaves.
use Rattle.std.proofs.Common.{◌≡◌, ℕ, zero, suc, ◌+◌, ◌-◌, ◌*◌, ◌^◌, ◌<◌, ◌≤◌, ◌⊎◌, inl, inr}
use Rattle.std.proofs.Common.{List, [], ◌∷◌, ◌++◌, length, map, take, drop}
use Rattle.std.proofs.Common.{Some, get_or, slice_get, sum_by, sym, ap, ◌∙◌, subst, arith, length-append}
use Rattle.std.specs.Option.{option_map}
use Rattle.std.specs.Prelude.{All}
use Rattle.std.proofs.lemmas.List.{get_or_past, get_or_append_left, get_or-append_right, take-append-drop}
use lib.ListN.{length-map}
use Rattle.std.proofs.lemmas.List.Elements.{All-from_get_or}
use Rattle.std.proofs.lemmas.List.Sums.{sum_by-le}
use Rattle.std.proofs.lemmas.Option.{slice_get_within, slice_get_cases, slice_get-map, get_or_from_slice_get}
use Rattle.kn_base.proofs.Updates.{split_at}
use Rattle.kn_graph.specs.declared.calls.Call.{Call}
use Rattle.kn_graph.specs.declared.entries.Entry.{Entry}
use Rattle.kn_graph.specs.Ground.{Ground}
use Rattle.kn_graph.specs.Histories.{IsLegal}
use Rattle.kn_graph.specs.Logs.{IsComplete, IsPartial, LogsFit, calls_of, log_of}
use Rattle.kn_rule.specs.Views.{View}
use Rattle.kn_script.specs.Good.{IsGoodScript}
use Rattle.kn_script.specs.Scripts.{Scripted, ground_of}
use Rattle.kn_board.specs.World.{World, Sound, view_at}
use Rattle.kn_mutator.specs.Mutating.{Mutating}
use Rattle.kn_trace.specs.Traces.{Trace}
use Rattle.kn_trace.specs.Runs.{AreComplete, ArePartial, HaveEnded, IsStart, calls_at}
use Rattle.kn_trace.specs.Between.{Holds, Stays, calls_of_all, logs_of}
use Rattle.kn_trace.proofs.Flags.{has_ended, thread_flag}
use Rattle.kn_trace.proofs.Logs.{answered, answered_all, leads, logged, no_calls, short_log}

-- a log and an empty one
abbrev two_logs : List Entry → ℕ → List Entry
two_logs log i = get_or {A = List Entry} (log ∷ [] ∷ []) i []

two_short : (log : List Entry) (i : ℕ) → length log ≤ 16384 → length (two_logs log i) ≤ 16384
two_short log zero short = short
two_short log (suc zero) short = omega arith
two_short log (suc (suc i)) short = omega arith

module _ (s : Scripted) (good : IsGoodScript s) (start last : Trace) (is_start : IsStart s start) (stays : Stays start last)
    (sound : Sound last.board) (h : Holds last) where
  pub ground_is : last.board.heap ≡ ground_of s
  ground_is = stays.heap ∙ ap (λ (w : World). w.heap) is_start.board

  threads_are : last.board.heap.sizes.threads ≡ s.sizes.threads
  threads_are = ap (λ (z : Ground). z.sizes.threads) ground_is

  count : length last.mutators ≡ length s.threads
  count = h.count ∙ (threads_are ∙ sym good.each_thread)

  its_calls : (c : ℕ) (m : Mutating) → slice_get last.mutators c ≡ Some m → m.calls ≡ calls_at s.threads c
  its_calls c m is =
      let near = slice_get_within last.mutators c m is in
      let calls = λ (n : Mutating). n.calls in
      sym (get_or_from_slice_get (calls_of_all last.mutators) c m.calls [] (slice_get-map calls last.mutators c ∙ ap (option_map calls) is))
      ∙ (ap (λ (x : List (List Call)). get_or x c []) stays.calls
      ∙ get_or_from_slice_get (calls_of_all start.mutators) c (calls_at s.threads c) []
      (slice_get-map calls start.mutators c ∙ ap (option_map calls) (is_start.mutators c (let n = count in omega arith))))

  log_is : (c : ℕ) (m : Mutating) → slice_get last.mutators c ≡ Some m → log_of c last.board.history ≡ m.log
  log_is c m is =
      let near = slice_get_within last.mutators c m is in
      let n = h.count in
      logged last.board sound c (omega arith) ∙ (h.agree c m is).knows.log

  -- of the callers that are no threads the collector has its log, and the finalizer says nothing
  abbrev threads : ℕ
  threads = last.board.heap.sizes.threads

  abbrev behind : ℕ → List Entry
  behind c = two_logs last.collector.log (c - length last.mutators)

  collector_says : (view_at last.board threads).log ≡ behind threads
  collector_says =
      let n = h.count in
      let first : 0 ≡ threads - length last.mutators = omega (arith, n) in
      h.collects.log ∙ ap (two_logs last.collector.log) first

  finalizer_says : (c : ℕ) → c ≡ threads + 1 → (view_at last.board c).log ≡ behind c
  finalizer_says c is =
      let n = h.count in
      let second : 1 ≡ c - length last.mutators = omega (arith, n, is) in
      ap (λ d. (view_at last.board d).log) is ∙ (ap (λ (v : View). v.log) h.at_rest ∙ ap (two_logs last.collector.log) second)

  view_says : (c : ℕ) → length last.mutators ≤ c → c < s.sizes.threads + 2 → (view_at last.board c).log ≡ behind c
  view_says c from to = split_at (λ d. d ≤ threads + 1 → threads ≤ d → (view_at last.board d).log ≡ behind d) threads
      (λ _ _. collector_says) c (λ ne most least. finalizer_says c (omega (arith, ne, most, least)))
      (let e = threads_are in omega (arith, to)) (let n = h.count in omega (arith, from))

  said_behind : (c : ℕ) → length last.mutators ≤ c → c < s.sizes.threads + 2 → log_of c last.board.history ≡ behind c
  said_behind c from to = let e = threads_are in logged last.board sound c (omega arith) ∙ view_says c from to

  -- the collector makes at most one entry an epoch
  collector_short : length last.collector.log ≤ 16384
  collector_short = let few = h.collects.few in let most = h.collects.epochs in omega (arith, few, most)

  -- the mutator of a thread, or none
  abbrev Cases : ℕ → Type 0
  Cases c = ((m : Mutating) × (slice_get last.mutators c ≡ Some m)) ⊎ (length last.mutators ≤ c)

  cases : (c : ℕ) → Cases c
  cases c = elim (slice_get_cases last.mutators c).1 [ inl there ↦ inl (there.0, there.2) | inr past ↦ inr past.0 ]

  none_past : (c : ℕ) → length last.mutators ≤ c → calls_of (log_of c last.board.history) ≡ []
  none_past c past =
      let n = h.count in
      let l = leads last.board sound in
      no_calls last.board.heap last.board.history _ l.0 c (omega arith) l.1

  pub legal : IsLegal (ground_of s) last.board.history
  legal = subst (λ (z : Ground). IsLegal z last.board.history) ground_is (leads last.board sound)

  -- each thread's log answers the first of its calls
  first_calls : (log calls : List Call) (n : ℕ) → log ≡ take n calls → (rest : List Call) × (log ++ rest ≡ calls)
  first_calls log calls n is = (drop n calls, ap (λ (x : List Call). x ++ drop n calls) is ∙ take-append-drop n calls)

  partial_at : (c : ℕ) → Cases c → IsPartial (log_of c last.board.history) (calls_at s.threads c)
  partial_at c (inl there) =
      let m = there.0 in
      let answers = answered m.task m (view_at last.board c) (h.agree c m there.1).at in
      first_calls (calls_of (log_of c last.board.history)) (calls_at s.threads c) answers.0
      (ap calls_of (log_is c m there.1) ∙ (answers.1.calls ∙ ap (take answers.0) (its_calls c m there.1)))
  partial_at c (inr past) = (calls_at s.threads c, ap (λ (x : List Call). x ++ calls_at s.threads c) (none_past c past))

  pub partial : ArePartial s last.board.history
  partial c = partial_at c (cases c)

  -- where all have ended, each log is complete
  complete_at : HaveEnded last.mutators last.collector → (c : ℕ) → Cases c → IsComplete (log_of c last.board.history) (calls_at s.threads c)
  complete_at end c (inl there) =
      let m = there.0 in
      let near = slice_get_within last.mutators c m there.1 in
      let flag = sym (thread_flag last.mutators last.collector c m there.1) ∙ end c (omega arith) in
      ap calls_of (log_is c m there.1)
      ∙ (answered_all m.task m (view_at last.board c) (has_ended m.task flag) (h.agree c m there.1).at ∙ its_calls c m there.1)
  complete_at end c (inr past) = none_past c past ∙ sym (get_or_past s.threads c [] (let n = count in omega arith))

  pub complete : HaveEnded last.mutators last.collector → AreComplete s last.board.history
  complete end c = complete_at end c (cases c)

  -- the logs fit the history
  log_at : (c : ℕ) → c < s.sizes.threads + 2 → Cases c → get_or (logs_of last.mutators last.collector) c [] ≡ log_of c last.board.history
  log_at c to (inl there) =
      let m = there.0 in
      let log = λ (n : Mutating). n.log in
      let near = slice_get_within last.mutators c m there.1 in
      let same : length (map log last.mutators) ≡ length last.mutators = length-map last.mutators log in
      get_or_append_left (map log last.mutators) (last.collector.log ∷ [] ∷ []) [] c (omega arith)
      ∙ (get_or_from_slice_get (map log last.mutators) c m.log [] (slice_get-map log last.mutators c ∙ ap (option_map log) there.1)
      ∙ sym (log_is c m there.1))
  log_at c to (inr past) =
      let log = λ (n : Mutating). n.log in
      get_or-append_right (map log last.mutators) (last.collector.log ∷ [] ∷ []) (length last.mutators) c [] (length-map last.mutators log) past
      ∙ sym (said_behind c past to)

  pub fit : LogsFit (s.sizes.threads + 2) (logs_of last.mutators last.collector) last.board.history
  fit =
      let log = λ (n : Mutating). n.log in
      record {
        count = length-append (map log last.mutators) (last.collector.log ∷ [] ∷ [])
            ∙ ap (λ n. n + 2) (length-map last.mutators log ∙ (h.count ∙ threads_are));
        each = λ c near. log_at c near (cases c);
      }

  -- no log is longer than there may be calls
  short_at : (c : ℕ) → c < s.sizes.threads + 2 → Cases c → length (log_of c last.board.history) ≤ 16384
  short_at c to (inl there) =
      let m = there.0 in
      subst (λ (x : List Entry). length x ≤ 16384) (sym (log_is c m there.1)) (short_log last.board c m (h.agree c m there.1))
  short_at c to (inr past) =
      subst (λ (x : List Entry). length x ≤ 16384) (sym (said_behind c past to))
      (two_short last.collector.log (c - length last.mutators) collector_short)

  pub few : sum_by (λ (log : List Entry). length log) (logs_of last.mutators last.collector) < 2 ^ 32
  few =
      let each : All (λ (log : List Entry). length log ≤ 16384) (logs_of last.mutators last.collector) =
      All-from_get_or (λ (log : List Entry). length log ≤ 16384) (logs_of last.mutators last.collector) []
      (λ c near.
      let to : c < s.sizes.threads + 2 = (let n = fit.count in omega arith) in
      subst (λ (x : List Entry). length x ≤ 16384) (sym (fit.each c to)) (short_at c to (cases c))) in
      let threads = good.sizes.of_threads.threads.1 in
      small (length (logs_of last.mutators last.collector)) _ (let n = fit.count in omega arith)
      (sum_by-le (λ (log : List Entry). length log) 16384 (logs_of last.mutators last.collector) each)
    where
      small : (a n : ℕ) → a ≤ 18 → n ≤ a * 16384 → n < 2 ^ 32
      small a n x y = omega arith
