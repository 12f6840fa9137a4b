-- The logs of a run.
use Rattle.std.proofs.Common.{◌≡◌, ℕ, suc, ◌<◌, ◌≤◌, inl, inr, List, []}
use Rattle.std.proofs.Common.{◌∷◌, ◌++◌, Option, Some, None, length, map, slice_get, take}
use Rattle.std.proofs.Common.{refl, sym, ap, ◌∙◌, subst, arith}
use Rattle.std.proofs.Math.Seq.{take-length}
use Rattle.std.proofs.lemmas.Bool.Decides.{eqb_tells}
use Rattle.std.proofs.lemmas.List.{length-take-le}
use Rattle.std.proofs.lemmas.List.Sums.{get_or-le-sum_by}
use Rattle.kn_base.specs.Functions.{Tells}
use Rattle.kn_graph.specs.declared.calls.Call.{Call}
use Rattle.kn_graph.specs.declared.entries.Event.{Event}
use Rattle.kn_graph.specs.declared.entries.Event.TheVariants as events
use Rattle.kn_graph.specs.declared.entries.Entry.{Entry}
use Rattle.kn_graph.specs.Ground.{Ground}
use Rattle.kn_graph.specs.Graph.{Graph, empty_graph}
use Rattle.kn_graph.specs.Histories.{EventFollows, Leads}
use Rattle.kn_graph.specs.Logs.{call_in, calls_of, log_of}
use Rattle.kn_rule.specs.Views.{View}
use Rattle.kn_rule.specs.Steps.{callers}
use Rattle.kn_board.specs.World.{World, Sound, view_at}
use Rattle.kn_mutator.specs.declared.task.Task.{Task}
use Rattle.kn_mutator.specs.declared.task.Task.TheVariants.{Out, Helps, GoesIn, Enters, Polls, Calls, Births, Writes, Waits}
use Rattle.kn_mutator.specs.declared.task.Task.TheVariants.{SendsSingle, Leaves, Ends, Ended}
use Rattle.kn_mutator.specs.Agree.{HasAnswered, AtTask, HasEnded, Owes}
use Rattle.kn_mutator.specs.Mutating.{Mutating}
use Rattle.kn_trace.specs.Between.{AgreesAt}

-- whatever is owed, the log answers some of the calls
owed : (m : Mutating) (target : Option ℕ) → Owes m target → (n : ℕ) × HasAnswered m.log m.calls n
owed m None h = (m.begun, h.0)
owed m (Some n) h = (h.number, h.answers)

-- at every task the log answers some of the calls
pub answered : (task : Task) (m : Mutating) (v : View) → AtTask task m v → (n : ℕ) × HasAnswered m.log m.calls n
answered Out m v at = owed m m.target at.owes
answered Helps m v at = owed m m.target at.0.owes
answered GoesIn m v at = owed m m.target at.owes
answered Enters m v at = owed m m.target at.owes
answered Polls m v at = (m.begun, at.0.answers)
answered (Calls call h) m v at = (at.under_way.number, at.under_way.answers)
answered (Births call) m v at = (at.under_way.number, at.under_way.answers)
answered (Writes r w) m v at = (m.begun, at.answers)
answered Waits m v at = owed m m.target at.0.owes
answered SendsSingle m v at = (m.begun, at.1.answers)
answered Leaves m v at = owed m m.target at.1
answered Ends m v at = (m.begun, at.1.answers)
answered Ended m v at = (m.begun, at.1)

-- at the end it answers all
pub answered_all : (task : Task) (m : Mutating) (v : View) → HasEnded task → AtTask task m v → calls_of m.log ≡ m.calls
answered_all Ended m v end at = at.1.calls ∙ (ap (λ n. take n m.calls) at.2 ∙ take-length m.calls)
answered_all _ m v end at = absurd end

-- the entries of a mutator's log are those of its calls, and they are few
module _ (w : World) (c : ℕ) (m : Mutating) (agrees : AgreesAt w c m) where
  pub calls_alone : length m.log ≡ length (calls_of m.log)
  calls_alone =
      let a = answered m.task m (view_at w c) agrees.at in
      a.1.count ∙ sym (ap (λ (x : List Call). length x) a.1.calls ∙ length-take-le a.0 m.calls a.1.within)

  pub short_log : length m.log ≤ 16384
  short_log =
      let a = answered m.task m (view_at w c) agrees.at in
      let sizes = agrees.planned.good.sizes in
      let lists = sizes.of_threads.lists.0 in
      let few = sizes.of_threads.threads.1 in
      let near = agrees.planned.thread in
      let part = get_or-le-sum_by (λ k. k) m.heap.sizes.calls m.by 0 (omega arith) in
      let its = agrees.planned.calls_are in
      let all = sizes.of_threads.calls in
      omega (arith, a.1.count, a.1.within)

-- so counts of entries are counts of calls
pub counts_are : (ms : List Mutating) → ((i : ℕ) (m : Mutating) → slice_get ms i ≡ Some m → length m.log ≡ length (calls_of m.log)) →
    map (λ (m : Mutating). length m.log) ms ≡ map (λ (m : Mutating). length (calls_of m.log)) ms
counts_are [] each = refl
counts_are (m ∷ ms) each = λ t. each 0 m refl t ∷ counts_are ms (λ i n is. each (suc i) n is) t

-- an entry of one that is no thread answers no call
no_call : (z : Ground) (by epoch : ℕ) (what : Event) (g g' : Graph) → z.sizes.threads ≤ by → EventFollows z by epoch what g g' →
    call_in what ≡ []
no_call z by epoch (events.Call call reply address) g g' far f = let near = f.by_thread in absurd (omega arith)
no_call z by epoch (events.Pause e) g g' far f = refl
no_call z by epoch (events.Released a) g g' far f = refl
no_call z by epoch (events.Queued a) g g' far f = refl
no_call z by epoch (events.Finalized a c n) g g' far f = refl
no_call z by epoch (events.Done e) g g' far f = refl

calls_behind : (z : Ground) (e : Entry) (h : List Entry) (c : ℕ) (g g' : Graph) → z.sizes.threads ≤ c →
    EventFollows z e.by.0 e.epoch e.what g g' → calls_of (log_of c h) ≡ [] → Tells e.by.0 c → calls_of (log_of c (e ∷ h)) ≡ []
calls_behind z e h c g g' far f rest (inl t) =
    let none = no_call z e.by.0 e.epoch e.what g g' (subst (λ d. z.sizes.threads ≤ d) (sym t.1) far) f in
    rw t.0 (ap (λ (x : List Call). x ++ calls_of (log_of c h)) none ∙ rest)
calls_behind z e h c g g' far f rest (inr t) = rw t.0 rest

-- so one that is no thread answers none in a legal history
pub no_calls : (z : Ground) (h : List Entry) (g g' : Graph) (c : ℕ) → z.sizes.threads ≤ c → Leads z g h g' → calls_of (log_of c h) ≡ []
no_calls z [] g g' c far l = refl
no_calls z (e ∷ h) g g' c far l = calls_behind z e h c g l.1.graph far l.1.event (no_calls z h l.0 g' c far l.2) (eqb_tells e.by.0 c)

module _ (w : World) (sound : Sound w) where
  -- the history is legal
  pub leads : (g : Graph) × Leads w.heap empty_graph w.history g
  leads = let s = sound.1 in (s.1.0, subst (λ (h : List Entry). Leads w.heap empty_graph h s.1.0) (sym s.2.history_is) s.1.1.told.leads)

  -- the entries of each caller are the log in its view
  pub logged : (c : ℕ) → c < callers w.heap.sizes → log_of c w.history ≡ (view_at w c).log
  logged c near =
      let s = sound.1 in
      ap (log_of c) s.2.history_is ∙ (s.1.1.told.logs c near ∙ ap (λ (v : View). v.log) (sym (s.2.views_are c near)))
