-- Legal histories: lists of entries that replay from the empty graph.
use Rattle.std.specs.Prelude.{◌≡◌, ℕ, ◌+◌, ◌<◌, ◌≤◌, List, [], ◌∷◌}
use Rattle.kn_graph.specs.declared.calls.Call.{Call}
use Rattle.kn_graph.specs.declared.calls.Reply.{Reply}
use Rattle.kn_graph.specs.declared.entries.Event.{Event}
use Rattle.kn_graph.specs.declared.entries.Event.TheVariants as events
use Rattle.kn_graph.specs.declared.entries.Entry.{Entry}
use Rattle.kn_graph.specs.Ground.{Ground}
use Rattle.kn_graph.specs.Graph.{Graph, empty_graph, with_entered}
use Rattle.kn_graph.specs.Arguments.{IsInRange}
use Rattle.kn_graph.specs.Answers.{MayAnswer}
use Rattle.kn_graph.specs.Collections.{PauseFollows, ReleaseFollows, QueueFollows, FinalizeFollows, DoneFollows}

-- a call that a mutator made is answered, and as many pauses have come as its epoch says
pub record CallFollows (z : Ground) (by epoch : ℕ) (call : Call) (reply : Reply) (address : ℕ) (g g' : Graph) : Type 0 where
  pub by_thread : by < z.sizes.threads
  pub epoch_is : epoch ≡ g.paused
  pub in_range : IsInRange z call
  pub answer : MayAnswer z by call g reply address g'

-- a mutator or the collector did something, and as many pauses have come as its epoch says
pub record IsBySweeper (z : Ground) (by epoch : ℕ) (g : Graph) : Type 0 where
  pub by_sweeper : by ≤ z.sizes.threads
  pub epoch_is : epoch ≡ g.paused

-- the collector did something in this epoch
pub record IsByCollector (z : Ground) (by epoch e : ℕ) : Type 0 where
  pub by_collector : by ≡ z.sizes.threads
  pub epoch_is : epoch ≡ e

-- the finalizer did something, which has the epoch 0
pub record IsByFinalizer (z : Ground) (by epoch : ℕ) : Type 0 where
  pub by_finalizer : by ≡ z.sizes.threads + 1
  pub epoch_is : epoch ≡ 0

-- the event is legal next, and leads from one graph to the other
abbrev pub EventFollows : Ground → ℕ → ℕ → Event → Graph → Graph → Type 0
EventFollows z by epoch (events.Call call reply address) g g' = CallFollows z by epoch call reply address g g'
EventFollows z by epoch (events.Pause e) g g' = IsByCollector z by epoch e × PauseFollows e g g'
EventFollows z by epoch (events.Released a) g g' = IsBySweeper z by epoch g × ReleaseFollows a g g'
EventFollows z by epoch (events.Queued a) g g' = IsBySweeper z by epoch g × QueueFollows a g g'
EventFollows z by epoch (events.Finalized a c n) g g' = IsByFinalizer z by epoch × FinalizeFollows a c n g g'
EventFollows z by epoch (events.Done e) g g' = IsByCollector z by epoch e × DoneFollows e g g'

-- the entry is legal next, and the graph after it keeps its epoch as that of the caller's last entry
pub record Follows (z : Ground) (entry : Entry) (g g' : Graph) : Type 0 where
  pub graph : Graph
  pub event : EventFollows z entry.by.0 entry.epoch entry.what g graph
  pub after : g' ≡ with_entered graph entry.by.0 entry.epoch

-- the entries lead from one graph to the other, each legal at its point
abbrev pub Leads : Ground → Graph → List Entry → Graph → Type 0
Leads z g [] g' = g ≡ g'
Leads z g (entry ∷ entries) g' = (mid : Graph) × Follows z entry g mid × Leads z mid entries g'

-- the entries replay from the empty graph
abbrev pub IsLegal : Ground → List Entry → Type 0
IsLegal z entries = (last : Graph) × Leads z empty_graph entries last
