-- Runs of a script, in which each turn is one step of the heap, or one move of a page.
use Rattle.std.specs.Prelude.{◌≡◌, ℕ, ◌+◌, ◌<◌, ◌≤◌, Bool, true, false, List, [], length, Some, slice_get}
use Rattle.std.specs.Prelude.{slice_index_or}
use Rattle.std.specs.List.{AllByRecursion}
use Rattle.kn_base.specs.Pages.{FrameView}
use Rattle.kn_graph.specs.declared.calls.Call.{Call}
use Rattle.kn_graph.specs.declared.entries.Entry.{Entry}
use Rattle.kn_graph.specs.Logs.{log_of, IsComplete, IsPartial}
use Rattle.kn_rule.specs.Allowed.{IsBuilt}
use Rattle.kn_schedule.specs.Schedules.{AllEnded, whole_order}
use Rattle.kn_script.specs.Scripts.{Scripted, ground_of}
use Rattle.kn_board.specs.Open.{AreWhole, opened}
use Rattle.kn_board.specs.World.{World}
use Rattle.kn_collector.specs.Kept.{Kept, new_kept}
use Rattle.kn_mutator.specs.Mutating.{Mutating, new_mutating}
use Rattle.kn_trace.specs.Traces.{Trace, Runs, ends}

-- the calls of a thread of the script; none past the last thread
abbrev pub calls_at : List (List Call) → ℕ → List Call
calls_at threads thread = slice_index_or threads thread []

-- every call is built
abbrev pub AreBuilt : List (List Call) → Type 0
AreBuilt threads = AllByRecursion (AllByRecursion IsBuilt) threads

-- the opened board, for each thread a mutator that has made no turn, a collector that has made none, and the order words
pub record IsStart (script : Scripted) (t : Trace) : Type 0 where
  pub pages : List FrameView
  pub whole : AreWhole script.sizes pages
  pub board : t.board ≡ opened (ground_of script) pages
  pub count : length t.mutators ≡ length script.threads
  pub mutators : (thread : ℕ) → thread < length script.threads →
      slice_get t.mutators thread ≡ Some (new_mutating (ground_of script) thread (calls_at script.threads thread))
  pub collector : t.collector ≡ new_kept (ground_of script)
  pub left : t.left ≡ whole_order script.order

-- so many turns of a run of the script lead here, no more than the greatest number of turns
pub record IsRunTo (script : Scripted) (turns : ℕ) (last : Trace) : Type 0 where
  pub start : Trace
  pub is_start : IsStart script start
  pub runs : Runs turns start last
  pub few : turns ≤ script.turns

-- every thread and the collector have ended
abbrev pub HaveEnded : List Mutating → Kept → Type 0
HaveEnded mutators collector = AllEnded (length mutators + 1) (λ i. slice_index_or (ends mutators collector) i false)

-- some thread or the collector has not ended
abbrev pub IsGoingOn : List Mutating → Kept → Type 0
IsGoingOn mutators collector =
    (actor : ℕ) × (actor < length mutators + 1) × (slice_index_or (ends mutators collector) actor false ≡ false)

-- why a run is over: every actor has ended, or the greatest number of turns was made and some actor has not ended
abbrev pub IsOverAs : Scripted → Bool → ℕ → Trace → Type 0
IsOverAs script false turns last = HaveEnded last.mutators last.collector
IsOverAs script true turns last = (turns ≡ script.turns) × IsGoingOn last.mutators last.collector

-- a run of the script leaves this board, and is over; its turns were spent, or every actor has ended
pub record IsRunOf (script : Scripted) (is_spent : Bool) (board : World) : Type 0 where
  pub turns : ℕ
  pub last : Trace
  pub run : IsRunTo script turns last
  pub board_is : last.board ≡ board
  pub over : IsOverAs script is_spent turns last

-- each thread's log is complete
abbrev pub AreComplete : Scripted → List Entry → Type 0
AreComplete script history = (thread : ℕ) → IsComplete (log_of thread history) (calls_at script.threads thread)

-- each thread's log answers the first of its calls
abbrev pub ArePartial : Scripted → List Entry → Type 0
ArePartial script history = (thread : ℕ) → IsPartial (log_of thread history) (calls_at script.threads thread)
