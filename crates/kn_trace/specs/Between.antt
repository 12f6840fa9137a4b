-- What holds between any two turns, and what a turn and a number of turns come to.
use Rattle.std.specs.Prelude.{◌≡◌, ℕ, ◌+◌, ◌<◌, ◌≤◌, ◌⊎◌, Bool, true}
use Rattle.std.specs.Prelude.{false, List, [], ◌∷◌, ◌++◌, length, map, Some, slice_get}
use Rattle.kn_graph.specs.declared.calls.Call.{Call}
use Rattle.kn_graph.specs.declared.entries.Entry.{Entry}
use Rattle.kn_rule.specs.Rule.{fresh}
use Rattle.kn_script.specs.Scripts.{Scripted, ground_of}
use Rattle.kn_schedule.specs.Schedules.{Left}
use Rattle.kn_steps.specs.declared.turns.Turn.{Turn}
use Rattle.kn_steps.specs.Turns.{MetUnswept}
use Rattle.kn_board.specs.World.{World, Sound, lies_at, stand_at, view_at, seat, seat_here, seat_stand, SeatDid, SeatMoved}
use Rattle.kn_others.specs.Laws.{NoneUnswept, Turn as TurnOf}
use Rattle.kn_alloc.specs.Agree.{IsSweeping}
use Rattle.kn_collector.specs.Agree.{Agrees as Collects}
use Rattle.kn_collector.specs.Kept.{Kept}
use Rattle.kn_collector.specs.Turns.{Turned as Collected}
use Rattle.kn_mutator.specs.Agree.{Agrees}
use Rattle.kn_mutator.specs.Mutating.{Mutating, new_mutating}
use Rattle.kn_mutator.specs.Turns.{Turned, lets_all}
use Rattle.kn_trace.specs.Traces.{IsTurn, Runs, Trace}
use Rattle.kn_trace.specs.Runs.{HaveEnded, calls_at}

-- the mutator agrees with what its thread knows on the board
abbrev pub AgreesAt : World → ℕ → Mutating → Type 0
AgreesAt w thread m = Agrees m (stand_at thread w) (lies_at w)

-- the collector agrees with what its caller knows on the board, the one behind the threads
abbrev pub CollectsAt : World → Kept → Type 0
CollectsAt w k = Collects k (stand_at w.heap.sizes.threads w)

-- each thread has a mutator, which agrees with what it knows, and so does the collector; no frame is unswept; and the finalizer's
-- caller has made no step
pub record Holds (t : Trace) : Type 0 where
  pub count : length t.mutators ≡ t.board.heap.sizes.threads
  pub agree : (thread : ℕ) (m : Mutating) → slice_get t.mutators thread ≡ Some m → AgreesAt t.board thread m
  pub collects : CollectsAt t.board t.collector
  pub swept : NoneUnswept t.board
  pub at_rest : view_at t.board (t.board.heap.sizes.threads + 1) ≡ fresh t.board.heap

abbrev pub calls_of_all : List Mutating → List (List Call)
calls_of_all = map (λ m. m.calls)

-- the sizes, the layouts and the calls of each thread stay
pub record Stays (t t' : Trace) : Type 0 where
  pub heap : t'.board.heap ≡ t.board.heap
  pub calls : calls_of_all t'.mutators ≡ calls_of_all t.mutators

-- the logs of the mutators, in order, that of the collector, and an empty one: that of the finalizer
abbrev pub logs_of : List Mutating → Kept → List (List Entry)
logs_of ms k = map (λ m. m.log) ms ++ k.log ∷ [] ∷ []

-- the actors of a run: the mutators and the collector, and what is left of the order of their turns
pub record Running : Type 0 where
  pub mutators : List Mutating
  pub collector : Kept
  pub left : Left

abbrev pub trace_of : World → Running → Trace
trace_of w r = record { board = w; mutators = r.mutators; collector = r.collector; left = r.left }

-- the mutators of the first n threads have made no turn, and each agrees with a caller that has made no step
pub record AreNew (script : Scripted) (n : ℕ) (mutators : List Mutating) : Type 0 where
  pub count : length mutators ≡ n
  pub each : (thread : ℕ) → thread < n →
      slice_get mutators thread ≡ Some (new_mutating (ground_of script) thread (calls_at script.threads thread))
  pub agree : (thread : ℕ) → thread < n → (here : ℕ → Bool) →
      Agrees (new_mutating (ground_of script) thread (calls_at script.threads thread))
      (record { heap = ground_of script; by = thread; view = fresh (ground_of script) }) here

-- the mutator of a thread made one turn on the board
pub record MakesTurn (w : World) (thread : ℕ) (m : Mutating) (w' : World) (m' : Mutating) : Type 0 where
  pub sound : Sound w
  pub reply : Turn
  pub turned : Turned seat_stand seat_here SeatDid SeatMoved lets_all m (seat thread w) (seat thread w') m' reply
  pub one : TurnOf thread w w'
  pub agrees : (¬ IsSweeping m'.alloc.stage) → AgreesAt w' thread m'
  pub unswept : IsSweeping m'.alloc.stage → MetUnswept seat_stand seat_here SeatDid SeatMoved (seat thread w) (seat thread w')

-- the collector made one turn on the board, as caller c
pub record MakesCollection (w : World) (c : ℕ) (k : Kept) (w' : World) (k' : Kept) : Type 0 where
  pub sound : Sound w
  pub reply : Turn
  pub turned : Collected seat_stand seat_here SeatDid k (seat c w) (seat c w') k' reply
  pub one : TurnOf c w w'
  pub agrees : Collects k' (stand_at c w')

-- all actors have ended, and nothing was done; or one turn was made
abbrev pub Takes : Bool → Trace → Trace → Type 0
Takes true t t' = (t'.board ≡ t.board) × (t'.mutators ≡ t.mutators) × (t'.collector ≡ t.collector) × HaveEnded t.mutators t.collector
Takes false t t' = IsTurn t t'

-- turns were made up to a limit, or until all actors had ended, and left the board, the mutators and the collector so
pub record TakesAll (limit : ℕ) (t t' : Trace) : Type 0 where
  pub turns : ℕ
  pub last : Trace
  pub runs : Runs turns t last
  pub few : turns ≤ limit
  pub board : last.board ≡ t'.board
  pub mutators : last.mutators ≡ t'.mutators
  pub collector : last.collector ≡ t'.collector
  pub over : (turns ≡ limit) ⊎ HaveEnded last.mutators last.collector
