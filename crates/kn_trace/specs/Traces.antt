-- The board, the mutators and the collector of a run, and what one turn makes of them.
use Rattle.std.specs.Prelude.{◌≡◌, ℕ, zero, suc, ◌⊎◌, Bool, true, false, List, [], ◌∷◌, ◌++◌, length, map, Some, slice_get, slice_set}
use Rattle.kn_base.specs.declared.places.Place.TheVariants.{Phase}
use Rattle.kn_graph.specs.Logs.{calls_of}
use Rattle.kn_rule.specs.Decoding.{phase_of}
use Rattle.kn_schedule.specs.Asks.{Standing, standing_of}
use Rattle.kn_schedule.specs.Schedules.{IsNext, Left}
use Rattle.kn_steps.specs.declared.turns.Turn.{Turn}
use Rattle.kn_board.specs.World.{World, seat, seat_here, seat_stand, word_at, SeatDid, SeatMoved}
use Rattle.kn_collector.specs.declared.stage.Stage.{Stage}
use Rattle.kn_collector.specs.declared.stage.Stage.TheVariants as stages
use Rattle.kn_collector.specs.Kept.{Kept}
use Rattle.kn_collector.specs.Turns.{Turned as Collected}
use Rattle.kn_mutator.specs.declared.task.Task.{Task}
use Rattle.kn_mutator.specs.declared.task.Task.TheVariants.{Ended}
use Rattle.kn_mutator.specs.Mutating.{Mutating}
use Rattle.kn_mutator.specs.Turns.{Turned, lets_all}

-- the board, the mutators by thread, the collector, and what is left of the order of turns
pub record Trace : Type 0 where
  pub board : World
  pub mutators : List Mutating
  pub collector : Kept
  pub left : Left

abbrev pub is_end : Task → Bool
is_end Ended = true
is_end _ = false

abbrev pub is_over : Stage → Bool
is_over stages.Ended = true
is_over _ = false

-- whether each mutator has ended, and behind them the collector
abbrev pub ends : List Mutating → Kept → List Bool
ends mutators collector = map (λ m. is_end m.task) mutators ++ is_over collector.stage ∷ []

-- how many calls each mutator has answered, and behind them none of the collector
abbrev pub answers : List Mutating → List ℕ
answers mutators = map (λ m. length (calls_of m.log)) mutators ++ 0 ∷ []

-- what the order of turns is told of the actors and of the phase
abbrev pub standing_in : Trace → Standing
standing_in t = standing_of (ends t.mutators t.collector) (answers t.mutators) (phase_of (word_at t.board Phase)).code

-- a turn of a thread's mutator, on its seat; the other mutators and the collector stay
pub record IsThreadTurn (thread : ℕ) (t t' : Trace) : Type 0 where
  pub before : Mutating
  pub after : Mutating
  pub reply : Turn
  pub at : slice_get t.mutators thread ≡ Some before
  pub turned : Turned seat_stand seat_here SeatDid SeatMoved lets_all before (seat thread t.board) (seat thread t'.board) after reply
  pub mutators : t'.mutators ≡ slice_set t.mutators thread after
  pub collector : t'.collector ≡ t.collector

-- a turn of the collector, on the seat behind those of the threads; the mutators stay
pub record IsCollectorTurn (actor : ℕ) (t t' : Trace) : Type 0 where
  pub behind : actor ≡ length t.mutators
  pub reply : Turn
  pub turned : Collected seat_stand seat_here SeatDid t.collector (seat actor t.board) (seat actor t'.board) t'.collector reply
  pub mutators : t'.mutators ≡ t.mutators

-- one turn, of the actor whose turn it is
pub record IsTurn (t t' : Trace) : Type 0 where
  pub actor : ℕ
  pub next : IsNext (length t.mutators) (standing_in t) t.left actor t'.left
  pub turn : IsThreadTurn actor t t' ⊎ IsCollectorTurn actor t t'

-- so many turns lead from one to the other
abbrev pub Runs : ℕ → Trace → Trace → Type 0
Runs zero t t' = t' ≡ t
Runs (suc n) t t' = (mid : Trace) × Runs n t mid × IsTurn mid t'
