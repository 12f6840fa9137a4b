-- What a mutator does next: the step of each task, and the task behind it.
use Rattle.std.specs.Prelude.{ℕ, ◌+◌, Bool, true, false, cond, List, length, Option, Some, None, is_some, nat_le, nat_lt, slice_get, slice_index}
use Rattle.kn_base.specs.declared.classes.TheConstants.{SINGLE_CLASS}
use Rattle.kn_base.specs.declared.kinds.Code.{Code}
use Rattle.kn_base.specs.declared.kinds.Code.TheVariants as codes
use Rattle.kn_base.specs.declared.phase_word.PhaseWord.{PhaseWord}
use Rattle.kn_base.specs.declared.places.Place.TheVariants.{Phase, Want, State, Local, Global, Body}
use Rattle.kn_graph.specs.declared.calls.Call.{Call}
use Rattle.kn_graph.specs.declared.calls.Call.TheVariants.{Copy, Clear, Get, Set, Put, Read, GlobalSet, GlobalGet, Collect}
use Rattle.kn_graph.specs.Counts.{makes_object}
use Rattle.kn_rule.specs.declared.steps.Kind.TheVariants.{K1, K2, K3, K4, K5, K6, K7, K13}
use Rattle.kn_rule.specs.declared.steps.Action.TheVariants.{Loads, LoadsFor, Stores, Raises}
use Rattle.kn_rule.specs.declared.positions.Position.{Position}
use Rattle.kn_rule.specs.declared.positions.Position.TheVariants as positions
use Rattle.kn_rule.specs.Decoding.{phase_of}
use Rattle.kn_rule.specs.Phases.{is_run, last_done}
use Rattle.kn_rule.specs.Steps.{Step, does}
use Rattle.kn_rule.specs.Views.{View, flattened}
use Rattle.kn_steps.specs.declared.turns.Turn.{Turn}
use Rattle.kn_steps.specs.declared.turns.Turn.TheVariants.{Moved, Idle}
use Rattle.kn_safepoint.specs.declared.stage.Stage.{Stage}
use Rattle.kn_safepoint.specs.declared.stage.Stage.TheVariants as stages
use Rattle.kn_safepoint.specs.declared.stage.Enter.{Enter}
use Rattle.kn_safepoint.specs.declared.stage.Enter.TheVariants as enters
use Rattle.kn_safepoint.specs.Stages.{answer_behind as safepoint_answer}
use Rattle.kn_alloc.specs.declared.stage.Hand.{Hand}
use Rattle.kn_alloc.specs.declared.stage.Stage.{Stage as AllocStage}
use Rattle.kn_alloc.specs.declared.stage.Stage.TheVariants.{Resting}
use Rattle.kn_mark.specs.declared.turn.MarkTurn.{MarkTurn}
use Rattle.kn_mark.specs.declared.turn.MarkTurn.TheVariants as marks
use Rattle.kn_mark.specs.Kept.{Kept, started}
use Rattle.kn_mutator.specs.declared.task.Task.{Task}
use Rattle.kn_mutator.specs.declared.task.Task.TheVariants.{Out, Helps, GoesIn, Enters, Polls, Calls, Births, Writes, Waits}
use Rattle.kn_mutator.specs.declared.task.Task.TheVariants.{SendsSingle, Leaves, Ends, Ended}
use Rattle.kn_mutator.specs.Mutating.{Mutating}

-- the call that is begun next, where the gate lets it pass
abbrev pub next_call : Mutating → Bool → Option Call
next_call m passed = cond passed (slice_get m.calls m.begun) None

-- the step that a call makes next, for the epoch and the locals of thread c and the header that was read; none of a call whose cell is to be
-- got, or that the poll answers
abbrev pub call_step : ℕ → ℕ → (ℕ → ℕ) → Call → Option ℕ → Option Step
call_step c e local (Copy r s) h = Some (does K3 (Local c r) (Stores (local s)))
call_step c e local (Clear r) h = Some (does K3 (Local c r) (Stores 0))
call_step c e local (Get r s i) None = Some (does K4 (Body (local s)) Loads)
call_step c e local (Get r s i) (Some h) = Some (does K4 (Body (local s + 1 + i)) Loads)
call_step c e local (Set s i r) None = Some (does K4 (Body (local s)) Loads)
call_step c e local (Set s i r) (Some h) = Some (does K5 (Body (local s + 1 + i)) (Stores (local r)))
call_step c e local (Put s i n) None = Some (does K4 (Body (local s)) Loads)
call_step c e local (Put s i n) (Some h) = Some (does K5 (Body (local s + 1 + i)) (Stores n))
call_step c e local (Read s i) None = Some (does K4 (Body (local s)) Loads)
call_step c e local (Read s i) (Some h) = Some (does K4 (Body (local s + 1 + i)) Loads)
call_step c e local (GlobalSet i r) h = Some (does K7 (Global i) (Stores (local r)))
call_step c e local (GlobalGet r i) h = Some (does K6 (Global i) Loads)
call_step c e local Collect h = Some (does K13 Want (Raises (e + 1)))
call_step c e local _ h = None

abbrev pub local_kept : Mutating → ℕ → ℕ
local_kept m r = slice_index m.locals r

-- the step of a poll for the next call, if one
abbrev pub poll_for : Option Call → Step
poll_for next = does K1 Phase (LoadsFor next)

-- the step of a task where it asks nothing of a gate, of the allocator and of the marker; one that enters asks no gate where it wants an epoch
abbrev pub task_step : Mutating → Task → Option Step
task_step m Out = Some (poll_for None)
task_step m GoesIn = Some (does K2 (State m.by) (Stores 1))
task_step m Enters = Some (poll_for None)
task_step m (Calls call h) = call_step m.by m.epoch (local_kept m) call h
task_step m (Writes r w) = Some (does K3 (Local m.by r) (Stores w))
task_step m Waits = Some (poll_for None)
task_step m _ = None

-- a page for a single object is in hand
abbrev pub has_single : List (Option Hand) → Bool
has_single hands = is_some (flattened (slice_get hands SINGLE_CLASS))

-- a call is left to begin
abbrev pub has_left : Mutating → Bool
has_left m = nat_lt m.begun (length m.calls)

-- between two calls: the end where no call is left, a single page goes home, or the next call is polled for
abbrev pub rest_task : Bool → Bool → Task
rest_task false single = Ends
rest_task true true = SendsSingle
rest_task true false = Polls

abbrev pub calling_task : Bool → Call → Option ℕ → Task
calling_task true call h = Births call
calling_task false call h = Calls call h

-- what is done next by a caller that stands so, with this header read
abbrev pub task_at : Bool → Bool → Option ℕ → Position → Task
task_at left single h positions.Out = Out
task_at left single h positions.Entering = Enters
task_at left single h positions.Between = rest_task left single
task_at left single h (positions.Calling call) = calling_task (makes_object call) call h
task_at left single h (positions.Writing r w n) = Writes r w
task_at left single h positions.Waiting = Waits
task_at left single h positions.Leaving = Leaves
task_at left single h _ = Ended

-- what the mutator m does next where its view is v
abbrev pub task_by : Mutating → View → Task
task_by m v = task_at (has_left m) (has_single m.alloc.hands) v.header v.position

-- behind a poll for a call the caller goes out where it found no run phase, and polls again where the gate let no call pass
abbrev pub polled_task : Bool → ℕ → Mutating → View → Task
polled_task passed w m v = cond (is_run (phase_of w).code) (cond passed (task_by m v) Polls) Leaves

-- the task of one that is out, where the phase is of this code: a run phase lets it go in, and in Mark it helps
abbrev pub task_out : Code → Task
task_out codes.Idle = GoesIn
task_out codes.Weak = GoesIn
task_out codes.Sweep = GoesIn
task_out codes.Mark = Helps
task_out _ = Out

-- the task behind a step that found the word w, where the mutator is m and its view v behind it; one that is out goes as the phase
-- says, and one that enters goes out where it found no run phase
abbrev pub task_behind : Task → ℕ → Mutating → View → Task
task_behind Out w m v = task_out (phase_of w).code
task_behind Enters w m v = cond (is_run (phase_of w).code) (task_by m v) Leaves
task_behind _ w m v = task_by m v

-- a marker behind a phase that was loaded: Mark starts it for its epoch
abbrev pub started_at : Code → ℕ → Kept → Kept
started_at codes.Mark e k = started k e
started_at _ e k = k

abbrev pub started_by : PhaseWord → Kept → Kept
started_by v k = started_at v.code v.epoch k

-- the marker k behind a step that found the word w: one that is out starts it where it loaded Mark, and any other leaves it as it was
abbrev pub marker_behind : Task → ℕ → Kept → Kept
marker_behind Out w k = started_by (phase_of w) k
marker_behind _ w k = k

-- the task behind a turn of its marker: where the marking is over it is out again
abbrev pub task_helped : MarkTurn → Task
task_helped marks.Over = Out
task_helped _ = Helps

-- what a turn comes to, for what the marker answered
abbrev pub helped : MarkTurn → Turn
helped (marks.Idle p w) = Idle p w
helped _ = Moved

-- what a turn comes to, for what the safepoint answered: one that may help goes on
abbrev pub told : Enter → Turn
told (enters.Idle p w) = Idle p w
told _ = Moved

-- the task of one that is out and does not help, for the stage of its safepoint
abbrev pub task_for : Stage → Task
task_for stages.GoesIn = GoesIn
task_for _ = Out

abbrev pub idle_at : ℕ → Bool → Turn
idle_at w true = Idle Phase w
idle_at w false = Moved

-- a poll is idle where the gate let no call pass in a run phase
abbrev pub polled_answer : Bool → ℕ → Turn
polled_answer passed w = cond passed Moved (idle_at w (is_run (phase_of w).code))

-- the epoch n is done at the phase word w
abbrev pub is_done : ℕ → ℕ → Bool
is_done n w = nat_le n (last_done (phase_of w))

-- one that wants an epoch waits on in a run phase where that epoch is not done
abbrev pub waits_on : Option ℕ → ℕ → Bool
waits_on None w = false
waits_on (Some n) w = cond (is_done n w) false (is_run (phase_of w).code)

-- what the turn of such a task answers: one that is out is told by its safepoint, and it is idle where a target is waited for on
abbrev pub answer_behind : Task → Option ℕ → ℕ → Turn
answer_behind Out target w = told (safepoint_answer stages.Out w)
answer_behind Enters target w = idle_at w (waits_on target w)
answer_behind Waits target w = idle_at w (waits_on target w)
answer_behind _ target w = Moved

-- a single page is home where its frame was given back
abbrev pub single_task : AllocStage → Task
single_task Resting = Polls
single_task _ = SendsSingle

-- the task behind a turn in which a page goes home: pages that are not single go on until none is in hand
abbrev pub task_home : Task → AllocStage → Task
task_home SendsSingle stage = single_task stage
task_home task stage = task
