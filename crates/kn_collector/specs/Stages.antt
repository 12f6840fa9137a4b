-- What a collector does next: the step of each stage, the stage behind it, and what its turn answers.
use Rattle.std.specs.Prelude.{◌≡◌, ℕ, ◌+◌, ◌==◌, ◌≤◌, Bool, true, false, cond, List, [], ◌∷◌, Option, Some, None, nat_lt}
use Rattle.kn_base.specs.declared.kinds.Code.{Code}
use Rattle.kn_base.specs.declared.kinds.Code.TheVariants as codes
use Rattle.kn_base.specs.declared.places.Place.{Place}
use Rattle.kn_base.specs.declared.places.Place.TheVariants.{Phase, Want, Pending, State}
use Rattle.kn_base.specs.Words.{packed_phase}
use Rattle.kn_graph.specs.declared.entries.Entry.{Entry}
use Rattle.kn_rule.specs.declared.steps.Kind.TheVariants.{K2, K13, K14, K15, K16}
use Rattle.kn_rule.specs.declared.steps.Action.TheVariants.{Loads, Stores}
use Rattle.kn_rule.specs.Steps.{Step, does, more, pause_of}
use Rattle.kn_steps.specs.declared.turns.Turn.{Turn}
use Rattle.kn_steps.specs.declared.turns.Turn.TheVariants.{Moved, Idle, Done}
use Rattle.kn_mark.specs.declared.turn.MarkTurn.{MarkTurn}
use Rattle.kn_mark.specs.declared.turn.MarkTurn.TheVariants as marked
use Rattle.kn_mark.specs.Kept.{Kept as MarkerKept, started}
use Rattle.kn_collector.specs.declared.stage.Stage.{Stage}
use Rattle.kn_collector.specs.declared.stage.Stage.TheVariants.{Looks, Wants, Ends, Ended, Stops, Counts, Begins}
use Rattle.kn_collector.specs.declared.stage.Stage.TheVariants.{Marks, Marking, Pauses, Paused}
use Rattle.kn_collector.specs.Kept.{Kept}

-- the code of the phase that a collector at a stage stored last
abbrev pub code_at : Stage → Code
code_at (Counts i) = codes.StopA
code_at Begins = codes.StopA
code_at Marks = codes.StopA
code_at Marking = codes.Mark
code_at Pauses = codes.Mark
code_at Paused = codes.Weak
code_at _ = codes.Idle

abbrev pub phase_word : ℕ → Code → ℕ
phase_word epoch code = packed_phase (record { epoch = epoch; code = code })

-- the step of a stage; in Mark it is its marker that makes one
abbrev pub stage_step : Kept → Stage → Option Step
stage_step k (Looks i) = Some (does K15 (State i) Loads)
stage_step k (Wants all) = Some (does K13 Want Loads)
stage_step k Ends = Some (does K2 (State k.by) (Stores 2))
stage_step k Ended = None
stage_step k Stops = Some (does K14 Phase (Stores (phase_word (k.epoch + 1) codes.StopA)))
stage_step k (Counts i) = Some (does K15 (State i) Loads)
stage_step k Begins = Some (does K16 Pending (Stores (k.by + 2)))
stage_step k Marks = Some (does K14 Phase (Stores (phase_word k.epoch codes.Mark)))
stage_step k Marking = None
stage_step k Pauses = Some (does K14 Phase (Stores (phase_word k.epoch codes.Weak)))
stage_step k Paused = Some (does K15 (State 0) Loads)

-- behind mutator i of n, which has ended: the next one is looked at, and behind the last one all have ended
abbrev pub looked : ℕ → ℕ → Stage
looked n i = cond (nat_lt (i + 1) n) (Looks (i + 1)) (Wants true)

-- behind the epoch w that is wanted: an epoch above the last one is begun; where none is wanted and all have ended, it ends
abbrev pub chosen : Bool → ℕ → ℕ → Stage
chosen all epoch w = cond (nat_lt epoch w) Stops (cond all Ends (Looks 0))

-- behind mutator i of n, which was counted: the next one is counted, and behind the last one the marking is begun
abbrev pub counted : ℕ → ℕ → Stage
counted n i = cond (nat_lt (i + 1) n) (Counts (i + 1)) Begins

-- the stage behind the step of a stage that found the word w; a mutator that is in is waited for
abbrev pub stage_behind : Kept → Stage → ℕ → Stage
stage_behind k (Looks i) w = cond (w == 2) (looked k.by i) (Wants false)
stage_behind k (Wants all) w = chosen all k.epoch w
stage_behind k Ends w = Ended
stage_behind k Ended w = Ended
stage_behind k Stops w = Counts 0
stage_behind k (Counts i) w = cond (w == 1) (Counts i) (counted k.by i)
stage_behind k Begins w = Marks
stage_behind k Marks w = Marking
stage_behind k Marking w = Marking
stage_behind k Pauses w = Paused
stage_behind k Paused w = Paused

-- with a stop the next epoch begins
abbrev pub epoch_behind : Stage → ℕ → ℕ
epoch_behind Stops epoch = epoch + 1
epoch_behind _ epoch = epoch

-- with Mark its marker is started for the epoch
abbrev pub marker_behind : Stage → ℕ → MarkerKept → MarkerKept
marker_behind Marks epoch m = started m epoch
marker_behind _ epoch m = m

-- the entry that is made in the step of a stage: that of the pause, in the store of Weak
abbrev pub said_at : Kept → Stage → List Entry
said_at k Pauses = pause_of k.by k.epoch ∷ []
said_at k _ = []

abbrev pub behind : Kept → Stage → ℕ → Kept
behind k stage w = record k {
  epoch = epoch_behind stage k.epoch;
  stage = stage_behind k stage w;
  marker = marker_behind stage k.epoch k.marker;
  log = more k.log (said_at k stage);
}

-- what the turn of a stage answers that found the word w
abbrev pub answer_behind : Kept → Stage → ℕ → Turn
answer_behind k (Wants all) w = cond (nat_lt k.epoch w) Moved (cond all Moved (Idle Want w))
answer_behind k Ends w = Done
answer_behind k (Counts i) w = cond (w == 1) (Idle (State i) w) Moved
answer_behind k Paused w = Idle (State 0) w
answer_behind k _ w = Moved

-- behind a turn of its marker in Mark: the stage, and the answer
abbrev pub marked_stage : MarkTurn → Stage
marked_stage marked.Over = Pauses
marked_stage _ = Marking

abbrev pub marked_answer : MarkTurn → Turn
marked_answer (marked.Idle p w) = Idle p w
marked_answer _ = Moved

-- why a turn is idle at a place where it found the word w: no epoch is wanted, and not all mutators were seen ended; a mutator is
-- in; or the pause was stored
abbrev pub IsIdleFor : Kept → Stage → Place → ℕ → Type 0
IsIdleFor k (Wants all) p w = (p ≡ Want) × (w ≤ k.epoch) × (all ≡ false)
IsIdleFor k (Counts i) p w = (p ≡ State i) × (w ≡ 1)
IsIdleFor k Paused p w = p ≡ State 0
IsIdleFor k _ p w = ⊥
