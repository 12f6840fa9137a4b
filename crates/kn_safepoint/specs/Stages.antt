-- What a safepoint does next: the step of each stage, the stage behind it, and what its turn answers.
use Rattle.std.specs.Prelude.{ℕ, Bool, true, false, cond, Option}
use Rattle.kn_base.specs.declared.kinds.Code.{Code}
use Rattle.kn_base.specs.declared.kinds.Code.TheVariants as codes
use Rattle.kn_base.specs.declared.phase_word.PhaseWord.{PhaseWord}
use Rattle.kn_base.specs.declared.places.Place.TheVariants.{Phase, State}
use Rattle.kn_graph.specs.declared.calls.Call.{Call}
use Rattle.kn_rule.specs.declared.steps.Kind.TheVariants.{K1, K2}
use Rattle.kn_rule.specs.declared.steps.Action.TheVariants.{LoadsFor, Stores}
use Rattle.kn_rule.specs.Decoding.{phase_of}
use Rattle.kn_rule.specs.Phases.{is_run}
use Rattle.kn_rule.specs.Steps.{Step, does}
use Rattle.kn_safepoint.specs.declared.stage.Stage.{Stage}
use Rattle.kn_safepoint.specs.declared.stage.Stage.TheVariants.{Out, GoesIn, Enters, GoesBack, In}
use Rattle.kn_safepoint.specs.declared.stage.Enter.{Enter}
use Rattle.kn_safepoint.specs.declared.stage.Enter.TheVariants as enters

-- caller c stores that it is out
abbrev pub leave_step : ℕ → Step
leave_step c = does K2 (State c) (Stores 0)

-- the step of a stage of caller c: a poll for the next call, if one; or a store of its state
abbrev pub stage_step : Stage → ℕ → Option Call → Step
stage_step Out c next = does K1 Phase (LoadsFor next)
stage_step GoesIn c next = does K2 (State c) (Stores 1)
stage_step Enters c next = does K1 Phase (LoadsFor next)
stage_step GoesBack c next = leave_step c
stage_step In c next = leave_step c

-- the stage behind the step of a stage that found the word w: a run phase lets it go on, and another one keeps it out
abbrev pub stage_behind : Stage → ℕ → Stage
stage_behind Out w = cond (is_run (phase_of w).code) GoesIn Out
stage_behind GoesIn w = Enters
stage_behind Enters w = cond (is_run (phase_of w).code) In GoesBack
stage_behind GoesBack w = Out
stage_behind In w = Out

-- one that is out is idle in these phases, where it loaded the word w of the epoch e, and may help in Mark
abbrev pub looked : ℕ → ℕ → Code → Enter
looked w e codes.StopA = enters.Idle Phase w
looked w e codes.StopB = enters.Idle Phase w
looked w e codes.Prep = enters.Idle Phase w
looked w e codes.Mark = enters.Help e
looked w e _ = enters.Moved

abbrev pub entered : PhaseWord → Bool → Enter
entered v true = enters.In v
entered v false = enters.Moved

-- what the turn of a stage answers that found the word w
abbrev pub answer_behind : Stage → ℕ → Enter
answer_behind Out w = looked w (phase_of w).epoch (phase_of w).code
answer_behind Enters w = entered (phase_of w) (is_run (phase_of w).code)
answer_behind _ w = enters.Moved
