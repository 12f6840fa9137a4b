-- How a run of a core may end.
use Rattle.std.specs.Prelude.{◌≡◌, ℕ, ◌<◌, Bool, true, Option, Some, List}
use Rattle.kn_script.specs.Scripts.{Scripted, ground_of}
use Rattle.kn_io.specs.Devices.{Devices}
use Rattle.kn_cms.specs.declared.words.TheConstants.{CORE_WORDS}
use Rattle.kn_cms_trace.specs.CoreRuns.{CoreRun, IsCoreRecord, IsCoreRunOf, IsWholeRecord}
use Rattle.kn_cms_trace.specs.Enough.{enough_turns}
use Rattle.kn_cms_trace.specs.RunLaws.{IsCoreScript}
use Rattle.kn_cms_report.specs.CoreReports.{IsCoreText}
use Rattle.kn_commands.specs.declared.status.Status.{Status}
use Rattle.kn_commands.specs.declared.status.Status.TheVariants as ends
use Rattle.kn_commands.specs.Ends.{IsEnd, IsReported}

-- what the run of a script of the core leaves: the turns were spent with some actor not ended, and were fewer than are enough, or
-- each has ended; the history is one of the core, and each thread's log answers the first of its calls
pub record IsCoreLeft (script : Scripted) (is_spent : Bool) (last : CoreRun) : Type 0 where
  pub is_script : IsCoreScript script
  pub is_run : IsCoreRunOf script is_spent last
  pub spent_below : is_spent ≡ true → script.turns < enough_turns script
  pub kept : IsCoreRecord script last.state

-- the report of the run of a core: each thread answered all its calls, the collector has marked all, and the text tells it
pub record IsCoreReport (script : Scripted) (last : CoreRun) (text : List ℕ) : Type 0 where
  pub whole : IsWholeRecord script last.state
  pub text_is : IsCoreText (ground_of script) last.state text

-- a run of a core was made: what it left, and the report, if there is one
pub record RanOnCore (script : Scripted) (is_spent : Bool) (report : Option (List ℕ)) : Type 0 where
  pub last : CoreRun
  pub left : IsCoreLeft script is_spent last
  pub reported : IsReported CORE_WORDS IsCoreLeft IsCoreReport script last report

-- how a run of a core ends
abbrev pub IsCmsEnd : Devices → Devices → Status → Type 0
IsCmsEnd old new status = (left : Option CoreRun) × IsEnd CORE_WORDS IsCoreLeft IsCoreReport old new status left

-- of the same bytes, where they are told, no run of a core ends with `Ok` and another with `turns spent`
abbrev pub OkAndSpentApart : Type 0
OkAndSpentApart = (bytes : List ℕ) (a a' b b' : Devices) → a.left ≡ Some bytes → b.left ≡ Some bytes →
    IsCmsEnd a a' ends.Ok → IsCmsEnd b b' ends.Spent → ⊥
