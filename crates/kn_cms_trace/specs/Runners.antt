-- What is kept of a run of a core, and what turns make of it.
use Rattle.std.specs.Prelude.{◌≡◌, ℕ, ◌≤◌, ◌⊎◌, Bool, true, false, List}
use Rattle.kn_script.specs.Scripts.{Scripted, ground_of}
use Rattle.kn_cms.specs.Stands.{StandsFor}
use Rattle.kn_cms_lists.specs.Kept.{Kept}
use Rattle.kn_schedule.specs.Schedules.{Left}
use Rattle.kn_cms_trace.specs.CoreRuns.{CoreRun, CoreHasEnded, CoreTurns, IsCoreRecord, IsCoreRunOf, IsCoreTurn, IsWholeRecord}

-- what the core keeps, of each actor whether it has ended and how many calls it has answered, and the order of turns
pub record Runner : Type 0 where
  pub core : Kept
  pub ended : List Bool
  pub answered : List ℕ
  pub left : Left

-- the core lives on the sizes and layouts of a script, and its threads have the script's calls
pub record IsOfScript (script : Scripted) (k : Kept) : Type 0 where
  pub ground : k.ground ≡ ground_of script
  pub calls : k.calls ≡ script.threads

-- the sizes, the layouts and the calls of each thread stay
pub record KeepsScript (k k' : Kept) : Type 0 where
  pub ground : k'.ground ≡ k.ground
  pub calls : k'.calls ≡ k.calls

-- what is kept of a run stands for it
pub record IsRunnerOf (k : Runner) (r : CoreRun) : Type 0 where
  pub core : StandsFor k.core r.state
  pub ended : r.ended ≡ k.ended
  pub answered : r.answered ≡ k.answered
  pub left : r.left ≡ k.left

-- what is kept stands afterwards for a run that one more turn makes of each run that it stood for before
abbrev pub RunnerTurns : Runner → Runner → Type 0
RunnerTurns k k' = (r : CoreRun) → IsRunnerOf k r → (r' : CoreRun) × IsRunnerOf k' r' × IsCoreTurn k.core.ground r r'

-- each actor has ended, and nothing was done; or one turn was made
abbrev pub TakesTurn : Bool → Runner → Runner → Type 0
TakesTurn true k k' = (k'.core ≡ k.core) × (k'.ended ≡ k.ended) × CoreHasEnded k.core.ground.sizes.threads k.ended
TakesTurn false k k' = RunnerTurns k k'

-- turns were made up to a limit, or until each actor had ended
pub record TakesTurns (limit : ℕ) (k k' : Runner) (r : CoreRun) : Type 0 where
  pub last : CoreRun
  pub turns : ℕ
  pub runs : CoreTurns k.core.ground turns r last
  pub stands : StandsFor k'.core last.state
  pub ended : last.ended ≡ k'.ended
  pub few : turns ≤ limit
  pub over : (turns ≡ limit) ⊎ CoreHasEnded k.core.ground.sizes.threads last.ended

-- what the core keeps stands for the state that a run of the script leaves; where each actor has ended all was done
pub record RanCore (script : Scripted) (is_spent : Bool) (k : Kept) : Type 0 where
  pub last : CoreRun
  pub run : IsCoreRunOf script is_spent last
  pub stands : StandsFor k last.state
  pub kept : IsCoreRecord script last.state
  pub whole : is_spent ≡ false → IsWholeRecord script last.state
