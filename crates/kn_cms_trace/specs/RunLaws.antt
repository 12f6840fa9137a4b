-- The laws of runs of a core.
use Rattle.std.specs.Prelude.{◌≡◌, ℕ, Bool, true}
use Rattle.std.specs.List.{AllByRecursion}
use Rattle.kn_script.specs.Scripts.{Scripted, ground_of}
use Rattle.kn_script.specs.Good.{IsGoodScript}
use Rattle.kn_cms_rule.specs.Calls.{is_core_call}
use Rattle.kn_cms_trace.specs.CoreRuns.{CoreRun, CoreTurns, IsCoreRunOf, core_start}

-- a script of the core: it is good, and each of its calls is one of the core's
pub record IsCoreScript (script : Scripted) : Type 0 where
  pub good : IsGoodScript script
  pub calls : AllByRecursion (AllByRecursion (λ call. is_core_call call ≡ true)) script.threads

-- from the start of a script so many turns come to one state
abbrev pub TurnsComeToOne : Type 0
TurnsComeToOne = (script : Scripted) (n : ℕ) (r r' : CoreRun) → IsCoreScript script →
    CoreTurns (ground_of script) n (core_start script) r → CoreTurns (ground_of script) n (core_start script) r' → r ≡ r'

-- a script has one run: two that are over both come to one state, with their turns spent or not
abbrev pub RunsAreOne : Type 0
RunsAreOne = (script : Scripted) (a b : Bool) (r r' : CoreRun) → IsCoreScript script → IsCoreRunOf script a r → IsCoreRunOf script b r' →
    (a ≡ b) × (r ≡ r')
