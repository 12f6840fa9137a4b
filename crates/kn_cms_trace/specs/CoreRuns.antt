-- Runs of a script on a core, in which each turn is one step.
use Rattle.std.specs.Prelude.{◌≡◌, ℕ, zero, suc, ◌+◌, ◌<◌, ◌≤◌, Bool, true, false, cond, nat_lt, List, length, replicate}
use Rattle.std.specs.Prelude.{slice_index_or, slice_set}
use Rattle.kn_base.specs.declared.kinds.Code.TheVariants.{Idle as idle}
use Rattle.kn_graph.specs.Ground.{Ground}
use Rattle.kn_graph.specs.Logs.{calls_of, log_of, IsComplete, IsPartial}
use Rattle.kn_lines.specs.declared.orders.Actor.{Actor}
use Rattle.kn_lines.specs.declared.orders.Actor.TheVariants.{Thread, Collector}
use Rattle.kn_script.specs.Scripts.{Scripted, ground_of}
use Rattle.kn_schedule.specs.Asks.{Standing, standing_of}
use Rattle.kn_schedule.specs.Schedules.{AllEnded, IsNext, Left, whole_order}
use Rattle.kn_cms_rule.specs.declared.stages.CmsTurn.{CmsTurn}
use Rattle.kn_cms_rule.specs.declared.stages.CmsTurn.TheVariants.{Done}
use Rattle.kn_cms_rule.specs.declared.stages.Stage.TheVariants.{Finished}
use Rattle.kn_cms_rule.specs.Words.{one_framed}
use Rattle.kn_cms_rule.specs.Calls.{IsCoreHistory}
use Rattle.kn_cms_rule.specs.State.{State, opening}
use Rattle.kn_cms_rule.specs.Turns.{TurnOf}
use Rattle.kn_cms_lists.specs.Kept.{calls_of_threads}

-- the state of the core; of each actor, whether it has ended and how many calls it has answered, where the collector stands
-- behind the threads; and what is left of the order of turns
pub record CoreRun : Type 0 where
  pub state : State
  pub ended : List Bool
  pub answered : List ℕ
  pub left : Left

-- the actor of a number: the threads by theirs, and the collector behind them
abbrev pub actor_at : ℕ → ℕ → Actor
actor_at threads i = cond (nat_lt i threads) (Thread i) Collector

-- an actor has ended that has answered so
abbrev pub is_done : CmsTurn → Bool
is_done Done = true
is_done _ = false

-- how many calls an actor has answered: a thread those of its log, and the collector none
abbrev pub answered_by : State → Actor → ℕ
answered_by s (Thread i) = length (calls_of (log_of i s.history))
answered_by s _ = 0

-- what the order of turns is told of the actors; a core has no phase, and is always told as idle
abbrev pub standing_in : List Bool → List ℕ → Standing
standing_in ended answered = standing_of ended answered idle

-- one turn, of the actor whose turn it is
pub record IsCoreTurn (z : Ground) (r r' : CoreRun) : Type 0 where
  pub actor : ℕ
  pub next : IsNext z.sizes.threads (standing_in r.ended r.answered) r.left actor r'.left
  pub turn : CmsTurn
  pub turned : TurnOf (one_framed z) r.state (actor_at z.sizes.threads actor) turn r'.state
  pub ended : r'.ended ≡ slice_set r.ended actor (is_done turn)
  pub answered : r'.answered ≡ slice_set r.answered actor (answered_by r'.state (actor_at z.sizes.threads actor))

-- so many turns lead from one to the other
abbrev pub CoreTurns : Ground → ℕ → CoreRun → CoreRun → Type 0
CoreTurns z zero r r' = r' ≡ r
CoreTurns z (suc n) r r' = (mid : CoreRun) × CoreTurns z n r mid × IsCoreTurn z mid r'

-- before the first turn of a script no actor has ended, and none has answered a call
abbrev pub core_start : Scripted → CoreRun
core_start script = record {
  state = opening (calls_of_threads script.threads);
  ended = replicate (script.sizes.threads + 1) false;
  answered = replicate (script.sizes.threads + 1) 0;
  left = whole_order script.order;
}

-- the actors have all ended, or some has not
abbrev pub CoreHasEnded : ℕ → List Bool → Type 0
CoreHasEnded threads ended = AllEnded (threads + 1) (λ i. slice_index_or ended i false)

abbrev pub CoreGoesOn : ℕ → List Bool → Type 0
CoreGoesOn threads ended = (i : ℕ) × (i < threads + 1) × (slice_index_or ended i false ≡ false)

-- why a run is over: each actor has ended, or the greatest number of turns was made and some actor has not ended
abbrev pub IsCoreOver : Scripted → Bool → ℕ → CoreRun → Type 0
IsCoreOver script false turns last = CoreHasEnded script.sizes.threads last.ended
IsCoreOver script true turns last = (turns ≡ script.turns) × CoreGoesOn script.sizes.threads last.ended

-- a run of the script comes to this, and is over; its turns were spent, or each actor has ended
pub record IsCoreRunOf (script : Scripted) (is_spent : Bool) (last : CoreRun) : Type 0 where
  pub turns : ℕ
  pub runs : CoreTurns (ground_of script) turns (core_start script) last
  pub few : turns ≤ script.turns
  pub over : IsCoreOver script is_spent turns last

-- the history is one of the core, and each thread's log answers the first of its calls
pub record IsCoreRecord (script : Scripted) (s : State) : Type 0 where
  pub is_history : IsCoreHistory (one_framed (ground_of script)) s.history
  pub partial : (i : ℕ) → i < script.sizes.threads → IsPartial (log_of i s.history) (calls_of_threads script.threads i)

-- each thread has answered its calls, and the collector has marked all
pub record IsWholeRecord (script : Scripted) (s : State) : Type 0 where
  pub complete : (i : ℕ) → i < script.sizes.threads → IsComplete (log_of i s.history) (calls_of_threads script.threads i)
  pub finished : s.stage ≡ Finished
