-- How order words ask actors for turns. Actors are numbered here: the threads by their number, and the collector behind them.
use Rattle.std.specs.Prelude.{◌≡◌, ◌≢◌, ℕ, ◌+◌, ◌*◌, ◌%◌, ◌<◌, ◌≤◌, Bool, false, List, slice_index_or}
use Rattle.kn_base.specs.declared.kinds.Code.{Code}
use Rattle.kn_lines.specs.declared.orders.Actor.TheVariants.{Thread, Collector, Round}
use Rattle.kn_lines.specs.declared.orders.Until.{Until}
use Rattle.kn_lines.specs.declared.orders.Until.TheVariants as until
use Rattle.kn_lines.specs.declared.orders.OrderWord.{OrderWord}
use Rattle.kn_lines.specs.declared.orders.OrderWord.TheVariants.{Run}
use Rattle.kn_schedule.specs.declared.asking.Asking.{Asking}
use Rattle.kn_schedule.specs.declared.asking.TheConstants.{MOST_TURNS_WAITED}

-- how often a word asks at most: so many times, or 100,000 times where calls or a phase are waited for
abbrev pub times_of : Until → ℕ
times_of (until.Turns n) = n
times_of _ = MOST_TURNS_WAITED

-- so many asks for one actor
abbrev pub of_one : ℕ → ℕ → Until → Asking
of_one actor times end = record { times = times; made = 0; first = actor; actors = 1; until = end }

-- no asks
abbrev pub no_asks : Asking
no_asks = of_one 0 0 (until.Turns 0)

-- the asks of an order word: a thread or the collector is asked so often, and in each round all are asked once
abbrev pub asking_of : ℕ → OrderWord → Asking
asking_of threads (Run (Thread i) end) = of_one i (times_of end) end
asking_of threads (Run Collector end) = of_one threads (times_of end) end
asking_of threads (Run Round end) =
    record { times = times_of end * (threads + 1); made = 0; first = 0; actors = threads + 1; until = end }
asking_of threads _ = no_asks

-- the asks are for actors that are there
pub record AreForActors (actors : ℕ) (asking : Asking) : Type 0 where
  pub some : 1 ≤ asking.actors
  pub few : asking.first + asking.actors ≤ actors

-- the actor that an ask is for
abbrev pub asked : Asking → ℕ → ℕ
asked asking ask = asking.first + ask % asking.actors

-- what is known of actors: whether each has ended, and how many calls it has answered; and the code of the phase
pub record Standing : Type 0 where
  pub ended : ℕ → Bool
  pub answered : ℕ → ℕ
  pub code : Code

-- what two lists and a code tell
abbrev pub standing_of : List Bool → List ℕ → Code → Standing
standing_of ended answered code =
    record { ended = λ i. slice_index_or ended i false; answered = λ i. slice_index_or answered i 0; code = code }

-- turns are still wanted of an actor that has answered so many calls, in a phase of this code: always, while it has answered
-- fewer calls than so many, or while the phase has another code
abbrev pub IsWanted : Until → ℕ → Code → Type 0
IsWanted (until.Turns n) answered code = Unit {0}
IsWanted (until.Calls n) answered code = answered < n
IsWanted (until.Code p) answered code = code ≢ p

-- an ask takes a turn: the actor has not ended, and turns are still wanted of it
abbrev pub TakesTurn : Standing → Asking → ℕ → Type 0
TakesTurn standing asking ask =
    (standing.ended (asked asking ask) ≡ false) × IsWanted asking.until (standing.answered (asked asking ask)) standing.code
