-- The clauses of the rule on where callers stand, what they polled, and what they may own.
use Rattle.std.specs.Prelude.{◌≡◌, ◌≢◌, ℕ, ◌+◌, ◌<◌, ◌≤◌, ◌⊎◌, true, false, Bool, List, Option, Some}
use Rattle.std.specs.Prelude.{None, count_by, slice_get}
use Rattle.std.specs.List.{AllByRecursion, Contains}
use Rattle.kn_base.specs.declared.kinds.Code.{Code}
use Rattle.kn_base.specs.declared.kinds.Code.TheVariants as codes
use Rattle.kn_base.specs.declared.phase_word.PhaseWord.{PhaseWord}
use Rattle.kn_graph.specs.declared.calls.Call.{Call}
use Rattle.kn_graph.specs.declared.calls.Call.TheVariants.{Collect}
use Rattle.kn_graph.specs.declared.calls.Reply.TheVariants as replies
use Rattle.kn_graph.specs.declared.entries.Event.TheVariants as events
use Rattle.kn_graph.specs.declared.entries.Entry.{Entry}
use Rattle.kn_graph.specs.Logs.{calls_of}
use Rattle.kn_graph.specs.Ground.{Ground}
use Rattle.kn_rule.specs.declared.positions.Position.{Position}
use Rattle.kn_rule.specs.declared.positions.Position.TheVariants.{Out, Between, Calling, Writing, Dropping, Adding, Waiting, Leaving, Ended}
use Rattle.kn_rule.specs.Decoding.{phase_of}
use Rattle.kn_rule.specs.Phases.{is_stop}
use Rattle.kn_rule.specs.Views.{Open}
use Rattle.kn_rule.specs.Steps.{callers}
use Rattle.kn_marking.specs.Totals.{total}

-- in, from the entering load to the leaving one
abbrev pub IsIn : Position → Type 0
IsIn Between = Unit {0}
IsIn (Calling call) = Unit {0}
IsIn (Writing r w n) = Unit {0}
IsIn (Dropping x) = Unit {0}
IsIn (Adding n) = Unit {0}
IsIn Waiting = Unit {0}
IsIn _ = ⊥

-- in, and not waiting for an epoch
abbrev pub IsBusy : Position → Type 0
IsBusy Waiting = ⊥
IsBusy at = IsIn at

abbrev pub IsInOrLeaving : Position → Type 0
IsInOrLeaving Leaving = Unit {0}
IsInOrLeaving at = IsIn at

-- out, or ended
abbrev pub IsResting : Position → Type 0
IsResting Out = Unit {0}
IsResting Ended = Unit {0}
IsResting _ = ⊥

-- the state word of a position: 0 out, 2 ended, and else 1
abbrev pub state_number : Position → ℕ
state_number Out = 0
state_number Ended = 2
state_number _ = 1

-- the state word of a mutator, and of the collector, is that of its position; the collector and the finalizer are never in
pub record Stated (z : Ground) (word : ℕ → ℕ) (position : ℕ → Position) : Type 0 where
  pub each : (c : ℕ) → c ≤ z.sizes.threads → word c ≡ state_number (position c)
  pub resting : (c : ℕ) → z.sizes.threads ≤ c → c < callers z.sizes → IsResting (position c)

-- a mutator that the collector's view has as seen ended has ended; where the collector has ended, all have
pub record AtEnd (z : Ground) (position : ℕ → Position) (ended : ℕ → List Bool) : Type 0 where
  pub seen : (i : ℕ) → i < z.sizes.threads → slice_get (ended z.sizes.threads) i ≡ Some true → position i ≡ Ended
  pub all : position z.sizes.threads ≡ Ended → (i : ℕ) → i < z.sizes.threads → position i ≡ Ended

abbrev IsAt : PhaseWord → ℕ → Code → Type 0
IsAt now e code = (now.epoch ≡ e) × (now.code ≡ code)

abbrev IsSinceAt : ℕ → Code → PhaseWord → Type 0
IsSinceAt e codes.Idle now = IsAt now e codes.Idle ⊎ IsAt now (e + 1) codes.StopA
IsSinceAt e codes.Weak now = IsAt now e codes.Weak ⊎ IsAt now e codes.StopB
IsSinceAt e codes.Sweep now = IsAt now e codes.Sweep ⊎ IsAt now e codes.Idle ⊎ IsAt now (e + 1) codes.StopA
IsSinceAt e _ now = ⊥

-- a phase that was polled is a run phase, and the phase now is that one still, or the stop behind it; behind Sweep comes Idle,
-- and then the stop
abbrev pub IsSince : PhaseWord → PhaseWord → Type 0
IsSince polled now = IsSinceAt polled.epoch polled.code now

-- a target is at least 1, at most one above the last pause, at most the epoch wanted, and above each epoch in the log
abbrev pub IsTarget : ℕ → ℕ → Option ℕ → List Entry → Type 0
IsTarget paused want None log = Unit {0}
IsTarget paused want (Some n) log = (1 ≤ n) × (n ≤ paused + 1) × (n ≤ want) × AllByRecursion (λ entry. entry.epoch < n) log

-- one that waits has a target, and one that has ended has none
abbrev pub IsDue : Position → Option ℕ → Type 0
IsDue Waiting None = ⊥
IsDue Ended (Some n) = ⊥
IsDue _ target = Unit {0}

-- a mutator that is in polled a run phase, since which the phase went on by a stop at most; one that is in has a target exactly
-- where it waits, and one that has ended has none; and targets are within their limits
pub record Polled (z : Ground) (paused phase want : ℕ) (position : ℕ → Position) (polled : ℕ → ℕ) (target : ℕ → Option ℕ)
    (log : ℕ → List Entry) : Type 0 where
  pub since : (c : ℕ) → c < z.sizes.threads → IsIn (position c) → IsSince (phase_of (polled c)) (phase_of phase)
  pub untargeted : (c : ℕ) → c < z.sizes.threads → IsBusy (position c) → target c ≡ None
  pub due : (c : ℕ) → c < z.sizes.threads → IsDue (position c) (target c)
  pub targets : (c : ℕ) → c < z.sizes.threads → IsTarget paused want (target c) (log c)

abbrev pub MayOwn : Ground → ℕ → (ℕ → Position) → ℕ → Type 0
MayOwn z phase position c =
    ((c < z.sizes.threads) × IsInOrLeaving (position c)) ⊎ ((c ≡ z.sizes.threads) × ((phase_of phase).code ≡ codes.Sweep))

-- an owned frame belongs to a mutator that is in or leaving, or to the collector in Sweep
pub record Owners (z : Ground) (phase : ℕ) (position : ℕ → Position) (own : ℕ → ℕ → Option Open) : Type 0 where
  pub each : (c p : ℕ) (o : Open) → c < callers z.sizes → own c p ≡ Some o → MayOwn z phase position c

-- callers stand still in Mark and in Prep
abbrev pub IsStill : Code → Type 0
IsStill codes.Mark = Unit {0}
IsStill codes.Prep = Unit {0}
IsStill _ = ⊥

-- in Mark and in Prep no mutator is in or leaving; in a stop none is that was counted since the store of that phase
pub record Stopped (z : Ground) (phase : ℕ) (position : ℕ → Position) (counted : ℕ → List Bool) : Type 0 where
  pub still : IsStill (phase_of phase).code → (i : ℕ) → i < z.sizes.threads → ¬ IsInOrLeaving (position i)
  pub stopping : is_stop (phase_of phase).code ≡ true → (i : ℕ) → i < z.sizes.threads → slice_get (counted z.sizes.threads) i ≡ Some true →
      ¬ IsInOrLeaving (position i)

-- an epoch is the target of a `gc` that a mutator has begun: one that is not answered, or one in its log
abbrev pub HasAnswer : ℕ → List Entry → Type 0
HasAnswer e log = (entry : Entry) × Contains log entry × (entry.what ≡ events.Call Collect (replies.Epoch e) 0)

abbrev pub IsTargetOf : ℕ → Option ℕ → List Entry → Type 0
IsTargetOf e target log = (target ≡ Some e) ⊎ HasAnswer e log

abbrev pub IsWantedBySome : Ground → (ℕ → Option ℕ) → (ℕ → List Entry) → ℕ → Type 0
IsWantedBySome z target log e = (c : ℕ) × (c < z.sizes.threads) × IsTargetOf e (target c) (log c)

-- how many targets a caller has had: one for each `gc` in its log, and the one that it waits for
abbrev pub is_collect : Call → Bool
is_collect Collect = true
is_collect _ = false

abbrev pub targets_had : Option ℕ → List Entry → ℕ
targets_had None log = count_by is_collect (calls_of log)
targets_had (Some n) log = count_by is_collect (calls_of log) + 1

-- the epoch wanted is at least that of the phase, and the one that the collector loaded last; each epoch from 1 to it is the target
-- of a `gc` that some mutator has begun; and it is at most the number of targets
pub record Wanted (z : Ground) (phase want : ℕ) (target : ℕ → Option ℕ) (log : ℕ → List Entry) (loaded : ℕ) : Type 0 where
  pub reached : (phase_of phase).epoch ≤ want
  pub known : loaded ≤ want
  pub targets : (e : ℕ) → 1 ≤ e → e ≤ want → IsWantedBySome z target log e
  pub few : want ≤ total z.sizes.threads (λ c. targets_had (target c) (log c))

-- no marking is under way
abbrev pub IsAtRest : Code → Type 0
IsAtRest codes.StopA = ⊥
IsAtRest codes.Mark = ⊥
IsAtRest _ = Unit {0}

-- the marking is over but from its beginning in a stop on, until the collector sees it over in Mark; where it is over no work is open;
-- and before Mark a unit is open for each root set
pub record Working (z : Ground) (phase pending : ℕ) (over : Bool) : Type 0 where
  pub none : over ≡ true → pending ≡ 0
  pub all : (phase_of phase).code ≢ codes.Mark → over ≡ false → pending ≡ z.sizes.threads + 2
  pub at_rest : IsAtRest (phase_of phase).code → over ≡ true
