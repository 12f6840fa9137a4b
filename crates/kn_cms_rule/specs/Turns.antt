-- What a turn of an actor answers, and which step it makes.
use Rattle.std.specs.Prelude.{◌≡◌, ◌≢◌, ℕ, ◌<◌, ◌↔◌, List, [], ◌∷◌}
use Rattle.kn_graph.specs.declared.calls.Call.{Call}
use Rattle.kn_graph.specs.Ground.{Ground}
use Rattle.kn_lines.specs.declared.orders.Actor.{Actor}
use Rattle.kn_lines.specs.declared.orders.Actor.TheVariants.{Thread, Collector}
use Rattle.kn_cms_rule.specs.declared.stages.CmsTurn.{CmsTurn}
use Rattle.kn_cms_rule.specs.declared.stages.CmsTurn.TheVariants.{Moved, Idle, Done}
use Rattle.kn_cms_rule.specs.declared.stages.Doing.TheVariants.{Free}
use Rattle.kn_cms_rule.specs.declared.stages.Stage.{Stage}
use Rattle.kn_cms_rule.specs.declared.stages.Stage.TheVariants.{Waiting, Finished}
use Rattle.kn_cms_rule.specs.State.{State}
use Rattle.kn_cms_rule.specs.Steps.{ThreadStep, CollectorStep}

-- who may take turns: a thread of the heap, or the collector
abbrev pub MayTurn : Ground → Actor → Type 0
MayTurn z (Thread i) = i < z.sizes.threads
MayTurn z Collector = Unit {0}
MayTurn z _ = ⊥

-- the thread is the first one in the middle of a call
pub record IsFirstInMiddle (z : Ground) (s : State) (i : ℕ) : Type 0 where
  pub is_thread : i < z.sizes.threads
  pub in_middle : s.doing i ≢ Free
  pub first : (j : ℕ) → j < i → s.doing j ≡ Free

-- what a thread answers that has these calls left
abbrev pub thread_answer : List Call → CmsTurn
thread_answer [] = Done
thread_answer (call ∷ rest) = Moved

-- a thread without a call left ends, and another one makes a step
pub data ThreadTurn (z : Ground) (s : State) (i : ℕ) : CmsTurn → State → Type 0 where
  ended : s.left i ≡ [] → ThreadTurn z s i Done s
  stepped : {s' : State} → ThreadStep z s i s' → ThreadTurn z s i (thread_answer (s'.left i)) s'

-- what the collector answers at a stage
abbrev pub collector_answer : Stage → CmsTurn
collector_answer Finished = Done
collector_answer _ = Moved

-- the collector waits before the snapshot for the first thread in the middle of a call, ends once it has finished, and else
-- makes a step
pub data CollectorTurn (z : Ground) (s : State) : CmsTurn → State → Type 0 where
  waits : {i : ℕ} → s.stage ≡ Waiting → IsFirstInMiddle z s i → CollectorTurn z s (Idle i) s
  rests : s.stage ≡ Finished → CollectorTurn z s Done s
  moves : {s' : State} → CollectorStep z s s' → CollectorTurn z s (collector_answer s'.stage) s'

-- the turn of an actor
abbrev pub TurnOf : Ground → State → Actor → CmsTurn → State → Type 0
TurnOf z s (Thread i) = ThreadTurn z s i
TurnOf z s Collector = CollectorTurn z s
TurnOf z s _ = λ turn s'. ⊥

-- the actor has ended: the thread has no call left, or the collector has finished
abbrev pub HasEnded : State → Actor → Type 0
HasEnded s (Thread i) = s.left i ≡ []
HasEnded s Collector = s.stage ≡ Finished
HasEnded s _ = ⊥

-- `Idle` comes exactly where the turn is the collector's, its snapshot is next, and that thread is the first one in the
-- middle of a call
abbrev pub IdleExactly : Type 0
IdleExactly = (z : Ground) (s s' : State) (who : Actor) (turn : CmsTurn) (i : ℕ) → TurnOf z s who turn s' →
    (turn ≡ Idle i) ↔ ((who ≡ Collector) × (s.stage ≡ Waiting) × IsFirstInMiddle z s i)

-- `Done` comes exactly where the actor has ended behind the turn
abbrev pub DoneExactly : Type 0
DoneExactly = (z : Ground) (s s' : State) (who : Actor) (turn : CmsTurn) → TurnOf z s who turn s' → (turn ≡ Done) ↔ HasEnded s' who
