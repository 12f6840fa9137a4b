-- The laws of turns: what a turn keeps, and how it lowers the steps that are left.
use Rattle.std.specs.Prelude.{◌≡◌, ℕ, ◌<◌, ◌≤◌, List}
use Rattle.kn_base.specs.Sizes.{word_count}
use Rattle.kn_graph.specs.declared.calls.Call.{Call}
use Rattle.kn_graph.specs.Ground.{Ground}
use Rattle.kn_lines.specs.declared.orders.Actor.{Actor}
use Rattle.kn_cms_rule.specs.declared.stages.CmsTurn.{CmsTurn}
use Rattle.kn_cms_rule.specs.declared.stages.CmsTurn.TheVariants.{Moved, Idle}
use Rattle.kn_cms_rule.specs.Words.{one_framed, words_taken}
use Rattle.kn_cms_rule.specs.State.{State}
use Rattle.kn_cms_rule.specs.Rule.{Rule}
use Rattle.kn_cms_rule.specs.Turns.{MayTurn, TurnOf}
use Rattle.kn_cms_bound.specs.Work.{steps_left}

-- the rule of the core holds, and the objects fit the words of the heap
pub record Holds (z : Ground) (calls : ℕ → List Call) (s : State) : Type 0 where
  pub rule : Rule z calls s
  pub fits : words_taken s.graph ≤ word_count z.sizes

-- a turn keeps both
abbrev pub TurnsGoOn : Type 0
TurnsGoOn = (base : Ground) (calls : ℕ → List Call) (s s' : State) (who : Actor) (turn : CmsTurn) → MayTurn base who →
    Holds (one_framed base) calls s → TurnOf (one_framed base) s who turn s' → Holds (one_framed base) calls s'

-- a turn raises the steps left in no case, lowers them where it moves, and changes nothing where it is idle
pub record Lowers (z : Ground) (s : State) (turn : CmsTurn) (s' : State) : Type 0 where
  pub never_rises : steps_left z s' ≤ steps_left z s
  pub moves : turn ≡ Moved → steps_left z s' < steps_left z s
  pub waits : (i : ℕ) → turn ≡ Idle i → s' ≡ s

abbrev pub TurnsLower : Type 0
TurnsLower = (base : Ground) (calls : ℕ → List Call) (s s' : State) (who : Actor) (turn : CmsTurn) → MayTurn base who →
    Holds (one_framed base) calls s → TurnOf (one_framed base) s who turn s' → Lowers (one_framed base) s turn s'

-- a state in which the rule of the core holds and an actor leave one turn: what it answers and the state behind it are one
abbrev pub TurnsAreOne : Type 0
TurnsAreOne = (z : Ground) (calls : ℕ → List Call) (s a b : State) (who : Actor) (t u : CmsTurn) → MayTurn z who → Rule z calls s →
    TurnOf z s who t a → TurnOf z s who u b → (t ≡ u) × (a ≡ b)
