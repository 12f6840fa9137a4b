-- What the laws over all kinds of step say, and what a pause of a heap condemns.
use Rattle.std.specs.Prelude.{◌≡◌, ◌↔◌, ℕ, ◌*◌, ◌<◌, Bool}
use Rattle.kn_base.specs.declared.places.Place.TheVariants.{Phase, Pending, Side}
use Rattle.kn_base.specs.declared.kinds.Code.TheVariants as codes
use Rattle.kn_graph.specs.Ground.{Ground, IsGoodGround}
use Rattle.kn_graph.specs.Graph.{Graph, shapes, Lives}
use Rattle.kn_graph.specs.Reachable.{IsReachable}
use Rattle.kn_marking.specs.Words.{black}
use Rattle.kn_rule.specs.declared.steps.Kind.{Kind}
use Rattle.kn_rule.specs.Decoding.{phase_of}
use Rattle.kn_rule.specs.Places.{Within}
use Rattle.kn_rule.specs.Views.{State, views_of}
use Rattle.kn_rule.specs.Steps.{Step}
use Rattle.kn_rule.specs.Allowed.{MayMake}
use Rattle.kn_rule.specs.Rule.{Rule, RuleOf}
use Rattle.kn_keep_heap.specs.Laws.{KeepsRule}

-- a step of any kind that its caller's view allows keeps the rule
abbrev pub StepsKeepRule : Type 0
StepsKeepRule = (k : Kind) → KeepsRule k

-- a step that its caller's view allows in a state that meets the rule is made at a place of the heap
abbrev pub StepsLieWithin : Type 0
StepsLieWithin =
    (z : Ground) (s : State) (by : ℕ) (here : ℕ → Bool) (d : Step) → IsGoodGround z → Rule z s → MayMake z by (s.caller by) here d →
    Within z.sizes d.place

-- in Mark, where no work is open, the objects with a black mark of the epoch are the reachable ones, and those with an older mark are
-- the others
abbrev pub MarksTell : Type 0
MarksTell =
    (z : Ground) (g : Graph) (s : State) (n : ℕ) → IsGoodGround z → RuleOf z g s.word s.page (views_of s.caller) s.history →
    (phase_of (s.word Phase)).code ≡ codes.Mark → s.word Pending ≡ 0 → Lives g.born (shapes g) n →
    (IsReachable g n ↔ (s.word (Side (shapes g n).address) ≡ black (phase_of (s.word Phase)).epoch))
    × ((IsReachable g n → ⊥) ↔ (s.word (Side (shapes g n).address) < 4 * (phase_of (s.word Phase)).epoch))
