-- What the laws of stops say.
use Rattle.std.specs.Prelude.{ℕ, ◌≤◌, ◌⊎◌, Bool}
use Rattle.kn_base.specs.declared.limits.TheConstants.{MOST_CALLS}
use Rattle.kn_base.specs.declared.places.Place.TheVariants.{Phase, Want}
use Rattle.kn_graph.specs.Ground.{Ground, IsGoodGround}
use Rattle.kn_rule.specs.declared.steps.Kind.{Kind}
use Rattle.kn_rule.specs.declared.steps.Kind.TheVariants.{K14, K17, K18, K19, K20, K21, K22, K23, K24}
use Rattle.kn_rule.specs.declared.steps.Action.TheVariants.{Stores}
use Rattle.kn_rule.specs.Views.{State}
use Rattle.kn_rule.specs.Steps.{Found, does}
use Rattle.kn_rule.specs.Allowed.{Collects, MayStop, MayMark}
use Rattle.kn_rule.specs.Moves.{stepped}
use Rattle.kn_rule.specs.Rule.{Rule}

-- the kinds of a marker's step, but for the load of the count of open work
abbrev pub IsOfMarker : Kind → Type 0
IsOfMarker K17 = Unit {0}
IsOfMarker K18 = Unit {0}
IsOfMarker K19 = Unit {0}
IsOfMarker K20 = Unit {0}
IsOfMarker K21 = Unit {0}
IsOfMarker K22 = Unit {0}
IsOfMarker K23 = Unit {0}
IsOfMarker K24 = Unit {0}
IsOfMarker _ = ⊥

-- a store of a stop, or of Mark, that the collector's view allows keeps the rule
abbrev pub StopsKeepRule : Type 0
StopsKeepRule =
    (z : Ground) (s : State) (by : ℕ) (here : ℕ → Bool) (w : ℕ) (f : Found) → IsGoodGround z → Rule z s → Collects z by (s.caller by) here →
    MayStop z by (s.caller by) here w ⊎ MayMark z by (s.caller by) here w → Rule z (stepped z s by (does K14 Phase (Stores w)) f)

-- in a state that meets the rule the epoch wanted is at most the greatest number of calls
abbrev pub EpochsAreFew : Type 0
EpochsAreFew = (z : Ground) (s : State) → IsGoodGround z → Rule z s → s.word Want ≤ MOST_CALLS
