-- What the laws of this crate say.
use Rattle.std.specs.Prelude.{ℕ, ◌^◌, ◌<◌, ◌≤◌, Bool}
use Rattle.kn_base.specs.declared.limits.TheConstants.{LOCALS}
use Rattle.kn_base.specs.declared.places.Place.{Place}
use Rattle.kn_base.specs.declared.places.Place.TheVariants.{Phase}
use Rattle.kn_graph.specs.Ground.{Ground, IsGoodGround}
use Rattle.kn_rule.specs.declared.steps.Kind.{Kind}
use Rattle.kn_rule.specs.declared.steps.Action.{Action}
use Rattle.kn_rule.specs.Views.{State, local_of}
use Rattle.kn_rule.specs.Steps.{Found, does}
use Rattle.kn_rule.specs.Allowed.{MayBe}
use Rattle.kn_rule.specs.Moves.{Finds, stepped}
use Rattle.kn_rule.specs.Rule.{Rule}

-- the step of caller `by` of this kind, at the place and with the action, keeps the rule
unfoldable pub IsKept : Ground → State → ℕ → Found → Kind → Place → Action → Type 0
IsKept z s by f k p a = Finds z s by (does k p a) f → Rule z (stepped z s by (does k p a) f)

-- a step of this kind that its caller's view allows keeps the rule
abbrev pub KeepsRule : Kind → Type 0
KeepsRule k =
    (z : Ground) (s : State) (by : ℕ) (here : ℕ → Bool) (p : Place) (a : Action) (f : Found) → IsGoodGround z → Rule z s →
    MayBe z by (s.caller by) here k p a → Finds z s by (does k p a) f → Rule z (stepped z s by (does k p a) f)

-- the phase word of a state that meets the rule is short
abbrev pub PhasesAreSmall : Type 0
PhasesAreSmall = (z : Ground) (s : State) → Rule z s → s.word Phase < 2 ^ 35

-- what a thread's view has for a local is 0 or an address of the heap, which has at most a million words
abbrev pub LocalsAreAddresses : Type 0
LocalsAreAddresses =
    (z : Ground) (s : State) (c r : ℕ) → IsGoodGround z → Rule z s → c < z.sizes.threads → r < LOCALS → local_of (s.caller c) r ≤ 1000000
