-- How what a safepoint keeps agrees with what its caller knows.
use Rattle.std.specs.Prelude.{◌≡◌, ℕ, ◌<◌, ◌⊎◌, Bool, Option, None}
use Rattle.kn_graph.specs.declared.calls.Call.{Call}
use Rattle.kn_rule.specs.declared.positions.Position.{Position}
use Rattle.kn_rule.specs.declared.positions.Position.TheVariants as positions
use Rattle.kn_rule.specs.Allowed.{MayEnterFor}
use Rattle.kn_rule.specs.Views.{View, owns}
use Rattle.kn_steps.specs.Made.{Stand}
use Rattle.kn_safepoint.specs.declared.stage.Stage.{Stage}
use Rattle.kn_safepoint.specs.declared.stage.Stage.TheVariants.{Out, GoesIn, Enters, GoesBack, In}
use Rattle.kn_safepoint.specs.Kept.{Kept}

-- where a caller stands at each stage on the way in; of one that is in or leaving nothing is said
abbrev pub StandsAt : Stage → Position → Type 0
StandsAt Out p = p ≡ positions.Out
StandsAt GoesIn p = p ≡ positions.Out
StandsAt Enters p = p ≡ positions.Entering
StandsAt GoesBack p = p ≡ positions.Entering
StandsAt In p = Unit {0}

-- whose safepoint it is: a mutator's, which stands where the stage says
pub record Agrees (k : Kept) (a : Stand) : Type 0 where
  pub caller : a.by ≡ k.by
  pub thread : a.by < a.heap.sizes.threads
  pub at : StandsAt k.stage a.view.position

abbrev pub OwnsNone : View → Type 0
OwnsNone v = (p : ℕ) → owns v p ≡ None

-- what the turn of a stage asks for a next call: an entering load may be a poll for one, where no epoch is wanted; one that goes back
-- owns no frame; and one that is in makes no turn
abbrev pub MayTurn : Stage → Stand → (ℕ → Bool) → Option Call → Type 0
MayTurn Out a here next = next ≡ None
MayTurn GoesIn a here next = next ≡ None
MayTurn Enters a here next = MayEnterFor a.heap a.by a.view here a.view.target next
MayTurn GoesBack a here next = (next ≡ None) × OwnsNone a.view
MayTurn In a here next = ⊥

-- it may store that it is out: it is leaving, or entering, and owns no frame
pub record MayLeave (v : View) : Type 0 where
  pub position : (v.position ≡ positions.Leaving) ⊎ (v.position ≡ positions.Entering)
  pub none : OwnsNone v

-- its next turn is the load of a caller that enters
abbrev pub IsEntering : Stage → Type 0
IsEntering Enters = Unit {0}
IsEntering _ = ⊥
