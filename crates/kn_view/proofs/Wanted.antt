-- Kinds of fields, told and wanted.
use Rattle.std.proofs.Common.{◌≡◌, ℕ, Some, refl}
use denote.Enum.Bare.{sameb}
use Rattle.kn_base.specs.declared.places.Place.{Place}
use Rattle.kn_layout.specs.contracts.layouts.FieldKind.{the_type}
use Rattle.kn_layout.specs.declared.layouts.FieldKind.{FieldKind}
use Rattle.kn_layout.specs.declared.layouts.FieldKind.TheVariants.{Ref, Int}
use Rattle.kn_graph.specs.Ground.{Ground}
use Rattle.kn_rule.specs.declared.steps.Action.{Action}
use Rattle.kn_rule.specs.Views.{View}
use Rattle.kn_rule.specs.Steps.{Found}
use Rattle.kn_rule.specs.Outcomes.{is_wanted}

-- a kind is wanted where it is the kind that is wanted
pub wanted_same : (z : Ground) (c : ℕ) (v : View) (p : Place) (a : Action) (f : Found) (kind wanted : FieldKind) →
    sameb the_type kind wanted ≡ is_wanted z c v p a f (Some kind) wanted
wanted_same z c v p a f Ref Ref = refl
wanted_same z c v p a f Ref Int = refl
wanted_same z c v p a f Int Ref = refl
wanted_same z c v p a f Int Int = refl
