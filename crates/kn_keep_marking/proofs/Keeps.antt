-- Whatever the step, it keeps the rule, and is made at a place of the heap.
use Rattle.std.proofs.Common.{ℕ, Bool}
use Rattle.kn_base.specs.declared.places.Place.{Place}
use Rattle.kn_graph.specs.Ground.{Ground, IsGoodGround}
use Rattle.kn_rule.specs.declared.steps.Kind.{Kind}
use Rattle.kn_rule.specs.declared.steps.Action.{Action}
use Rattle.kn_rule.specs.Views.{State}
use Rattle.kn_rule.specs.Steps.{Step, Found, does}
use Rattle.kn_rule.specs.Allowed.{MayMake, MayBe}
use Rattle.kn_rule.specs.Moves.{stepped, Finds}
use Rattle.kn_rule.specs.Rule.{Rule}
use Rattle.kn_keep_heap.specs.Laws.{IsKept, KeepsRule}
use Rattle.kn_keep_mark.proofs.Keeps.{kept_by}
use Rattle.kn_keep_marking.proofs.MarkerKeeps.{marker_kept}
use Rattle.kn_keep_marking.proofs.PauseLaw.{pause_stored}

module _ (z : Ground) (good : IsGoodGround z) (s : State) (by : ℕ) (here : ℕ → Bool) (f : Found) (r : Rule z s) where
  pub kept : (k : Kind) (p : Place) (a : Action) → MayBe z by (s.caller by) here k p a → IsKept z s by f k p a
  kept k p a m =
      kept_by z good s by here f r (marker_kept z good s by here f r) (λ w collects h. pause_stored z good s r by here f w collects h) k p a m

  -- a step that is allowed in its caller's view keeps the rule
  pub keeps : (d : Step) → MayMake z by (s.caller by) here d → Finds z s by d f → Rule z (stepped z s by d f)
  unfolding IsKept
  keeps d m h = kept d.kind d.place d.act m h

pub keeps_rule : (k : Kind) → KeepsRule k
keeps_rule k z s by here p a f good r m h = keeps z good s by here f r (does k p a) m h
