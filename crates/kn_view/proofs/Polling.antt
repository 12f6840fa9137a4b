-- Polls with which a call may begin, and the others.
use Rattle.std.proofs.Common.{◌≡◌, ℕ, Bool, true, false, ◌&&◌, cond, Option, Some, None, refl}
use Rattle.kn_base.specs.declared.places.Place.{Place}
use Rattle.kn_graph.specs.declared.calls.Call.{Call}
use Rattle.kn_graph.specs.Ground.{Ground}
use Rattle.kn_rule.specs.declared.steps.Action.{Action}
use Rattle.kn_rule.specs.declared.positions.Position.{Position}
use Rattle.kn_rule.specs.declared.positions.Position.TheVariants.{Entering, Between}
use Rattle.kn_rule.specs.Steps.{Found}
use Rattle.kn_rule.specs.Views.{View}
use Rattle.kn_rule.specs.Outcomes.{enters_for, poll_at, poll_run, stays_out, waits_at}
use Rattle.kn_view.specs.Parts.{is_ready}

module _ (z : Ground) (c : ℕ) (v : View) (p : Place) (a : Action) (f : Found) (next : Option Call) where
  let_in : (target : Option ℕ) → is_ready Entering target ≡ true → poll_run z c v p a f next ≡ enters_for z c v p a f target next
  let_in None h = refl
  let_in (Some n) h = absurd (cc)

  -- one that may begin a call in a run phase does so
  pub ready_polls : (run : Bool) (at : Position) → (run && is_ready at v.target) ≡ true → poll_run z c v p a f next ≡ poll_at z c v p a f at run next
  ready_polls true Entering h = let_in v.target h
  ready_polls true Between h = refl
  ready_polls true _ h = absurd (cc)
  ready_polls false at h = absurd (cc)

  -- one that is entering in a run phase, and begins no call, waits for an epoch
  pub entering_waits : (run : Bool) (target : Option ℕ) → run ≡ true → (run && is_ready Entering target) ≡ false →
      waits_at z c v p a f run target ≡ cond run (enters_for z c v p a f target next) (stays_out z c v p a f)
  entering_waits true None e h = absurd (cc)
  entering_waits true (Some n) e h = refl
  entering_waits false target e h = absurd (cc)
