use Rattle.std.proofs.Common.{None, refl, sym, ap, subst}
use Rattle.kn_base.specs.declared.places.Place.TheVariants.{State}
use Rattle.kn_rule.specs.declared.steps.Action.TheVariants.{Stores}
use Rattle.kn_rule.specs.declared.steps.Kind.TheVariants.{K2}
use Rattle.kn_rule.specs.Steps.{does}
use Rattle.kn_steps.specs.Made.{Allowed, Made}
use Rattle.kn_safepoint.specs.declared.stage.Stage.TheVariants.{GoesIn}
use Rattle.kn_safepoint.specs.declared.stage.Enter.TheVariants.{Moved}
use Rattle.kn_safepoint.specs.Kept.{Kept}
use Rattle.kn_safepoint.proofs.Making.{in_agrees, may_go_in}
use Rattle.kn_safepoint.proofs.Turning.{goes}
use Rattle.kn_safepoint.proofs.safepoint.Safepoint.goes_in.Goals as goal

pub store-requires : goal.store-requires
store-requires g c =
    let t = g.T.Steps in
    let s = c.args.steps.now in
    subst (λ n. Allowed (t.stand s) (t.here s) (does K2 (State n) (Stores 1))) (sym (ap (λ (q : Kept). q.by) c.self.view_is))
    (may_go_in c.requires.agrees (t.here s) c.requires.stage)

pub returns : goal.returns
returns g c =
    let t = g.T.Steps in
    let s = c.args.steps.now in
    let k : Kept = c.args.self.now in
    let h = c.store.ensures in
    let is = ap (λ (q : Kept). q.by) c.self.view_is in
    let made = subst (λ n. Made (t.stand s) (t.here s) (does K2 (State n) (Stores 1)) h.0 (t.stand c.store.new.self) (t.here c.store.new.self)) is h.1 in
    goes t.stand t.here t.did t.moved k None s c.store.new.self c.goes_to.new.self Moved c.requires.agrees GoesIn c.requires.stage h.0 made
    (subst (λ n. t.did s (does K2 (State n) (Stores 1)) h.0 c.store.new.self) is h.2)
    (in_agrees c.requires.agrees (t.here s) c.requires.stage made) c.goes_to.ensures refl
