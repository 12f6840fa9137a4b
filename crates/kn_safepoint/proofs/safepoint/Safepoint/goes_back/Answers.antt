use Rattle.std.proofs.Common.{None, refl, sym, ap, subst}
use Rattle.kn_steps.specs.Made.{Allowed, Made}
use Rattle.kn_safepoint.specs.declared.stage.Stage.TheVariants.{GoesBack}
use Rattle.kn_safepoint.specs.declared.stage.Enter.TheVariants.{Moved}
use Rattle.kn_safepoint.specs.Kept.{Kept}
use Rattle.kn_safepoint.specs.Stages.{leave_step}
use Rattle.kn_safepoint.proofs.Making.{left_agrees, may_go_back}
use Rattle.kn_safepoint.proofs.Turning.{goes}
use Rattle.kn_safepoint.proofs.safepoint.Safepoint.goes_back.Goals as goal

pub store-requires : goal.store-requires
store-requires g c =
    let t = g.T.Steps in
    let s = c.args.steps.now in
    subst (λ n. Allowed (t.stand s) (t.here s) (leave_step n)) (sym (ap (λ (q : Kept). q.by) c.self.view_is))
    (may_go_back c.requires.agrees (t.here s) c.requires.stage c.requires.none)

pub returns : goal.returns
returns g c =
    let t = g.T.Steps in
    let s = c.args.steps.now in
    let k : Kept = c.args.self.now in
    let h = c.store.ensures in
    let is = ap (λ (q : Kept). q.by) c.self.view_is in
    let made = subst (λ n. Made (t.stand s) (t.here s) (leave_step n) h.0 (t.stand c.store.new.self) (t.here c.store.new.self)) is h.1 in
    goes t.stand t.here t.did t.moved k None s c.store.new.self c.goes_to.new.self Moved c.requires.agrees GoesBack c.requires.stage h.0 made
    (subst (λ n. t.did s (leave_step n) h.0 c.store.new.self) is h.2)
    (left_agrees c.requires.agrees (t.here s) made) c.goes_to.ensures refl
