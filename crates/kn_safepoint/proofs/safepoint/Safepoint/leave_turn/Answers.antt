use Rattle.std.proofs.Common.{◌∙◌, ◌<◌, ap, sym, subst}
use Rattle.kn_safepoint.specs.Kept.{Kept}
use Rattle.kn_safepoint.proofs.Making.{may_leave}
use Rattle.kn_safepoint.proofs.Turning.{leaves_agreeing, left, one_leaving}
use Rattle.kn_safepoint.proofs.safepoint.Safepoint.leave_turn.Goals as goal

pub store-requires : goal.store-requires
store-requires g c =
    let t = g.T.Steps in
    let s = c.args.steps.now in
    let is = ap (λ (q : Kept). q.by) c.self.view_is in
    may_leave (t.stand s) (t.here s) c.self.inside.by (c.requires.caller ∙ sym is)
    (subst (λ n. n < (t.stand s).heap.sizes.threads) (sym is) c.requires.thread) c.requires.may

pub returns-clause-left : goal.returns-clause-left
returns-clause-left g c =
    let t = g.T.Steps in
    let h = c.store.ensures in
    left t.stand t.here t.did t.moved c.args.self.now c.args.steps.now c.store.new.self c.self.inside.by (ap (λ (q : Kept). q.by) c.self.view_is)
    h.0 h.1 h.2

pub returns-clause-agrees : goal.returns-clause-agrees
returns-clause-agrees g c =
    let t = g.T.Steps in
    let h = c.store.ensures in
    leaves_agreeing t.stand t.here t.did t.moved c.args.self.now c.args.steps.now c.store.new.self c.self.inside.by
    (ap (λ (q : Kept). q.by) c.self.view_is) h.0 h.1 h.2 c.requires.caller c.requires.thread

pub returns-clause-one : goal.returns-clause-one
returns-clause-one g c =
    let t = g.T.Steps in
    let h = c.store.ensures in
    one_leaving t.stand t.here t.did t.moved c.args.self.now c.args.steps.now c.store.new.self c.self.inside.by
    (ap (λ (q : Kept). q.by) c.self.view_is) h.0 h.1 h.2
