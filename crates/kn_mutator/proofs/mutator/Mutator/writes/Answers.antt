use Rattle.std.proofs.Common.{ap}
use Rattle.kn_mutator.specs.Mutating.{Mutating}
use Rattle.kn_mutator.proofs.Turning.{writes}
use Rattle.kn_mutator.proofs.Needs.{may_write_due}
use Rattle.kn_mutator.proofs.mutator.Mutator.writes.Goals as goal

pub store-requires : goal.store-requires
store-requires g c =
    let t = g.T.Steps in
    let m = c.args.self.now in
    let a = t.stand c.args.steps.now in
    let here = t.here c.args.steps.now in
    may_write_due m a here c.requires.agrees c.args.local c.args.value c.requires.task c.self.inside.by
    (ap (λ (q : Mutating). q.by) c.self.view_is) c.from.result c.from.ensures

pub returns : goal.returns
returns g c =
    let t = g.T.Steps in
    let h = c.store.ensures in
    writes t.stand t.here t.did t.moved c.args.self.now c.args.steps.now c.store.new.self c.requires.agrees c.args.local c.args.value
    c.requires.task c.self.inside.by (ap (λ (q : Mutating). q.by) c.self.view_is) c.from.result c.from.ensures h.0 h.1 h.2 c.rests.new.self c.rests.ensures
