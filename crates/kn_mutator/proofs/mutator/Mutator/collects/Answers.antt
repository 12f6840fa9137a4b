use Rattle.std.proofs.Common.{◌+◌, ap, ◌∙◌}
use Rattle.kn_rule.specs.Steps.{found}
use Rattle.kn_mutator.specs.Mutating.{Mutating}
use Rattle.kn_mutator.proofs.Awaiting.{collects}
use Rattle.kn_mutator.proofs.Needs.{may_raise}
use Rattle.kn_mutator.proofs.mutator.Mutator.collects.Goals as goal

pub raise-requires : goal.raise-requires
raise-requires g c =
    let t = g.T.Steps in
    let m = c.args.self.now in
    let a = t.stand c.args.steps.now in
    let here = t.here c.args.steps.now in
    may_raise m a here c.requires.agrees c.requires.task.0 c.requires.task.1 (c.from-target.result + 1)
    (ap (λ k. k + 1) (c.from-target.ensures ∙ ap (λ (q : Mutating). q.epoch) c.self.view_is))

pub returns : goal.returns
returns g c =
    let t = g.T.Steps in
    let h = c.raise.ensures in
    collects t.stand t.here t.did t.moved c.args.self.now c.args.steps.now c.raise.new.self c.requires.agrees c.requires.task.0 c.requires.task.1
    (c.from-target.result + 1) (ap (λ k. k + 1) (c.from-target.ensures ∙ ap (λ (q : Mutating). q.epoch) c.self.view_is)) (found c.raise.result h.0) h.1
    h.2 c.wants.new.self c.wants.ensures
