use Rattle.std.proofs.Common.{sym, ap, ◌∙◌}
use Rattle.kn_graph.specs.Ground.{Ground}
use Rattle.kn_mutator.specs.Mutating.{Mutating}
use Rattle.kn_mutator.proofs.HelpTurns.{helps_idle, helps_moved, helps_over, marker_agrees}
use Rattle.kn_mutator.proofs.mutator.Mutator.helps.Goals as goal

pub turn-requires-clause-agrees : goal.turn-requires-clause-agrees
turn-requires-clause-agrees g c = λ κs near.
    let t = g.T.Steps in
    let s = c.args.steps.now in
    marker_agrees c.args.self.now (t.stand s) (t.here s) c.requires.agrees c.requires.task _ c.self.view_is

pub turn-requires-clause-layouts : goal.turn-requires-clause-layouts
turn-requires-clause-layouts g c = λ κs near.
    ap (λ (z : Ground). z.layouts) c.requires.agrees.heap
    ∙ (sym (ap (λ (q : Mutating). q.heap.layouts) c.self.view_is) ∙ sym c.as_slice.ensures.value)

pub returns-in-Moved : goal.returns-in-Moved
returns-in-Moved g c =
    let t = g.T.Steps in
    let p = c.in-Moved.ensures in
    helps_moved t.stand t.here t.did t.moved _ c.args.self.now c.self.view_is c.args.steps.now c.turn.new.steps c.requires.agrees c.requires.task
    c.turn.new.self p.agrees p.only p.turned

pub returns-in-Idle : goal.returns-in-Idle
returns-in-Idle g c =
    let t = g.T.Steps in
    let p = c.in-Idle.ensures in
    helps_idle t.stand t.here t.did t.moved _ c.args.self.now c.self.view_is c.args.steps.now c.turn.new.steps c.requires.agrees c.requires.task
    c.turn.new.self p.agrees p.only c.in-Idle.place c.in-Idle.word p.turned

pub returns-in-Over : goal.returns-in-Over
returns-in-Over g c =
    let t = g.T.Steps in
    let p = c.in-Over.ensures in
    helps_over t.stand t.here t.did t.moved _ c.args.self.now c.self.view_is c.args.steps.now c.turn.new.steps c.requires.agrees c.requires.task
    c.turn.new.self p.agrees p.only p.turned c.goes_to.new.self c.goes_to.ensures
