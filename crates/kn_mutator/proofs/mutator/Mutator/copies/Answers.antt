use Rattle.std.proofs.Common.{ap, arith, ◌≤◌, ◌∙◌}
use Rattle.kn_mutator.specs.Mutating.{Mutating}
use Rattle.kn_mutator.proofs.CallTurns.{copies}
use Rattle.kn_mutator.proofs.Calling.{in_range}
use Rattle.kn_mutator.proofs.Needs.{may_copy, room}
use Rattle.kn_graph.specs.declared.calls.Call.TheVariants.{Copy}
use Rattle.kn_mutator.proofs.mutator.Mutator.copies.Goals as goal

pub local-value-requires : goal.local-value-requires
local-value-requires g c =
    let t = g.T.Steps in
    let m = c.args.self.now in
    let a = t.stand c.args.steps.now in
    let here = t.here c.args.steps.now in
    let l : c.args.s ≤ 15 = (in_range m a here c.requires.agrees (Copy c.args.r c.args.s) c.requires.task.0 c.requires.task.1).1.0 in
    omega (arith, l)

pub store-requires : goal.store-requires
store-requires g c =
    let t = g.T.Steps in
    let m = c.args.self.now in
    let a = t.stand c.args.steps.now in
    let here = t.here c.args.steps.now in
    may_copy m a here c.requires.agrees c.requires.task.0 c.args.r c.args.s c.requires.task.1 c.from.result (c.from.ensures ∙ c.local-value.ensures)
    c.self.inside.by (ap (λ (q : Mutating). q.by) c.self.view_is)

pub assigns-requires-clause-room : goal.assigns-requires-clause-room
assigns-requires-clause-room g c =
    let t = g.T.Steps in
    let m = c.args.self.now in
    let a = t.stand c.args.steps.now in
    let here = t.here c.args.steps.now in
    room m a here c.requires.agrees (Copy c.args.r c.args.s) c.requires.task.0 c.requires.task.1

pub assigns-requires-clause-local : goal.assigns-requires-clause-local
assigns-requires-clause-local g c =
    let t = g.T.Steps in
    let m = c.args.self.now in
    let a = t.stand c.args.steps.now in
    let here = t.here c.args.steps.now in
    let l : c.args.r ≤ 15 = (in_range m a here c.requires.agrees (Copy c.args.r c.args.s) c.requires.task.0 c.requires.task.1).0 in
    omega (arith, l)

pub returns : goal.returns
returns g c =
    let t = g.T.Steps in
    let h = c.store.ensures in
    copies t.stand t.here t.did t.moved c.args.self.now c.args.steps.now c.store.new.self c.requires.agrees h.0 c.self.inside.by c.args.r
    c.local-value.result c.from.result (ap (λ (q : Mutating). q.by) c.self.view_is) c.from.ensures c.requires.task.0 h.1 h.2 c.args.s c.requires.task.1
    c.local-value.ensures c.assigns.new.self c.assigns.ensures
