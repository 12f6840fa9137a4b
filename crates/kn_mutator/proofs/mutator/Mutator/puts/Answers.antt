use Rattle.kn_mutator.proofs.CallTurns.{puts}
use Rattle.std.proofs.Common.{arith, ◌≤◌, Some}
use Rattle.kn_mutator.proofs.Calling.{in_range}
use Rattle.kn_mutator.proofs.Needs.{may_put, room}
use Rattle.kn_graph.specs.declared.calls.Call.TheVariants.{Put}
use Rattle.kn_mutator.proofs.mutator.Mutator.puts.Goals as goal

pub field-requires-clause-local : goal.field-requires-clause-local
field-requires-clause-local g c =
    let t = g.T.Steps in
    let m = c.args.self.now in
    let a = t.stand c.args.steps.now in
    let here = t.here c.args.steps.now in
    let l : c.args.s ≤ 15 = (in_range m a here c.requires.agrees (Put c.args.s c.args.i c.args.n) (Some c.requires.task.0) c.requires.task.1).0 in
    omega (arith, l)

pub field-requires-clause-address : goal.field-requires-clause-address
field-requires-clause-address g c =
    let t = g.T.Steps in
    let m = c.args.self.now in
    let a = t.stand c.args.steps.now in
    let here = t.here c.args.steps.now in
    let l : c.args.s ≤ 15 = (in_range m a here c.requires.agrees (Put c.args.s c.args.i c.args.n) (Some c.requires.task.0) c.requires.task.1).0 in
    c.requires.agrees.addresses c.args.s (omega (arith, l))

pub field-requires-clause-field : goal.field-requires-clause-field
field-requires-clause-field g c =
    let t = g.T.Steps in
    let m = c.args.self.now in
    let a = t.stand c.args.steps.now in
    let here = t.here c.args.steps.now in
    (in_range m a here c.requires.agrees (Put c.args.s c.args.i c.args.n) (Some c.requires.task.0) c.requires.task.1).1.0

pub store-requires : goal.store-requires
store-requires g c =
    let t = g.T.Steps in
    let m = c.args.self.now in
    let a = t.stand c.args.steps.now in
    let here = t.here c.args.steps.now in
    may_put m a here c.requires.agrees c.args.s c.args.i c.requires.task.0 c.field.result c.field.ensures c.args.n c.requires.task.1

pub answers-requires : goal.answers-requires
answers-requires g c =
    let t = g.T.Steps in
    let m = c.args.self.now in
    let a = t.stand c.args.steps.now in
    let here = t.here c.args.steps.now in
    room m a here c.requires.agrees (Put c.args.s c.args.i c.args.n) (Some c.requires.task.0) c.requires.task.1

pub returns : goal.returns
returns g c =
    let t = g.T.Steps in
    let h = c.store.ensures in
    puts t.stand t.here t.did t.moved c.args.self.now c.args.steps.now c.store.new.self c.requires.agrees h.0 c.field.result c.args.n
    c.args.s c.args.i c.requires.task.0 c.field.ensures h.1 h.2 c.requires.task.1 c.answers.new.self c.answers.ensures
