use Rattle.std.proofs.Common.{arith, ◌≤◌, Some}
use Rattle.kn_rule.specs.Steps.{found}
use Rattle.kn_mutator.proofs.CallTurns.{gets, get_is_small}
use Rattle.kn_mutator.proofs.Calling.{in_range}
use Rattle.kn_mutator.proofs.Needs.{may_get, room}
use Rattle.kn_graph.specs.declared.calls.Call.TheVariants.{Get}
use Rattle.kn_mutator.proofs.mutator.Mutator.gets.Goals as goal

pub field-requires-clause-local : goal.field-requires-clause-local
field-requires-clause-local g c =
    let t = g.T.Steps in
    let m = c.args.self.now in
    let a = t.stand c.args.steps.now in
    let here = t.here c.args.steps.now in
    let l : c.args.s ≤ 15 = (in_range m a here c.requires.agrees (Get c.args.r c.args.s c.args.i) (Some c.requires.task.0) c.requires.task.1).1.0 in
    omega (arith, l)

pub field-requires-clause-address : goal.field-requires-clause-address
field-requires-clause-address g c =
    let t = g.T.Steps in
    let m = c.args.self.now in
    let a = t.stand c.args.steps.now in
    let here = t.here c.args.steps.now in
    let l : c.args.s ≤ 15 = (in_range m a here c.requires.agrees (Get c.args.r c.args.s c.args.i) (Some c.requires.task.0) c.requires.task.1).1.0 in
    c.requires.agrees.addresses c.args.s (omega (arith, l))

pub field-requires-clause-field : goal.field-requires-clause-field
field-requires-clause-field g c =
    let t = g.T.Steps in
    let m = c.args.self.now in
    let a = t.stand c.args.steps.now in
    let here = t.here c.args.steps.now in
    (in_range m a here c.requires.agrees (Get c.args.r c.args.s c.args.i) (Some c.requires.task.0) c.requires.task.1).1.1.0

pub load-word-requires : goal.load-word-requires
load-word-requires g c =
    let t = g.T.Steps in
    let m = c.args.self.now in
    let a = t.stand c.args.steps.now in
    let here = t.here c.args.steps.now in
    may_get m a here c.requires.agrees c.args.s c.args.i c.requires.task.0 c.field.result c.field.ensures c.args.r c.requires.task.1

pub refers-requires-clause-room : goal.refers-requires-clause-room
refers-requires-clause-room g c =
    let t = g.T.Steps in
    let m = c.args.self.now in
    let a = t.stand c.args.steps.now in
    let here = t.here c.args.steps.now in
    room m a here c.requires.agrees (Get c.args.r c.args.s c.args.i) (Some c.requires.task.0) c.requires.task.1

pub refers-requires-clause-local : goal.refers-requires-clause-local
refers-requires-clause-local g c =
    let t = g.T.Steps in
    let m = c.args.self.now in
    let a = t.stand c.args.steps.now in
    let here = t.here c.args.steps.now in
    let l : c.args.r ≤ 15 = (in_range m a here c.requires.agrees (Get c.args.r c.args.s c.args.i) (Some c.requires.task.0) c.requires.task.1).0 in
    omega (arith, l)

pub overflow_cast-word : goal.overflow_cast-word
overflow_cast-word g c =
    let t = g.T.Steps in
    let h = c.load-word.ensures in
    let l = get_is_small t.stand t.here t.did t.moved c.args.self.now c.args.steps.now c.load-word.new.self c.requires.agrees (found c.load-word.result h.0)
    c.field.result c.args.s c.args.i c.requires.task.0 c.field.ensures h.1 h.2 c.args.r c.requires.task.1 in
    omega (arith, l)

pub returns : goal.returns
returns g c =
    let t = g.T.Steps in
    let h = c.load-word.ensures in
    gets t.stand t.here t.did t.moved c.args.self.now c.args.steps.now c.load-word.new.self c.requires.agrees (found c.load-word.result h.0)
    c.field.result c.args.s c.args.i c.requires.task.0 c.field.ensures h.1 h.2 c.args.r c.requires.task.1 c.refers.new.self c.refers.ensures
