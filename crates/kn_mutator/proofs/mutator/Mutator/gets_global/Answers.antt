use Rattle.std.proofs.Common.{arith, ◌≤◌}
use Rattle.kn_rule.specs.Steps.{found}
use Rattle.kn_mutator.proofs.CallTurns.{gets_global, global_is_small}
use Rattle.kn_mutator.proofs.Calling.{in_range}
use Rattle.kn_mutator.proofs.Needs.{may_get_global, room}
use Rattle.kn_graph.specs.declared.calls.Call.TheVariants.{GlobalGet}
use Rattle.kn_mutator.proofs.mutator.Mutator.gets_global.Goals as goal

pub load-word-requires : goal.load-word-requires
load-word-requires g c =
    let t = g.T.Steps in
    let m = c.args.self.now in
    let a = t.stand c.args.steps.now in
    let here = t.here c.args.steps.now in
    may_get_global m a here c.requires.agrees c.requires.task.0 c.args.r c.args.i c.requires.task.1

pub refers-requires-clause-room : goal.refers-requires-clause-room
refers-requires-clause-room g c =
    let t = g.T.Steps in
    let m = c.args.self.now in
    let a = t.stand c.args.steps.now in
    let here = t.here c.args.steps.now in
    room m a here c.requires.agrees (GlobalGet c.args.r c.args.i) c.requires.task.0 c.requires.task.1

pub refers-requires-clause-local : goal.refers-requires-clause-local
refers-requires-clause-local g c =
    let t = g.T.Steps in
    let m = c.args.self.now in
    let a = t.stand c.args.steps.now in
    let here = t.here c.args.steps.now in
    let l : c.args.r ≤ 15 = (in_range m a here c.requires.agrees (GlobalGet c.args.r c.args.i) c.requires.task.0 c.requires.task.1).0 in
    omega (arith, l)

pub overflow_cast-word : goal.overflow_cast-word
overflow_cast-word g c =
    let t = g.T.Steps in
    let h = c.load-word.ensures in
    let l = global_is_small t.stand t.here t.did t.moved c.args.self.now c.args.steps.now c.load-word.new.self c.requires.agrees (found c.load-word.result h.0)
    c.args.i c.args.r c.requires.task.0 c.requires.task.1 h.1 h.2 in
    omega (arith, l)

pub returns : goal.returns
returns g c =
    let t = g.T.Steps in
    let h = c.load-word.ensures in
    gets_global t.stand t.here t.did t.moved c.args.self.now c.args.steps.now c.load-word.new.self c.requires.agrees (found c.load-word.result h.0)
    c.args.i c.args.r c.requires.task.0 c.requires.task.1 h.1 h.2 c.refers.new.self c.refers.ensures
