use Rattle.std.proofs.Common.{◌∙◌, arith, ◌≤◌}
use Rattle.kn_mutator.proofs.CallTurns.{sets_global}
use Rattle.kn_mutator.proofs.Calling.{in_range}
use Rattle.kn_mutator.proofs.Needs.{may_set_global, room}
use Rattle.kn_graph.specs.declared.calls.Call.TheVariants.{GlobalSet}
use Rattle.kn_mutator.proofs.mutator.Mutator.sets_global.Goals as goal

pub local-requires : goal.local-requires
local-requires g c =
    let t = g.T.Steps in
    let m = c.args.self.now in
    let a = t.stand c.args.steps.now in
    let here = t.here c.args.steps.now in
    let l : c.args.r ≤ 15 = (in_range m a here c.requires.agrees (GlobalSet c.args.i c.args.r) c.requires.task.0 c.requires.task.1).1.0 in
    omega (arith, l)

pub store-requires : goal.store-requires
store-requires g c =
    let t = g.T.Steps in
    let m = c.args.self.now in
    let a = t.stand c.args.steps.now in
    let here = t.here c.args.steps.now in
    may_set_global m a here c.requires.agrees c.requires.task.0 c.args.i c.args.r c.from-value.result c.requires.task.1
    (c.from-value.ensures ∙ c.local.ensures)

pub answers-requires : goal.answers-requires
answers-requires g c =
    let t = g.T.Steps in
    let m = c.args.self.now in
    let a = t.stand c.args.steps.now in
    let here = t.here c.args.steps.now in
    room m a here c.requires.agrees (GlobalSet c.args.i c.args.r) c.requires.task.0 c.requires.task.1

pub returns : goal.returns
returns g c =
    let t = g.T.Steps in
    let h = c.store.ensures in
    sets_global t.stand t.here t.did t.moved c.args.self.now c.args.steps.now c.store.new.self c.requires.agrees h.0 c.args.i
    c.args.r c.from-value.result c.requires.task.0 c.requires.task.1 (c.from-value.ensures ∙ c.local.ensures) h.1 h.2 c.answers.new.self c.answers.ensures
