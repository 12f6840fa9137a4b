use Rattle.kn_mutator.proofs.Polling.{range_entering, ready_entering}
use Rattle.kn_mutator.proofs.WayIn.{agrees_entering, begins_within, begins_without, in_range, may_for_call, word_small}
use Rattle.kn_mutator.proofs.mutator.Mutator.enters_for_call.Goals as goal

pub enter_turn-requires-clause-agrees : goal.enter_turn-requires-clause-agrees
enter_turn-requires-clause-agrees g c = λ κs near.
    let t = g.T.Steps in
    let s = c.args.steps.now in
    agrees_entering c.args.self.now (t.stand s) (t.here s) c.requires.agrees c.safepoint-safepoint.result c.requires.task
    c.safepoint-safepoint.ensures

pub enter_turn-requires-clause-may : goal.enter_turn-requires-clause-may
enter_turn-requires-clause-may g c = λ κs near.
    let t = g.T.Steps in
    let s = c.args.steps.now in
    may_for_call c.args.self.now (t.stand s) (t.here s) c.requires.agrees c.safepoint-safepoint.result c.requires.task
    c.safepoint-safepoint.ensures c.requires.target c.pass-passed.result c.next_call-next.result c.next_call-next.ensures

pub pack-requires : goal.pack-requires
pack-requires g c =
    let t = g.T.Steps in
    in_range t.stand t.here t.did t.moved c.args.self.now c.args.steps.now c.enter_turn.new.steps c.requires.agrees c.safepoint-safepoint.result
    c.enter_turn.new.self c.enter_turn.result c.next_call-next.result c.safepoint-safepoint.ensures c.enter_turn.ensures.turned
    c.in-In.phase c.in-In.is

pub hears_in-requires-clause-ready : goal.hears_in-requires-clause-ready
hears_in-requires-clause-ready g c =
    let t = g.T.Steps in
    let s = c.args.steps.now in
    ready_entering c.args.self.now (t.stand s) (t.here s) c.requires.agrees c.requires.task c.requires.target

pub hears_in-requires-clause-next : goal.hears_in-requires-clause-next
hears_in-requires-clause-next g c =
    let t = g.T.Steps in
    let s = c.args.steps.now in
    range_entering c.args.self.now (t.stand s) (t.here s) c.requires.agrees c.requires.task c.requires.target c.pass-passed.result
    c.next_call-next.result c.next_call-next.ensures

pub hears_in-requires-clause-word : goal.hears_in-requires-clause-word
hears_in-requires-clause-word g c =
    let t = g.T.Steps in
    word_small t.stand t.here t.did t.moved c.args.self.now c.args.steps.now c.enter_turn.new.steps c.requires.agrees c.safepoint-safepoint.result
    c.enter_turn.new.self c.enter_turn.result c.next_call-next.result c.safepoint-safepoint.ensures c.enter_turn.ensures.turned
    c.in-In.phase c.in-In.is c.pack.result c.pack.ensures

pub returns-in-In : goal.returns-in-In
returns-in-In g c =
    let t = g.T.Steps in
    begins_within t.stand t.here t.did t.moved c.args.self.now c.args.steps.now c.enter_turn.new.steps c.requires.agrees c.safepoint-safepoint.result
    c.enter_turn.new.self c.enter_turn.result c.next_call-next.result c.safepoint-safepoint.ensures c.enter_turn.ensures.turned
    c.in-In.phase c.in-In.is c.pack.result c.pack.ensures (g.G.Gate.told c.args.gate.now) _ c.self.view_is c.pass-passed.result c.pass-passed.ensures
    c.next_call-next.ensures c.requires.task c.requires.target c.hears_in.new.self c.hears_in.result c.hears_in.ensures

pub returns-in_default : goal.returns-in_default
returns-in_default g c =
    let t = g.T.Steps in
    begins_without t.stand t.here t.did t.moved c.args.self.now c.args.steps.now c.enter_turn.new.steps c.requires.agrees c.safepoint-safepoint.result
    c.enter_turn.new.self c.enter_turn.result c.next_call-next.result c.safepoint-safepoint.ensures c.enter_turn.ensures.turned
    c.in_default.not-In c.requires.task c.goes_out.new.self c.goes_out.result c.goes_out.ensures.task c.goes_out.ensures.answer
    (g.G.Gate.told c.args.gate.now) _ c.self.view_is c.pass-passed.result c.pass-passed.ensures c.next_call-next.ensures c.requires.target
