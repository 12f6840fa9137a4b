use Rattle.std.proofs.Common.{None, refl}
use Rattle.kn_mutator.proofs.WayIn.{agrees_entering, in_range, may_for_epoch, room_for_epoch, waits_within, waits_without, word_small}
use Rattle.kn_mutator.proofs.mutator.Mutator.enters_for.Goals as goal

pub enter_turn-requires-clause-agrees : goal.enter_turn-requires-clause-agrees
enter_turn-requires-clause-agrees g c = λ κs near.
    let t = g.T.Steps in
    let s = c.args.steps.now in
    agrees_entering c.args.self.now (t.stand s) (t.here s) c.requires.agrees c.safepoint-safepoint.result c.requires.task
    c.safepoint-safepoint.ensures

pub enter_turn-requires-clause-may : goal.enter_turn-requires-clause-may
enter_turn-requires-clause-may g c = λ κs near.
    let t = g.T.Steps in
    let s = c.args.steps.now in
    may_for_epoch c.args.self.now (t.stand s) (t.here s) c.requires.agrees c.safepoint-safepoint.result c.requires.task
    c.safepoint-safepoint.ensures c.args.target c.requires.target

pub pack-requires : goal.pack-requires
pack-requires g c =
    let t = g.T.Steps in
    in_range t.stand t.here t.did t.moved c.args.self.now c.args.steps.now c.enter_turn.new.steps c.requires.agrees c.safepoint-safepoint.result
    c.enter_turn.new.self c.enter_turn.result None c.safepoint-safepoint.ensures c.enter_turn.ensures.turned c.in-In.phase c.in-In.is

pub waits_in-requires-clause-room : goal.waits_in-requires-clause-room
waits_in-requires-clause-room g c =
    let t = g.T.Steps in
    let s = c.args.steps.now in
    room_for_epoch c.args.self.now (t.stand s) (t.here s) c.requires.agrees c.safepoint-safepoint.result c.requires.task
    c.safepoint-safepoint.ensures c.args.target c.requires.target

pub waits_in-requires-clause-word : goal.waits_in-requires-clause-word
waits_in-requires-clause-word g c =
    let t = g.T.Steps in
    word_small t.stand t.here t.did t.moved c.args.self.now c.args.steps.now c.enter_turn.new.steps c.requires.agrees c.safepoint-safepoint.result
    c.enter_turn.new.self c.enter_turn.result None c.safepoint-safepoint.ensures c.enter_turn.ensures.turned c.in-In.phase c.in-In.is
    c.pack.result c.pack.ensures

pub returns-in-In : goal.returns-in-In
returns-in-In g c =
    let t = g.T.Steps in
    waits_within t.stand t.here t.did t.moved c.args.self.now c.args.steps.now c.enter_turn.new.steps c.requires.agrees c.safepoint-safepoint.result
    c.enter_turn.new.self c.enter_turn.result None c.safepoint-safepoint.ensures c.enter_turn.ensures.turned c.in-In.phase c.in-In.is
    c.pack.result c.pack.ensures c.args.target c.requires.target refl c.requires.task c.waits_in.new.self c.waits_in.result c.waits_in.ensures

pub returns-in_default : goal.returns-in_default
returns-in_default g c =
    let t = g.T.Steps in
    waits_without t.stand t.here t.did t.moved c.args.self.now c.args.steps.now c.enter_turn.new.steps c.requires.agrees c.safepoint-safepoint.result
    c.enter_turn.new.self c.enter_turn.result None c.safepoint-safepoint.ensures c.enter_turn.ensures.turned c.in_default.not-In c.requires.task
    c.goes_out.new.self c.goes_out.result c.goes_out.ensures.task c.goes_out.ensures.answer c.args.target c.requires.target refl
