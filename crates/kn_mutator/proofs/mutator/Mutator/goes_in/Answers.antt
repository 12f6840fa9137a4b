use Rattle.std.proofs.Common.{None, refl}
use Rattle.kn_safepoint.specs.declared.stage.Stage.TheVariants.{GoesIn}
use Rattle.kn_mutator.proofs.WayIn.{agrees_going, goes_on_in, may_turn}
use Rattle.kn_mutator.proofs.mutator.Mutator.goes_in.Goals as goal

pub enter_turn-requires-clause-agrees : goal.enter_turn-requires-clause-agrees
enter_turn-requires-clause-agrees g c = λ κs near.
    let t = g.T.Steps in
    let s = c.args.steps.now in
    agrees_going c.args.self.now (t.stand s) (t.here s) c.requires.agrees c.safepoint-safepoint.result c.requires.task c.safepoint-safepoint.ensures

pub enter_turn-requires-clause-may : goal.enter_turn-requires-clause-may
enter_turn-requires-clause-may g c = λ κs near.
    let t = g.T.Steps in
    let s = c.args.steps.now in
    may_turn (t.stand s) (t.here s) None c.args.self.now.by GoesIn refl c.safepoint-safepoint.result c.safepoint-safepoint.ensures

pub returns : goal.returns
returns g c =
    let t = g.T.Steps in
    goes_on_in t.stand t.here t.did t.moved c.args.self.now c.args.steps.now c.enter_turn.new.steps c.requires.agrees c.safepoint-safepoint.result
    c.enter_turn.new.self c.enter_turn.result c.requires.task c.safepoint-safepoint.ensures c.enter_turn.ensures.turned c.goes_to.new.self
    c.goes_to.ensures
