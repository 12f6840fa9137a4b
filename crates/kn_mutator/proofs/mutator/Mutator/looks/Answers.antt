use Rattle.std.proofs.Common.{None, refl}
use Rattle.kn_safepoint.specs.declared.stage.Stage.TheVariants.{Out}
use Rattle.kn_mutator.proofs.WayIn.{agrees_out, helps_out, looks_out, may_turn}
use Rattle.kn_mutator.proofs.mutator.Mutator.looks.Goals as goal

pub enter_turn-requires-clause-agrees : goal.enter_turn-requires-clause-agrees
enter_turn-requires-clause-agrees g c = λ κs near.
    let t = g.T.Steps in
    let s = c.args.steps.now in
    agrees_out c.args.self.now (t.stand s) (t.here s) c.requires.agrees c.safepoint-safepoint.result c.requires.task c.safepoint-safepoint.ensures

pub enter_turn-requires-clause-may : goal.enter_turn-requires-clause-may
enter_turn-requires-clause-may g c = λ κs near.
    let t = g.T.Steps in
    let s = c.args.steps.now in
    may_turn (t.stand s) (t.here s) None c.args.self.now.by Out refl c.safepoint-safepoint.result c.safepoint-safepoint.ensures

pub returns-in-Help : goal.returns-in-Help
returns-in-Help g c =
    let t = g.T.Steps in
    helps_out t.stand t.here t.did t.moved c.args.self.now c.args.steps.now c.enter_turn.new.steps c.requires.agrees
    c.safepoint-safepoint.result c.enter_turn.new.self c.enter_turn.result c.requires.task c.safepoint-safepoint.ensures
    c.enter_turn.ensures.turned c.in-Help.epoch c.in-Help.is c.starts_to_help.new.self c.starts_to_help.result
    c.starts_to_help.ensures.after c.starts_to_help.ensures.answer

pub returns-in_default : goal.returns-in_default
returns-in_default g c =
    let t = g.T.Steps in
    looks_out t.stand t.here t.did t.moved c.args.self.now c.args.steps.now c.enter_turn.new.steps c.requires.agrees
    c.safepoint-safepoint.result c.enter_turn.new.self c.enter_turn.result c.requires.task c.safepoint-safepoint.ensures
    c.enter_turn.ensures.turned c.in_default.not-Help c.goes_to.new.self c.told.result c.stage.result c.task_for.result
    c.stage.ensures c.task_for.ensures c.goes_to.ensures c.told.ensures
