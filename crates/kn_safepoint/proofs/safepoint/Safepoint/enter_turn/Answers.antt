use Rattle.kn_safepoint.proofs.Turning.{one}
use Rattle.kn_safepoint.proofs.safepoint.Safepoint.enter_turn.Goals as goal

pub returns-clause-one : goal.returns-clause-one
returns-clause-one g c =
    let t = g.T.Steps in
    one t.stand t.here t.did t.moved c.args.self.now c.args.next c.args.steps.now c.goes_on.new.steps c.goes_on.new.self c.goes_on.result
    c.goes_on.ensures.turned
