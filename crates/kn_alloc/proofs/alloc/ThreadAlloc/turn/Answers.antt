use Rattle.kn_alloc.proofs.Turns.{behind_told, born_told, full_told, kept_told, one_told, unswept_told}
use Rattle.kn_alloc.proofs.alloc.ThreadAlloc.turn.Goals as goal

pub returns-clause-full : goal.returns-clause-full
returns-clause-full g c =
    full_told g.T.Steps.stand g.T.Steps.here g.T.Steps.did g.T.Steps.moved c.args.self.now c.goes_on.new.self c.args.steps.now c.goes_on.new.steps
    c.goes_on.result c.args.self.now.stage c.goes_on.ensures.turned

pub returns-clause-born : goal.returns-clause-born
returns-clause-born g c = λ address.
    born_told g.T.Steps.stand g.T.Steps.here g.T.Steps.did g.T.Steps.moved c.args.self.now c.goes_on.new.self c.args.steps.now c.goes_on.new.steps
    c.goes_on.result c.args.self.now.stage address c.goes_on.ensures.turned

pub returns-clause-one : goal.returns-clause-one
returns-clause-one g c = λ ne.
    one_told g.T.Steps.stand g.T.Steps.here g.T.Steps.did g.T.Steps.moved c.args.self.now c.goes_on.new.self c.args.steps.now c.goes_on.new.steps
    c.goes_on.result c.args.self.now.stage c.goes_on.ensures.turned ne

pub returns-clause-unswept : goal.returns-clause-unswept
returns-clause-unswept g c = λ w.
    unswept_told g.T.Steps.stand g.T.Steps.here g.T.Steps.did g.T.Steps.moved c.args.self.now c.goes_on.new.self c.args.steps.now c.goes_on.new.steps
    c.goes_on.result c.args.self.now.stage c.goes_on.ensures.turned w

pub returns-clause-behind : goal.returns-clause-behind
returns-clause-behind g c =
    behind_told g.T.Steps.stand g.T.Steps.here g.T.Steps.did g.T.Steps.moved c.args.self.now c.goes_on.new.self c.args.steps.now c.goes_on.new.steps
    c.goes_on.result c.args.self.now.stage c.goes_on.ensures.turned

pub returns-clause-kept : goal.returns-clause-kept
returns-clause-kept g c =
    kept_told g.T.Steps.stand g.T.Steps.here g.T.Steps.did g.T.Steps.moved c.args.self.now c.goes_on.new.self c.args.steps.now c.goes_on.new.steps
    c.goes_on.result c.args.self.now.stage c.goes_on.ensures.turned
