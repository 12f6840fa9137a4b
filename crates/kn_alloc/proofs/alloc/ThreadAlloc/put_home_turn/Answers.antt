use Rattle.std.proofs.Common.{refl}
use Rattle.kn_alloc.proofs.Homes.{idle_then, one_home, still_done, tells_home}
use Rattle.kn_alloc.proofs.alloc.ThreadAlloc.put_home_turn.Goals as goal

pub returns-clause-tells : goal.returns-clause-tells
returns-clause-tells g c =
    tells_home g.T.Steps.stand g.T.Steps.here g.T.Steps.did g.T.Steps.moved c.args.self.now c.goes_home.new.self c.args.steps.now c.goes_home.new.steps
    c.args.self.now.stage c.goes_home.result c.goes_home.ensures.went c.requires.no_call

pub returns-clause-one : goal.returns-clause-one
returns-clause-one g c = λ e.
    one_home g.T.Steps.stand g.T.Steps.here g.T.Steps.did g.T.Steps.moved c.args.self.now c.goes_home.new.self c.args.steps.now c.goes_home.new.steps
    c.args.self.now.stage c.goes_home.result c.goes_home.ensures.went e

pub returns-clause-still : goal.returns-clause-still
returns-clause-still g c = λ e.
    still_done g.T.Steps.stand g.T.Steps.here g.T.Steps.did g.T.Steps.moved c.args.self.now c.goes_home.new.self c.args.steps.now c.goes_home.new.steps
    c.args.self.now.stage c.goes_home.result refl c.goes_home.ensures.went e

pub returns-clause-idle : goal.returns-clause-idle
returns-clause-idle g c =
    (idle_then g.T.Steps.stand g.T.Steps.here g.T.Steps.did g.T.Steps.moved c.args.self.now c.goes_home.new.self c.args.steps.now c.goes_home.new.steps
    c.args.self.now.stage c.goes_home.result refl c.goes_home.ensures.went).0

pub returns-clause-kept : goal.returns-clause-kept
returns-clause-kept g c =
    (idle_then g.T.Steps.stand g.T.Steps.here g.T.Steps.did g.T.Steps.moved c.args.self.now c.goes_home.new.self c.args.steps.now c.goes_home.new.steps
    c.args.self.now.stage c.goes_home.result refl c.goes_home.ensures.went).1
