use Rattle.kn_mutator.proofs.Ones.{one}
use Rattle.kn_mutator.proofs.mutator.Mutator.turn.Goals as goal

pub returns-clause-one : goal.returns-clause-one
returns-clause-one g c =
    let t = g.T.Steps in
    one t.stand t.here t.did t.moved (g.G.Gate.told c.args.gate.now) c.args.self.now c.args.steps.now c.goes_on.new.steps c.goes_on.new.self
    c.goes_on.result c.requires.agrees c.goes_on.ensures.turned
