use Rattle.std.proofs.Common.{sym, subst}
use Rattle.kn_alloc.specs.Keeps.{Keeps}
use Rattle.kn_alloc.specs.Agree.{Agrees}
use Rattle.kn_alloc.specs.declared.stage.AllocTurn.TheVariants.{Full}
use Rattle.kn_alloc.proofs.Stages.{denied}
use Rattle.kn_alloc.proofs.Told.{tells_none}
use Rattle.kn_alloc.proofs.alloc.ThreadAlloc.denies.Goals as goal

pub returns-clause-agrees : goal.returns-clause-agrees
returns-clause-agrees g c =
    let a = g.T.Steps.stand c.args.steps.now in
    let here = g.T.Steps.here c.args.steps.now in
    subst (λ (m : Keeps). Agrees m a here) (sym c.goes_to.ensures) (denied c.args.self.now a here c.requires.agrees c.requires.stage)

pub returns-clause-tells : goal.returns-clause-tells
returns-clause-tells g c = tells_none c.args.self.now.stage Full (g.T.Steps.stand c.args.steps.now) c.requires.stage
