use Rattle.std.proofs.Common.{sym, subst}
use Rattle.kn_alloc.specs.Keeps.{Keeps}
use Rattle.kn_alloc.specs.Agree.{Agrees}
use Rattle.kn_alloc.proofs.Goes.{gave_home, may_give_home}
use Rattle.kn_alloc.proofs.alloc.ThreadAlloc.gives_home.Goals as goal

pub store-requires : goal.store-requires
store-requires g c =
    may_give_home c.args.self.now (g.T.Steps.stand c.args.steps.now) (g.T.Steps.here c.args.steps.now) c.requires.agrees c.args.frame c.args.word
    c.requires.stage

pub returns-clause-agrees : goal.returns-clause-agrees
returns-clause-agrees g c =
    let b = g.T.Steps.stand c.store.new.self in
    let here' = g.T.Steps.here c.store.new.self in
    subst (λ (m : Keeps). Agrees m b here') (sym c.goes_to.ensures)
    (gave_home c.args.self.now (g.T.Steps.stand c.args.steps.now) (g.T.Steps.here c.args.steps.now) c.requires.agrees c.args.frame c.args.word
    c.requires.stage b here' c.store.ensures.0 c.store.ensures.1 c.requires.no_call)
