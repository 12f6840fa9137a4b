use Rattle.std.proofs.Common.{sym, subst}
use Rattle.kn_alloc.specs.Keeps.{Keeps}
use Rattle.kn_alloc.specs.Agree.{Agrees}
use Rattle.kn_alloc.proofs.Clears.{cleared, cleared_tells, may_clear}
use Rattle.kn_alloc.proofs.alloc.ThreadAlloc.clears.Goals as goal

pub store-requires : goal.store-requires
store-requires g c =
    may_clear c.args.self.now (g.T.Steps.stand c.args.steps.now) (g.T.Steps.here c.args.steps.now) c.requires.agrees c.args.cell c.word_at.result
    c.args.number c.requires.stage c.word_at.ensures

pub returns-clause-agrees : goal.returns-clause-agrees
returns-clause-agrees g c =
    let a = g.T.Steps.stand c.args.steps.now in
    let b = g.T.Steps.stand c.store.new.self in
    let here' = g.T.Steps.here c.store.new.self in
    subst (λ (m : Keeps). Agrees m b here') (sym c.has_cleared.ensures)
    (cleared c.args.self.now a (g.T.Steps.here c.args.steps.now) c.requires.agrees c.args.cell c.word_at.result c.frame_law.ensures
    c.args.number c.requires.stage b here' c.store.ensures.0 c.store.ensures.1)

pub returns-clause-tells : goal.returns-clause-tells
returns-clause-tells g c =
    cleared_tells c.args.self.now (g.T.Steps.stand c.args.steps.now) (g.T.Steps.here c.args.steps.now) c.requires.agrees c.args.cell c.word_at.result
    c.frame_law.ensures c.args.number c.requires.stage (g.T.Steps.stand c.store.new.self) (g.T.Steps.here c.store.new.self) c.store.ensures.0
    c.store.ensures.1
