use Rattle.std.proofs.Common.{sym, ap, ◌∙◌, subst}
use Rattle.kn_alloc.specs.Keeps.{Keeps, stage_behind}
use Rattle.kn_alloc.specs.declared.stage.AllocTurn.{AllocTurn}
use Rattle.kn_alloc.specs.Tells.{TellsView}
use Rattle.kn_alloc.specs.Agree.{Agrees, IsSweeping}
use Rattle.kn_alloc.proofs.Claims.{finder_agrees}
use Rattle.kn_alloc.proofs.Searched.{search_tells, searched}
use Rattle.kn_alloc.proofs.alloc.ThreadAlloc.searches.Goals as goal

pub seeks-look-requires-clause-agrees : goal.seeks-look-requires-clause-agrees
seeks-look-requires-clause-agrees g c =
    finder_agrees c.args.self.now (g.T.Steps.stand c.args.steps.now) (g.T.Steps.here c.args.steps.now) c.requires.agrees c.requires.stage

pub returns-clause-agrees : goal.returns-clause-agrees
returns-clause-agrees g c = λ still.
    let m = c.args.self.now in
    let a = g.T.Steps.stand c.args.steps.now in
    let b = g.T.Steps.stand c.seeks-look.new.steps in
    let here' = g.T.Steps.here c.seeks-look.new.steps in
    let look = c.seeks-look.result in
    let h = c.seeks-look.ensures in
    let q' = c.seeks-look.new.self.search in
    let t = h.turned in
    let e = c.goes_behind.ensures ∙ (λ i. record (h.kept i) { stage = stage_behind look }) in
    subst (λ (q : Keeps). Agrees q b here') (sym e)
    (searched m a (g.T.Steps.here c.args.steps.now) c.requires.agrees c.requires.stage q' b here' t.step t.found t.made look t.turn h.agrees
    (λ l o. let f = sym l ∙ h.full.1 o in absurd (cc)) h.saw h.ended (λ w. still (subst IsSweeping (sym (ap (λ (q : Keeps). q.stage) e)) w)))

pub returns-clause-tells : goal.returns-clause-tells
returns-clause-tells g c =
    let m = c.args.self.now in
    let a = g.T.Steps.stand c.args.steps.now in
    let b = g.T.Steps.stand c.seeks-look.new.steps in
    let h = c.seeks-look.ensures in
    let t = h.turned in
    subst (λ (r : AllocTurn). TellsView m.stage r a b) (sym c.answer_of.ensures)
    (search_tells m.stage a (g.T.Steps.here c.args.steps.now) b (g.T.Steps.here c.seeks-look.new.steps) m.search c.seeks-look.new.self.search t.step
    t.found t.made c.seeks-look.result t.turn h.saw h.ended)
