use Rattle.std.proofs.Common.{All, subst}
use Rattle.std.proofs.lemmas.List.Elements.{All-from_recursion}
use Rattle.kn_fixed.specs.FixedState.{FixedState}
use Rattle.kn_ranges.specs.Cells.{IsOnCells}
use Rattle.kn_fixed.proofs.page.FixedPage.spans.Goals as goal

pub returns-clause-cells : goal.returns-clause-cells
returns-clause-cells c =
    let p = c.self.inside in
    let cells = All-from_recursion (IsOnCells p.frame p.words) p.free.spans c.self.invariant.cells.cells in
    subst (λ (page : FixedState). All (IsOnCells page.frame page.words) page.spans) c.self.view_is cells
