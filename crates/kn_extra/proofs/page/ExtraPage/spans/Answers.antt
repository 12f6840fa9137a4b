use Rattle.std.proofs.Common.{All, ℕ, subst}
use Rattle.kn_extra.specs.declared.page.TheConstants.{EXTRA_CELL}
use Rattle.kn_extra.specs.ExtraState.{ExtraState}
use Rattle.kn_ranges.specs.Cells.{IsOnCells}
use Rattle.kn_extra.proofs.page.ExtraPage.spans.Goals as goal

pub returns-clause-cells : goal.returns-clause-cells
returns-clause-cells c =
    let cells = c.self.inside.cells in
    let on = subst (λ (words : ℕ). All (IsOnCells cells.frame words) cells.spans) c.self.invariant c.spans.ensures.cells in
    subst (λ (page : ExtraState). All (IsOnCells page.frame EXTRA_CELL) page.spans) c.self.view_is on
