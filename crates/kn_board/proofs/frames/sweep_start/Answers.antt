use Rattle.kn_board.proofs.Unswept.{unswept_begun, other_begun}
use Rattle.kn_board.proofs.frames.sweep_start.Goals as goal

pub returns-then-wanted-eq4 : goal.returns-then-wanted-eq4
returns-then-wanted-eq4 c =
    unswept_begun c.args.sizes.now c.args.frame c.args.wanted c.span_of.result c.span_of.ensures c.if-wanted-eq4.true

pub returns-else-wanted-eq4 : goal.returns-else-wanted-eq4
returns-else-wanted-eq4 c = other_begun c.args.sizes.now c.args.frame c.args.wanted c.if-wanted-eq4.false
