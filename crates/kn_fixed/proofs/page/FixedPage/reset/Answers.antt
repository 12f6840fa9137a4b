use Rattle.std.proofs.Common.{All, sym, subst, arith}
use Rattle.kn_base.specs.Spans.{LiesIn}
use Rattle.kn_ranges.specs.Cells.{LeavesWholeCells}
use Rattle.kn_fixed.specs.FixedState.{FixedState}
use Rattle.kn_fixed.proofs.page.FixedPage.reset.Goals as goal

pub refill-requires-clause-room : goal.refill-requires-clause-room
refill-requires-clause-room c =
    let p = c.self.inside in
    let spans = c.args.free.now.spans in
    let within = subst (λ (s : FixedState). All (λ span. LiesIn span s.frame) spans) (sym c.self.view_is) c.requires.within in
    let whole = subst (λ (s : FixedState). LeavesWholeCells s.frame s.words spans) (sym c.self.view_is) c.requires.cells in
    let left = c.whole_cells_are_left.ensures p.frame p.words spans c.self.invariant.size.0 c.spans.ensures.free_list within whole in
    rw c.spans.ensures.spans (omega (arith, left.1, c.self.invariant.room))

pub invariant_of-self : goal.invariant_of-self
invariant_of-self c =
    let p = c.self.inside in
    let spans = c.args.free.now.spans in
    let within = subst (λ (s : FixedState). All (λ span. LiesIn span s.frame) spans) (sym c.self.view_is) c.requires.within in
    let whole = subst (λ (s : FixedState). LeavesWholeCells s.frame s.words spans) (sym c.self.view_is) c.requires.cells in
    let left = c.whole_cells_are_left.ensures p.frame p.words spans c.self.invariant.size.0 c.spans.ensures.free_list within whole in
    let kept = c.self.invariant in
    rw (c.refill.ensures, c.spans.ensures.spans) (record { span = kept.span; size = kept.size; cells = left.0; room = kept.room })
