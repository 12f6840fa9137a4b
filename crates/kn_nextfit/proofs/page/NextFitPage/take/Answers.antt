use Rattle.std.proofs.Common.{◌<◌, ap, subst, arith}
use Rattle.kn_base.specs.declared.numbers.Span.{Span}
use Rattle.kn_base.specs.Spans.{AreApart, end_of}
use Rattle.kn_nextfit.specs.NextFitState.{IsTakenSpan, NextFitState}
use Rattle.kn_nextfit.proofs.page.NextFitPage.take.Goals as goal

pub overflow_add-self : goal.overflow_add-self
overflow_add-self c =
    let in_frame = (c.in_ok-cell.ensures.within c.self.inside.frame c.self.invariant.list).1 in
    omega (arith, in_frame.1, c.self.invariant.span.1)

pub invariant_of-self-2 : goal.invariant_of-self-2
invariant_of-self-2 c =
    let list = (c.in_ok-cell.ensures.within c.self.inside.frame c.self.invariant.list).0 in
    record { span = c.self.invariant.span; list = list; room = omega (arith, ap (λ ranges. ranges.room) c.in_ok-cell.ensures.after, c.self.invariant.room) }

pub returns-clause-cell : goal.returns-clause-cell
returns-clause-cell c =
    let cell = c.in_ok-cell.cell in
    let in_frame = (c.in_ok-cell.ensures.within c.self.inside.frame c.self.invariant.list).1 in
    let some : 0 < cell.len = omega (arith, c.in_ok-cell.ensures.len, c.requires) in
    record { not_empty = (some, omega (arith, in_frame.1, c.self.invariant.span.1)); in_frame = in_frame; not_free = c.in_ok-cell.ensures.apart }

pub returns-clause-others : goal.returns-clause-others
returns-clause-others c =
    let p = c.self.inside in
    let cell = c.in_ok-cell.cell in
    let free = c.take_next.new.free in
    let after : NextFitState = record { frame = p.frame; spans = free.spans; cursor = end_of cell; room = free.room } in
    let Stays : NextFitState → Type 0 = λ page. (other : Span) → IsTakenSpan page other → IsTakenSpan after other × AreApart other cell in
    subst Stays c.self.view_is (λ other taken.
    let stays = c.in_ok-cell.ensures.others other taken.not_empty.0 taken.not_free in
    (record { not_empty = taken.not_empty; in_frame = taken.in_frame; not_free = stays.0 }, stays.1))
