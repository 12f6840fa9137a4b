use Rattle.std.proofs.Common.{ap, sym, subst, arith}
use Rattle.kn_base.specs.declared.numbers.Span.{Span}
use Rattle.kn_base.specs.Spans.{AreApart}
use Rattle.kn_nextfit.specs.NextFitState.{HasRoomAfter, IsTakenSpan, NextFitState}
use Rattle.kn_nextfit.proofs.page.NextFitPage.release.Goals as goal

pub put-requires-clause-room : goal.put-requires-clause-room
put-requires-clause-room c =
    let room = subst (λ (page : NextFitState). HasRoomAfter page c.args.cell) (sym c.self.view_is) c.requires.room in
    let taken = subst (λ (page : NextFitState). IsTakenSpan page c.args.cell) (sym c.self.view_is) c.requires.cell in
    c.puts_have_room.ensures c.self.inside.free c.args.cell taken.not_free room

pub invariant_of-self : goal.invariant_of-self
invariant_of-self c =
    let p = c.self.inside in
    let taken = subst (λ (page : NextFitState). IsTakenSpan page c.args.cell) (sym c.self.view_is) c.requires.cell in
    let list = c.put.ensures.within p.frame taken.in_frame c.self.invariant.list in
    record { span = c.self.invariant.span; list = list; room = omega (arith, ap (λ ranges. ranges.room) c.put.ensures.after, c.self.invariant.room) }

pub returns-clause-others : goal.returns-clause-others
returns-clause-others c =
    let p = c.self.inside in
    let after : NextFitState = record { frame = p.frame; spans = c.put.new.self.spans; cursor = p.cursor; room = c.put.new.self.room } in
    let Stays : NextFitState → Type 0 = λ page. (other : Span) → AreApart other c.args.cell → IsTakenSpan page other → IsTakenSpan after other in
    subst Stays c.self.view_is (λ other apart taken. record {
      not_empty = taken.not_empty;
      in_frame = taken.in_frame;
      not_free = c.put.ensures.others other taken.not_empty.0 apart taken.not_free;
    })
