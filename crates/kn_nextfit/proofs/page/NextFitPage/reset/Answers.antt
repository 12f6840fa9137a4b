use Rattle.std.proofs.Common.{All, ap, sym, subst, ◌∙◌, arith}
use Rattle.kn_base.specs.Spans.{LiesIn}
use Rattle.kn_base.specs.SpanLists.{IsFreeListOf}
use Rattle.kn_nextfit.specs.NextFitState.{NextFitState}
use Rattle.kn_nextfit.proofs.page.NextFitPage.reset.Goals as goal

pub invariant_of-self : goal.invariant_of-self
invariant_of-self c =
    let frame = c.self.inside.frame in
    let spans = c.args.free.now.spans in
    let within = subst (λ (page : NextFitState). All (λ span. LiesIn span page.frame) spans) (sym c.self.view_is) c.requires.0 in
    let list = c.spans.ensures.within frame within in
    let same = ap (λ ranges. ranges.spans) c.refill.ensures ∙ c.spans.ensures.spans in
    let room = ap (λ ranges. ranges.room) c.refill.ensures in
    record {
      span = c.self.invariant.span;
      list = subst (IsFreeListOf frame) (sym same) list;
      room = omega (arith, room, c.self.invariant.room);
    }
