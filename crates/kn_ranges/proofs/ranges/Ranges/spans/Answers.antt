use Rattle.std.proofs.Common.{◌≡◌, All, List, ap, sym, subst}
use Rattle.std.proofs.lemmas.List.Elements.{recursion_from_All}
use Rattle.kn_base.specs.declared.numbers.Span.{Span}
use Rattle.kn_base.specs.SpanLists.{IsFreeListOf}
use Rattle.kn_base.specs.Spans.{LiesIn}
use Rattle.kn_ranges.specs.FreeSpans.{FreeSpans}
use Rattle.kn_base.proofs.Apart.{apart_in_frame}
use Rattle.kn_ranges.proofs.ranges.Ranges.spans.Goals as goal

pub returns-clause-within : goal.returns-clause-within
returns-clause-within c = λ frame lie.
    let items : List Span = c.self.inside.free.spans in
    let spans_is : items ≡ c.args.self.now.spans = ap (λ (v : FreeSpans). v.spans) c.self.view_is in
    let Inside : Span → Type 0 = λ span. LiesIn span frame in
    subst (IsFreeListOf frame) spans_is
    (apart_in_frame 0 _ frame items c.self.invariant (recursion_from_All Inside items (subst (λ xs. All Inside xs) (sym spans_is) lie)))
