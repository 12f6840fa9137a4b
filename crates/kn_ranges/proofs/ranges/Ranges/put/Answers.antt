use Rattle.std.proofs.Common.{◌+◌, ◌≡◌, All, List, ap, sym, subst, arith}
use Rattle.std.proofs.lemmas.List.Elements.{All-from_recursion, recursion_from_All}
use Rattle.kn_base.specs.declared.numbers.Span.{Span}
use Rattle.kn_base.specs.SpanLists.{IsFreeListOf, put_in}
use Rattle.kn_base.specs.Spans.{AreApart, end_of}
use Rattle.kn_ranges.specs.FreeSpans.{FreeSpans}
use Rattle.kn_ranges.proofs.Putting.{apart_put_in}
use Rattle.kn_ranges.proofs.Words.{apart_kept_put_in}
use Rattle.kn_ranges.proofs.ranges.Ranges.put.Goals as goal

pub returns-clause-free_list : goal.returns-clause-free_list
returns-clause-free_list c =
    let span : Span = c.args.span in
    rw c.put_span.ensures (apart_put_in 0 _ span c.self.inside.free.spans (omega arith) c.requires.span.0 c.requires.span.1 c.self.invariant)

pub invariant_of-self : goal.invariant_of-self
invariant_of-self c = returns-clause-free_list c

pub returns-clause-within : goal.returns-clause-within
returns-clause-within c = λ frame lies list.
    let span : Span = c.args.span in
    let items : List Span = c.self.inside.free.spans in
    let spans_is : c.args.self.now.spans ≡ items = ap (λ (v : FreeSpans). v.spans) (sym c.self.view_is) in
    rw c.put_span.ensures
    (apart_put_in frame.start (end_of frame + 1) span items lies.0 c.requires.span.0 (omega (arith, lies.1)) (subst (IsFreeListOf frame) spans_is list))

pub returns-clause-others : goal.returns-clause-others
returns-clause-others c = λ other some beside apart.
    let span : Span = c.args.span in
    let items : List Span = c.self.inside.free.spans in
    let spans_is : c.args.self.now.spans ≡ items = ap (λ (v : FreeSpans). v.spans) (sym c.self.view_is) in
    let before = recursion_from_All (AreApart other) items (subst (λ xs. All (AreApart other) xs) spans_is apart) in
    rw c.put_span.ensures
    (All-from_recursion (AreApart other) (put_in span items)
    (apart_kept_put_in 0 _ span other items (omega arith) c.requires.span.0 c.requires.span.1 some c.self.invariant beside before))
