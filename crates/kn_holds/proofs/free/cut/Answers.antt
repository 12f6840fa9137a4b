use Rattle.std.proofs.Common.{◌-◌, ◌<◌, ◌≡◌, List, length, slice_index_or, sym, ap, ◌∙◌, subst, arith}
use Rattle.kn_base.specs.declared.numbers.Span.{Span}
use Rattle.kn_base.specs.Spans.{LiesIn, end_of}
use Rattle.kn_base.proofs.Apart.{apart_at_index}
use Rattle.kn_ranges.specs.FreeSpans.{FreeSpans}
use Rattle.kn_holds.proofs.Places.{ends_within}
use Rattle.kn_holds.proofs.Cuts.{left_of, without_at}
use Rattle.kn_holds.proofs.free.cut.Goals as goal

pub end-requires : goal.end-requires
end-requires c = ends_within 0 _ c.args.free.now.spans c.args.cell c.requires.list c.requires.inside

pub end-requires-2 : goal.end-requires-2
end-requires-2 c =
    let place = c.place_of-place.result in
    let none : Span = record { start = 0; len = 0 } in
    let within = subst (λ (xs : List Span). place < length xs) c.spans.ensures.spans c.place_of-place.ensures.within in
    let at = apart_at_index 0 _ c.args.free.now.spans place none c.requires.list within in
    subst (λ (xs : List Span). end_of (slice_index_or xs place none) < 4294967296) (sym c.spans-2.ensures.spans) at.2

pub returns : goal.returns
returns c =
    let spans : List Span = c.args.free.now.spans in
    let cell : Span = c.args.cell in
    let place = c.place_of-place.result in
    let none : Span = record { start = 0; len = 0 } in
    let at : List Span → Span = λ xs. slice_index_or xs place none in
    let span : Span = at c.spans-2.result.now in
    let left : Span = c.new-left.result in
    let right : Span = c.new-right.result in
    let within : place < length spans = subst (λ (xs : List Span). place < length xs) c.spans.ensures.spans c.place_of-place.ensures.within in
    let inside : LiesIn cell (at spans) = subst (λ (xs : List Span). LiesIn cell (at xs)) c.spans.ensures.spans (c.place_of-place.ensures.inside none) in
    let same : span ≡ at spans = ap at c.spans-2.ensures.spans in
    let words = ap (λ (s : Span). s.len) c.new-right.ensures in
    let left_words : left.len ≡ cell.start - (at spans).start =
    ap (λ (s : Span). s.len) c.new-left.ensures ∙ ap (λ (s : Span). cell.start - s.start) same in
    let right_words : right.len ≡ end_of (at spans) - end_of cell =
    omega (arith, words, c.end-2.ensures, c.end-3.ensures, ap (λ (s : Span). end_of s) same) in
    let rest = left_of cell (at spans) left right inside (ap (λ (s : Span). s.start) c.new-left.ensures ∙ ap (λ (s : Span). s.start) same) left_words
    (ap (λ (s : Span). s.start) c.new-right.ensures ∙ c.end.ensures) right_words in
    c.leave.ensures
    ∙ ap (λ xs. let new : FreeSpans = record { spans = xs; room = c.args.free.now.room } in new)
    (without_at 0 _ spans cell place none left right c.requires.list within inside rest)
