use Rattle.std.proofs.Common.{ℕ, ◌+◌, ◌<◌, ◌≤◌, ◌≡◌, List, ◌++◌, drop, length, slice_index_or, slice_set, take, ap, sym, ◌∙◌}
use Rattle.std.proofs.Common.{subst, arith}
use Rattle.std.proofs.lemmas.List.{get_or_default}
use Rattle.kn_base.specs.declared.numbers.Span.{Span}
use Rattle.kn_base.specs.SpanLists.{words_between}
use Rattle.kn_base.specs.Spans.{end_of}
use Rattle.kn_ranges.specs.FreeSpans.{FreeSpans}
use Rattle.kn_ranges.proofs.Taking.{cut_part, cut_whole}
use Rattle.kn_ranges.proofs.edits.cut_front.Goals as goal
use Rattle.kn_ranges.proofs.edits.cut_front.Goals.{then-span-n, else-span-n}

-- what is left of a span is said of it, read from either list
read_from : (list spans left : List Span) (place n : ℕ) (d e : Span) → list ≡ spans → place < length spans
    → left ≡ take place spans ++ (words_between ((slice_index_or list place d).start + n) (end_of (slice_index_or list place d)) ++ drop (place + 1) spans)
    → left ≡ take place spans
    ++ (words_between ((slice_index_or spans place e).start + n) (end_of (slice_index_or spans place e)) ++ drop (place + 1) spans)
read_from list spans left place n d e same within h =
    subst (λ (span : Span). left ≡ take place spans ++ (words_between (span.start + n) (end_of span) ++ drop (place + 1) spans))
    (ap (λ xs. slice_index_or xs place d) same ∙ get_or_default spans place d e within) h

pub returns-clause-after : goal.returns-clause-after
returns-clause-after c = λ d.
    let spans : List Span = c.args.spans.now.spans in
    let place = c.args.place in
    let n = c.args.n in
    let none : Span = record { start = 0; len = 0 } in
    let span = slice_index_or c.spans.result.now place none in
    read_from c.spans.result.now spans c.if-span-n.spans.spans place n none d c.spans.ensures.spans c.requires.place (elim c.if-span-n.branch [
      | then-span-n w ↦ ap (λ (free : FreeSpans). free.spans) (w.spans-is ∙ w.remove.ensures) ∙ cut_whole spans place n span w.if-span-n.true
      | else-span-n w ↦
          let differs = w.if-span-n.false in
          let fits = subst (λ xs. n ≤ (slice_index_or xs place none).len) (sym c.spans.ensures.spans) (c.requires.words none) in
          ap (λ (free : FreeSpans). free.spans) (w.spans-is ∙ w.set.ensures) ∙ ap (slice_set spans place) w.new.ensures
          ∙ cut_part spans place n span c.requires.place (omega arith)
    ])
