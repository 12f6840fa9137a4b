use Rattle.std.proofs.Common.{◌+◌, ◌≤◌, drop, length, ap, ◌∙◌, arith}
use Rattle.std.specs.List.{insert}
use Rattle.std.proofs.lemmas.List.{length-drop}
use Rattle.kn_ranges.specs.FreeSpans.{FreeSpans}
use Rattle.kn_base.proofs.Slots.{drop-insert}
use Rattle.kn_ranges.proofs.span_array.SpanArray.insert.Goals as goal

pub returns-else-is_err : goal.returns-else-is_err
returns-else-is_err c =
    let inside = c.self.inside in
    let first = c.make_space-self-inside.result in
    let slots = c.make_space-self-inside.new.slots in
    let spans = c.make_space-self-inside.ensures.spans in
    let put = rw (c.insert.ensures.succeeds c.make_space-self-inside.ensures.behind) at c.insert.ensures.items in
    let within : first + c.args.place ≤ length slots.items =
    omega (
      arith,
      c.requires.place,
      c.make_space-self-inside.ensures.before,
      ap (λ (free : FreeSpans). length free.spans) c.self.view_is,
      ap length spans,
      length-drop first slots.items,
    ) in
    rw (← c.self.view_is) (ap (λ spans. let array : FreeSpans = record { spans = spans; room = inside.room } in array)
    (ap (drop first) put ∙ drop-insert slots.items first c.args.place c.args.span within ∙ ap (λ list. insert list c.args.place c.args.span) spans))
