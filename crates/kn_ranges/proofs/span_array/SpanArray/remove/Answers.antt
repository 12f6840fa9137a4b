use Rattle.std.proofs.Common.{◌+◌, ◌<◌, drop, length, ap, ◌∙◌, arith}
use Rattle.std.proofs.lemmas.List.{length-drop}
use Rattle.kn_ranges.specs.FreeSpans.{FreeSpans}
use Rattle.kn_base.proofs.Slots.{drop-remove}
use Rattle.kn_ranges.proofs.span_array.SpanArray.remove.Goals as goal

pub returns-else-place-len : goal.returns-else-place-len
returns-else-place-len c =
    let inside = c.self.inside in
    let within : inside.first + c.args.place < length inside.slots.items =
    omega (arith, c.requires, ap (λ (free : FreeSpans). length free.spans) c.self.view_is, length-drop inside.first inside.slots.items) in
    rw (← c.self.view_is)
    (ap (λ spans. let array : FreeSpans = record { spans = spans; room = inside.room } in array)
    (ap (drop inside.first) c.remove.ensures.items ∙ drop-remove inside.slots.items inside.first c.args.place (omega arith)))
