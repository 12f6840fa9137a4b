use Rattle.std.proofs.Common.{ap}
use Rattle.std.proofs.lemmas.List.{drop-set-add}
use Rattle.kn_ranges.specs.FreeSpans.{FreeSpans}
use Rattle.kn_ranges.proofs.span_array.SpanArray.set.Goals as goal

pub returns : goal.returns
returns c =
    let inside = c.self.inside in
    rw (← c.self.view_is)
    (ap (λ spans. let array : FreeSpans = record { spans = spans; room = inside.room } in array)
    (drop-set-add inside.first inside.slots.items c.args.place c.args.span))
