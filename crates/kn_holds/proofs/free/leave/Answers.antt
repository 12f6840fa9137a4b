use Rattle.std.proofs.Common.{◌≡◌, List, ap, ◌∙◌}
use Rattle.std.specs.List.{insert}
use Rattle.kn_base.specs.declared.numbers.Span.{Span}
use Rattle.kn_ranges.specs.FreeSpans.{FreeSpans}
use Rattle.kn_holds.proofs.Cuts.{leave_both, leave_left, leave_none, leave_right}
use Rattle.kn_holds.proofs.free.leave.Goals as goal

-- the same room with other spans
with_spans : (free : FreeSpans) (spans spans' : List Span) → spans ≡ spans'
    → ◌≡◌ {A = FreeSpans} (record { spans = spans; room = free.room }) (record { spans = spans'; room = free.room })
with_spans free spans spans' e = ap (λ xs. let new : FreeSpans = record { spans = xs; room = free.room } in new) e

pub returns-in-true-true : goal.returns-in-true-true
returns-in-true-true c =
    let place = c.args.place in
    c.insert.ensures
    ∙ ap (λ (free : FreeSpans). let new : FreeSpans = record { spans = insert free.spans place c.args.left; room = free.room } in new) c.set.ensures
    ∙ with_spans c.args.free.now _ _
    (leave_both c.args.free.now.spans place c.args.left c.args.right c.requires.place c.in-true-true.is-0 c.in-true-true.is-1)

pub returns-in-true-false : goal.returns-in-true-false
returns-in-true-false c =
    c.set-in-true-false.ensures ∙ with_spans c.args.free.now _ _
    (leave_left c.args.free.now.spans c.args.place c.args.left c.args.right c.requires.place c.in-true-false.is-0 c.in-true-false.is-1)

pub returns-in-false-true : goal.returns-in-false-true
returns-in-false-true c =
    c.set-in-false-true.ensures ∙ with_spans c.args.free.now _ _
    (leave_right c.args.free.now.spans c.args.place c.args.left c.args.right c.requires.place c.in-false-true.is-0 c.in-false-true.is-1)

pub returns-in-false-false : goal.returns-in-false-false
returns-in-false-false c =
    c.remove.ensures ∙ with_spans c.args.free.now _ _
    (leave_none c.args.free.now.spans c.args.place c.args.left c.args.right c.requires.place c.in-false-false.is-0 c.in-false-false.is-1)
