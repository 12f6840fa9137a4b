use Rattle.std.proofs.Common.{◌-◌, ◌<◌, List, length, nat_lt, arith, rules}
use Rattle.std.specs.List.{HoldsAt}
use Rattle.std.proofs.lemmas.List.Sorted.{IsPartitionPoint-from_clause, IsPartitionedBy-ltb}
use Rattle.kn_base.specs.declared.numbers.Span.{Span}
use Rattle.kn_base.specs.Spans.{LiesIn, end_of}
use Rattle.kn_base.proofs.Order.{begin_in_order}
use Rattle.kn_holds.proofs.Places.{ends_within, place_first, place_last}
use Rattle.kn_holds.proofs.free.place_of.Goals as goal
use Rattle.kn_holds.proofs.free.place_of.Goals.{After-partition_point}

pub returns-then-end-cell-clause-inside : goal.returns-then-end-cell-clause-inside
returns-then-end-cell-clause-inside c =
    let none : Span = record { start = 0; len = 0 } in
    (place_first 0 _ c.args.spans.now c.args.cell c.requires.list c.requires.word c.requires.inside none (omega arith)).1

pub end-end-requires : goal.end-end-requires
end-end-requires c = ends_within 0 _ c.args.spans.now c.args.cell c.requires.list c.requires.inside

-- the place that the search finds is the one behind the span
found : (c : After-partition_point) → (0 < c.partition_point.result) × (c.partition_point.result - 1 < length c.args.spans.now)
    × HoldsAt (LiesIn c.args.cell) c.args.spans.now (c.partition_point.result - 1)
found c =
    let spans : List Span = c.args.spans.now in
    let end = end_of c.args.cell in
    let none : Span = record { start = 0; len = 0 } in
    let ordered = IsPartitionedBy-ltb (λ (span : Span). span.start) spans end (begin_in_order 0 _ spans c.requires.list) in
    let point = IsPartitionPoint-from_clause (λ (span : Span). nat_lt span.start end) spans c.partition_point.result
    c.partition_point.ensures.partitioned ordered (λ a r q k. search rules) in
    place_last 0 _ spans c.args.cell c.requires.list c.requires.word c.requires.inside c.partition_point.result none
    c.partition_point.ensures.bound point

pub overflow_sub-result : goal.overflow_sub-result
overflow_sub-result c = (found c).0

pub returns-clause-inside : goal.returns-clause-inside
returns-clause-inside c = (found c).2
