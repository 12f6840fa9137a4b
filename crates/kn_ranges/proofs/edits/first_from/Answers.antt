use Rattle.std.proofs.Common.{◌<◌, ◌≤◌, ◌≡◌, List, drop, length, take, nat_lt, slice_index_or, sym, ◌∙◌, subst, arith, rules}
use Rattle.std.specs.List.{AllByRecursion}
use Rattle.std.proofs.lemmas.List.{get_or_default}
use Rattle.std.proofs.lemmas.Bool.{eqb-true}
use Rattle.std.proofs.lemmas.List.Sorted.{IsPartitionPoint-from_clause, IsPartitionedBy-ltb}
use Rattle.kn_base.specs.declared.numbers.Span.{Span}
use Rattle.kn_base.proofs.Order.{begin_from_first, begin_in_order, parted_at}
use Rattle.kn_ranges.proofs.edits.first_from.Goals as goal
use Rattle.kn_ranges.proofs.edits.first_from.Goals.{After-partition_point, then-is_empty-via-then-is_empty, then-is_empty-via-else-is_empty+then-spans-low}

-- the place that the search finds parts the spans
parted : (c : After-partition_point) → AllByRecursion (λ (span : Span). span.start < c.args.low) (take c.partition_point.result c.args.spans.now)
    × AllByRecursion (λ (span : Span). c.args.low ≤ span.start) (drop c.partition_point.result c.args.spans.now)
parted c =
    let spans : List Span = c.args.spans.now in
    let ordered = IsPartitionedBy-ltb (λ (span : Span). span.start) spans c.args.low (begin_in_order 0 _ spans c.requires) in
    let point = IsPartitionPoint-from_clause (λ (span : Span). nat_lt span.start c.args.low) spans c.partition_point.result
    c.partition_point.ensures.partitioned ordered (λ a r q k. search rules) in
    parted_at c.args.low c.partition_point.result spans c.partition_point.ensures.bound point

pub returns-clause-before : goal.returns-clause-before
returns-clause-before c = (parted c).0

pub returns-clause-behind : goal.returns-clause-behind
returns-clause-behind c = (parted c).1

pub returns-then-is_empty-clause-behind : goal.returns-then-is_empty-clause-behind
returns-then-is_empty-clause-behind c =
    let spans : List Span = c.args.spans.now in
    let none : Span = record { start = 0; len = 0 } in
    begin_from_first 0 _ c.args.low spans c.requires (λ d some. elim c.then-is_empty.branch as (λ _. c.args.low ≤ (slice_index_or spans 0 d).start) [
      | then-is_empty-via-then-is_empty w ↦ let empty : length spans ≡ 0 =
          eqb-true (length spans) 0 (sym c.is_empty.ensures ∙ w.if-is_empty.true) in absurd
          (omega arith)
      | then-is_empty-via-else-is_empty+then-spans-low w ↦ subst (λ (span : Span). c.args.low ≤ span.start) (get_or_default spans 0 none d some)
          w.if-spans-low.true
    ])
