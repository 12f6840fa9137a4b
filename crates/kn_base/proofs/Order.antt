-- Where the first span of a list lies that begins at or after an address.
use Rattle.std.proofs.Common.{ℕ, ◌+◌, ◌<◌, ◌≤◌, ◌≡◌, List, [], ◌∷◌, length, take, drop, slice_index_or, true, false, nat_lt, inl}
use Rattle.std.proofs.Common.{inr, arith}
use Rattle.std.specs.List.{AllByRecursion}
use Rattle.std.specs.List.Sorted.{IsNonDecreasingBy, IsPartitionPoint}
use Rattle.std.proofs.lemmas.Bool.{cases_eq}
use borrow.Author.Tests.{ltb-true, ltb-false}
use Rattle.std.proofs.lemmas.List.{get_or-take, get_or-drop, length-drop, length-take-le}
use Rattle.std.proofs.lemmas.List.Elements.{recursion_from_All}
use Rattle.kn_base.specs.declared.numbers.Span.{Span}
use Rattle.kn_base.specs.SpanLists.{StandApart}
use Rattle.kn_base.specs.Spans.{end_of}
use Rattle.kn_base.proofs.Apart.{apart_by_index}

-- spans that stand apart begin in order
pub begin_in_order : (low high : ℕ) (spans : List Span) → StandApart low high spans → IsNonDecreasingBy (λ span. span.start) spans
begin_in_order low high spans a j k d p q =
    elim (cases_eq j k) [
      | inl same ↦ rw same (omega arith)
      | inr other ↦ let less = apart_by_index low high spans j k d a (omega arith) q in omega arith
    ]

-- where the first of them begins at or after an address, all do
pub begin_from_first : (low high from : ℕ) (spans : List Span) → StandApart low high spans
    → ((d : Span) → 0 < length spans → from ≤ (slice_index_or spans 0 d).start) → AllByRecursion (λ span. from ≤ span.start) spans
begin_from_first low high from [] a first = tt
begin_from_first low high from (s ∷ spans) a first =
    let here : from ≤ s.start = first s (omega arith) in
    (here, later (end_of s + 1) high from spans (omega arith) a.3)
  where
    later : (low high from : ℕ) (spans : List Span) → from ≤ low → StandApart low high spans → AllByRecursion (λ span. from ≤ span.start) spans
    later low high from [] h a = tt
    later low high from (s ∷ spans) h a = (omega (arith, a.0), later (end_of s + 1) high from spans (omega (arith, a.0)) a.3)

-- the place where those that begin before an address end
pub parted_at : (from place : ℕ) (spans : List Span) → place ≤ length spans
    → IsPartitionPoint (λ span. nat_lt span.start from ≡ true) (λ span. nat_lt span.start from ≡ false) spans place
    → AllByRecursion (λ span. span.start < from) (take place spans) × AllByRecursion (λ span. from ≤ span.start) (drop place spans)
parted_at from place spans h point =
    let Before : Span → Type 0 = λ span. span.start < from in
    let Behind : Span → Type 0 = λ span. from ≤ span.start in (
      recursion_from_All Before (take place spans) (λ k d within.
          let in_front : k < place = omega (arith, length-take-le place spans h) in
          rw (get_or-take place spans k d in_front) (ltb-true _ from (point.0 k d (omega arith) in_front))),
      recursion_from_All Behind (drop place spans) (λ k d within.
          rw (get_or-drop place spans k d) (ltb-false _ from (point.1 (place + k) d (omega arith) (omega (arith, length-drop place spans))))),
    )
