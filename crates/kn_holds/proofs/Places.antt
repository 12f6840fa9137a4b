-- Where a cell lies in a list of free spans.
use Rattle.std.proofs.Common.{ℕ, suc, ◌+◌, ◌-◌, ◌<◌, ◌≤◌, ◌≡◌, List, [], ◌∷◌, length, slice_index_or}
use Rattle.std.proofs.Common.{true, false, nat_lt, subst, inl, inr, arith}
use Rattle.std.specs.List.{HoldsAt}
use Rattle.std.specs.List.Sorted.{IsPartitionPoint}
use Rattle.std.proofs.lemmas.Bool.{cases_lt}
use borrow.Author.Tests.{ltb-true, ltb-false}
use Rattle.kn_base.specs.declared.numbers.Span.{Span}
use Rattle.kn_base.specs.Spans.{LiesIn, end_of}
use Rattle.kn_base.specs.SpanLists.{Covers, HasWord, StandApart}
use Rattle.kn_base.proofs.Apart.{apart_by_index, words_from}
use Rattle.kn_holds.specs.Holds.{FreeCellsLieInOne, LiesInOne}

-- a cell that lies in one span lies in the span at some place
pub place_in : (spans : List Span) (cell : Span) → LiesInOne spans cell → (k : ℕ) × (k < length spans) × HoldsAt (LiesIn cell) spans k
place_in [] cell h = absurd h
place_in (s ∷ spans) cell (inl here) = (0, omega arith, λ d. here)
place_in (s ∷ spans) cell (inr later) = let r = place_in spans cell later in (suc r.0, omega (arith, r.1), r.2)

-- it ends where the list's spans end, or before
pub ends_within : (low high : ℕ) (spans : List Span) (cell : Span) → StandApart low high spans → LiesInOne spans cell → end_of cell < high
ends_within low high [] cell apart h = absurd h
ends_within low high (s ∷ spans) cell apart (inl here) = omega (arith, here.1, apart.2)
ends_within low high (s ∷ spans) cell apart (inr later) = ends_within (end_of s + 1) high spans cell apart.3 later

module _ (low high : ℕ) (spans : List Span) (cell : Span) (apart : StandApart low high spans) (word : 0 < cell.len) (one : LiesInOne spans cell) where
  -- it is the first place where that span ends behind the cell's start
  pub place_first : (d : Span) → cell.start < end_of (slice_index_or spans 0 d) → (0 < length spans) × HoldsAt (LiesIn cell) spans 0
  place_first d ends =
      let at = place_in spans cell one in
      let lies = at.2 d in
      let same : at.0 ≡ 0 =
      elim (cases_lt 0 at.0) as (λ _. at.0 ≡ 0) [
        | inl more ↦ let past = apart_by_index low high spans 0 at.0 d apart more at.1 in absurd (omega (arith, past, ends, lies.0))
        | inr none ↦ omega arith
      ] in
      (omega (arith, at.1), subst (λ n. HoldsAt (LiesIn cell) spans n) same at.2)

  -- and else the last place where the span begins before the cell's end
  pub place_last : (place : ℕ) (d : Span) → place ≤ length spans
      → IsPartitionPoint (λ span. nat_lt span.start (end_of cell) ≡ true) (λ span. nat_lt span.start (end_of cell) ≡ false) spans place
      → (0 < place) × (place - 1 < length spans) × HoldsAt (LiesIn cell) spans (place - 1)
  place_last place d bound point =
      let at = place_in spans cell one in
      let k = at.0 in
      let lies = at.2 d in
      let begins : k < place =
      elim (cases_lt k place) as (λ _. k < place) [
        | inl less ↦ less
        | inr more ↦ let behind = ltb-false _ (end_of cell) (point.1 k d more at.1) in absurd (omega (arith, behind, lies.0))
      ] in
      let ends : place ≤ k + 1 =
      elim (cases_lt (k + 1) place) as (λ _. place ≤ k + 1) [
        | inr more ↦ more
        | inl less ↦
            let before = ltb-true _ (end_of cell) (point.0 (k + 1) d (omega arith) less) in
            let past = apart_by_index low high spans k (k + 1) d apart (omega arith) (omega arith) in
            absurd (omega (arith, before, past, lies.1))
      ] in
      let same : k ≡ place - 1 = omega arith in
      (omega arith, omega (arith, at.1), subst (λ n. HoldsAt (LiesIn cell) spans n) same at.2)

-- a cell whose words are all free lies in one span
one_of : (low high : ℕ) (free : List Span) (cell : Span) → StandApart low high free → 0 < cell.len
    → ((a : ℕ) → HasWord cell a → Covers free a) → LiesInOne free cell
one_of low high [] cell apart word covers = covers cell.start (omega arith, omega arith)
one_of low high (s ∷ free) cell apart word covers =
    elim (covers cell.start (omega arith, omega arith)) as (λ _. LiesInOne (s ∷ free) cell) [
      | inl here ↦ elim (cases_lt (end_of s) (end_of cell)) as (λ _. LiesInOne (s ∷ free) cell) [
        | inr ends ↦ inl (here.0, ends)
        | inl past ↦ elim (covers (end_of s) (omega (arith, here.1), past)) as (λ _. LiesInOne (s ∷ free) cell) [
          | inl own ↦ absurd (omega (arith, own.1))
          | inr later ↦ let from = words_from (end_of s + 1) high free (end_of s) apart.3 later in absurd (omega (arith, from))
        ]
      ]
      | inr later ↦
          let from = words_from (end_of s + 1) high free cell.start apart.3 later in
          inr (one_of (end_of s + 1) high free cell apart.3 word (λ a has. elim (covers a has) as (λ _. Covers free a) [
            | inl own ↦ absurd (omega (arith, own.1, has.0, from))
            | inr rest ↦ rest
          ]))
    ]

pub lies_in_one : FreeCellsLieInOne
lies_in_one free cell list word covers = one_of 0 _ free cell list word covers
