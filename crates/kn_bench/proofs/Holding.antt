-- What is held of the cells in the slots, where one is taken or put back.
use Rattle.std.proofs.Common.{ℕ, zero, suc, ◌<◌, ◌≡◌, ◌≢◌, List, [], ◌∷◌, Option, Some, None, All, length, slice_set, sym, subst}
use Rattle.std.proofs.Common.{◌∙◌, refl, inl, inr, arith}
use Rattle.std.specs.Prelude.{slice_get}
use Rattle.std.proofs.Math.ListN.{replicate}
use Rattle.std.proofs.lemmas.Bool.{cases_eq}
use Rattle.std.proofs.lemmas.Option.{none-some}
use Rattle.kn_base.specs.declared.numbers.Span.{Span}
use Rattle.kn_base.specs.Spans.{AreApart, IsSpan}
use Rattle.kn_base.proofs.Updates.{get_set_here, get_set_else}
use Rattle.kn_ranges.specs.Cells.{AreOnCells, IsTakenCell}
use Rattle.kn_ranges.specs.FreeSpans.{FreeSpans, page_room}
use Rattle.kn_bench.specs.HoldsCells.{HoldsCells}

-- no slot has a cell at the start
no_cell : (n i : ℕ) (cell : Span) → slice_get (replicate n None) i ≡ Some (Some cell) → ⊥
no_cell zero i cell e = cc
no_cell (suc n) zero cell e = cc
no_cell (suc n) (suc i) cell e = no_cell n i cell e

-- a wholly free frame
pub held_at_start : (frame : Span) (n : ℕ) → IsSpan frame → HoldsCells frame (record { spans = frame ∷ []; room = page_room frame })
    (replicate n None)
held_at_start frame n span = record {
  span = span;
  on_cells = record {
    list = (omega arith, span.0, omega arith, tt);
    cells = (((0, omega arith), inr refl), tt);
  };
  room = omega arith;
  taken = λ i cell e. absurd (no_cell n i cell e);
  apart = λ i j a b differ e f. absurd (no_cell n i a e);
}

-- a span that is apart from another has that one apart from it
other_way : (a b : Span) → AreApart a b → AreApart b a
other_way a b (inl h) = inr h
other_way a b (inr h) = inl h

-- one cell is in a slot that was set, and another in one that was not
module _ (slots : List (Option Span)) (slot : ℕ) (within : slot < length slots) where
  in_set : (value : Option Span) (cell : Span) → slice_get (slice_set slots slot value) slot ≡ Some (Some cell) → value ≡ Some cell
  in_set value cell e = let here = get_set_here slots slot value within in cc

  in_other : (value : Option Span) (i : ℕ) (cell : Span) → slot ≢ i → slice_get (slice_set slots slot value) i ≡ Some (Some cell)
      → slice_get slots i ≡ Some (Some cell)
  in_other value i cell differ e = sym (get_set_else slots slot value i differ) ∙ e

module _ (frame : Span) (old new : FreeSpans) (slots : List (Option Span)) (slot : ℕ) (held : HoldsCells frame old slots)
    (within : slot < length slots) where
  -- a cell taken into a slot
  module _ (cell : Span) (taken : IsTakenCell frame 2 new.spans cell) (others : (other : Span) → 0 < other.len → All (AreApart other) old.spans
      → All (AreApart other) new.spans × AreApart other cell) where
    with_cell : List (Option Span)
    with_cell = slice_set slots slot (Some cell)

    same_cell : (i : ℕ) (c : Span) → slot ≡ i → slice_get with_cell i ≡ Some (Some c) → cell ≡ c
    unfolding with_cell
    same_cell i c here e = let set =
        in_set slots slot within (Some cell) c (subst (λ k. slice_get (slice_set slots slot (Some cell)) k ≡ Some (Some c)) (sym here) e) in cc

    -- the cell of another slot is still taken, and has no word of the new one
    other_cell : (i : ℕ) (c : Span) → slot ≢ i → slice_get with_cell i ≡ Some (Some c) → IsTakenCell frame 2 new.spans c × AreApart c cell
    unfolding with_cell
    other_cell i c differ e =
        let before = held.taken i c (in_other slots slot within (Some cell) i c differ e) in
        let kept = others c (omega (arith, before.0.1)) before.1 in
        ((before.0, kept.0), kept.1)

    cells_apart : (i j : ℕ) (a b : Span) → i ≢ j → slice_get with_cell i ≡ Some (Some a) → slice_get with_cell j ≡ Some (Some b) → AreApart a b
    unfolding with_cell
    cells_apart i j a b differ e f =
        elim (cases_eq slot i) [
          | inl here ↦
              let there : slot ≢ j = λ same. differ (sym here ∙ same) in
              subst (λ c. AreApart c b) (same_cell i a here e) (other_way b cell (other_cell j b there f).1)
          | inr other ↦ elim (cases_eq slot j) [
            | inl here ↦ subst (AreApart a) (same_cell j b here f) (other_cell i a other e).1
            | inr both ↦ held.apart i j a b differ (in_other slots slot within (Some cell) i a other e)
                (in_other slots slot within (Some cell) j b both f)
          ]
        ]

    pub held_after_take : AreOnCells frame 2 new.spans → new.room ≡ old.room → HoldsCells frame new (slice_set slots slot (Some cell))
    unfolding with_cell
    held_after_take on room = record {
      span = held.span;
      on_cells = on;
      room = omega (arith, held.room);
      taken = λ i c e. elim (cases_eq slot i) [
        | inl here ↦ subst (IsTakenCell frame 2 new.spans) (same_cell i c here e) taken
        | inr differ ↦ (other_cell i c differ e).0
      ];
      apart = cells_apart;
    }

  -- the cell of a slot put back
  module _ (cell : Span) (here : slice_get slots slot ≡ Some (Some cell)) (others : (other : Span) → 0 < other.len → AreApart other cell
      → All (AreApart other) old.spans → All (AreApart other) new.spans) where
    -- a cell that is still in a slot is in another one, and was there before
    still : (i : ℕ) (c : Span) → slice_get (slice_set slots slot None) i ≡ Some (Some c) → (slot ≢ i) × (slice_get slots i ≡ Some (Some c))
    still i c e =
        elim (cases_eq slot i) [
          | inl same ↦ let set =
              in_set slots slot within None c (subst (λ k. slice_get (slice_set slots slot None) k ≡ Some (Some c)) (sym same) e) in absurd
              (none-some c set)
          | inr differ ↦ (differ, in_other slots slot within None i c differ e)
        ]

    pub held_after_release : AreOnCells frame 2 new.spans → new.room ≡ old.room → HoldsCells frame new (slice_set slots slot None)
    held_after_release on room = record {
      span = held.span;
      on_cells = on;
      room = omega (arith, held.room);
      taken = λ i c e.
          let before = still i c e in
          let taken = held.taken i c before.1 in
          (taken.0, others c (omega (arith, taken.0.1)) (held.apart i slot c cell (λ same. before.0 (sym same)) before.1 here) taken.1);
      apart = λ i j a b differ e f. held.apart i j a b differ (still i a e).1 (still j b f).1;
    }
