-- Cells that are out of a list of free spans.
use Rattle.std.specs.Prelude.{ℕ, ◌≡◌, ◌≢◌, ◌≤◌, List, Option, Some, slice_get}
use Rattle.kn_base.specs.declared.numbers.Span.{Span}
use Rattle.kn_base.specs.Spans.{AreApart, IsSpan}
use Rattle.kn_ranges.specs.Cells.{AreOnCells, IsTakenCell}
use Rattle.kn_ranges.specs.FreeSpans.{FreeSpans, page_room}

-- the cells in the slots are taken cells of two words, no two have a word in common, and each may be put back
pub record HoldsCells (frame : Span) (free : FreeSpans) (slots : List (Option Span)) : Type 0 where
  pub span : IsSpan frame
  pub on_cells : AreOnCells frame 2 free.spans
  pub room : page_room frame ≤ free.room
  pub taken : (i : ℕ) (cell : Span) → slice_get slots i ≡ Some (Some cell) → IsTakenCell frame 2 free.spans cell
  pub apart : (i j : ℕ) (a b : Span) → i ≢ j → slice_get slots i ≡ Some (Some a) → slice_get slots j ≡ Some (Some b) → AreApart a b
