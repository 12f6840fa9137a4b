-- Frames that are cut into cells of one size, from the frame's start on.
use Rattle.std.specs.Prelude.{ℕ, ◌+◌, ◌*◌, ◌≤◌, ◌≡◌, ◌⊎◌, List, All}
use Rattle.std.specs.List.{AllByRecursion}
use Rattle.kn_base.specs.declared.numbers.Span.{Span}
use Rattle.kn_base.specs.Spans.{end_of, AreApart}
use Rattle.kn_base.specs.SpanLists.{HasWord, Covers, IsFreeListOf}

-- an address is a whole number of cells after the frame's start
abbrev pub IsCellBound : Span → ℕ → ℕ → Type 0
IsCellBound frame words address = (cells : ℕ) × (address ≡ frame.start + cells * words)

-- a span is one of the cells that the frame is cut into
abbrev pub IsCell : Span → ℕ → Span → Type 0
IsCell frame words cell = IsCellBound frame words cell.start × (cell.len ≡ words) × (end_of cell ≤ end_of frame)

-- a span is a cell none of whose words is free
abbrev pub IsTakenCell : Span → ℕ → List Span → Span → Type 0
IsTakenCell frame words spans cell = IsCell frame words cell × All (AreApart cell) spans

-- each word of the frame that is not free is in a taken cell
abbrev pub LeavesWholeCells : Span → ℕ → List Span → Type 0
LeavesWholeCells frame words spans = (word : ℕ) → HasWord frame word → ¬ Covers spans word
    → (cell : Span) × IsTakenCell frame words spans cell × HasWord cell word

-- a free span begins at the start of a cell, and ends at the end of one or at the frame's end
abbrev pub IsOnCells : Span → ℕ → Span → Type 0
IsOnCells frame words span = IsCellBound frame words span.start × (IsCellBound frame words (end_of span) ⊎ (end_of span ≡ end_of frame))

-- a list of free spans of a frame, each of them on cells
pub record AreOnCells (frame : Span) (words : ℕ) (spans : List Span) : Type 0 where
  pub list : IsFreeListOf frame spans
  pub cells : AllByRecursion (IsOnCells frame words) spans
