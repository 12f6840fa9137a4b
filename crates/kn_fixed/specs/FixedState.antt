-- What a page of fixed cells is seen as.
use Rattle.std.specs.Prelude.{ℕ, ◌≤◌, List, [], ◌∷◌}
use Rattle.kn_base.specs.declared.numbers.Span.{Span}
use Rattle.kn_base.specs.Classes.{IsCellSize}
use Rattle.kn_base.specs.Spans.{IsSpan}
use Rattle.kn_ranges.specs.Cells.{AreOnCells}
use Rattle.kn_ranges.specs.FreeSpans.{FreeSpans, page_room}

-- the frame's span, the words of a cell, and the free spans in order
pub record FixedState : Type 0 where
  pub frame : Span
  pub words : ℕ
  pub spans : List Span

-- a page over a frame all of whose words are free
abbrev pub whole_fixed_page : Span → ℕ → FixedState
whole_fixed_page frame words = record { frame = frame; words = words; spans = frame ∷ [] }

-- what a page keeps: its free spans lie in its frame, begin and end with cells, and have room for one more
pub record IsFixed (frame : Span) (words : ℕ) (free : FreeSpans) : Type 0 where
  pub span : IsSpan frame
  pub size : IsCellSize words
  pub cells : AreOnCells frame words free.spans
  pub room : page_room frame ≤ free.room
