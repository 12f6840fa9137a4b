-- Laws of free spans, for the pages that keep them.
use Rattle.std.specs.Prelude.{ℕ, ◌+◌, ◌<◌, ◌≤◌, ◌≡◌, List, [], ◌∷◌, Some, All, length}
use Rattle.std.specs.Option.{option_map}
use Rattle.kn_base.specs.declared.numbers.Span.{Span}
use Rattle.kn_base.specs.Spans.{AreApart, LiesIn, end_of}
use Rattle.kn_base.specs.SpanLists.{IsFreeList, first_fit, front_of, put_in, without, words_between}
use Rattle.kn_ranges.specs.FreeSpans.{FreeSpans, HasRoomFor, page_room}
use Rattle.kn_ranges.specs.Cells.{AreOnCells, IsTakenCell, LeavesWholeCells}

-- a span may be put in where there is room for the list with it
abbrev pub PutsHaveRoom : Type 0
PutsHaveRoom = (free : FreeSpans) (span : Span) → All (AreApart span) free.spans → length (put_in span free.spans) ≤ free.room → HasRoomFor free span

-- without its first n words a span is the words behind them
abbrev pub FrontsLeaveRests : Type 0
FrontsLeaveRests = (n : ℕ) (span : Span) → n ≤ span.len → without (front_of n span) (span ∷ []) ≡ words_between (span.start + n) (end_of span)

-- where the first cell of the first span with room for one is taken, it is a taken cell, and the spans are on cells
abbrev pub CellsAreTaken : Type 0
CellsAreTaken =
    (frame : Span) (words : ℕ) (spans : List Span) (cell : Span) → 0 < words → AreOnCells frame words spans
    → Some cell ≡ option_map (front_of words) (first_fit words spans)
    → AreOnCells frame words (without cell spans) × IsTakenCell frame words (without cell spans) cell

-- where a taken cell is put in, the spans are on cells, and a page has room for it
abbrev pub CellsAreReleased : Type 0
CellsAreReleased =
    (frame : Span) (words : ℕ) (free : FreeSpans) (cell : Span) → 2 ≤ words → page_room frame ≤ free.room → AreOnCells frame words free.spans
    → IsTakenCell frame words free.spans cell
    → AreOnCells frame words (put_in cell free.spans) × HasRoomFor free cell

-- where the words of a frame that are not free are whole cells, its spans are on cells, and a page has room for them
abbrev pub WholeCellsAreLeft : Type 0
WholeCellsAreLeft =
    (frame : Span) (words : ℕ) (spans : List Span) → 2 ≤ words → IsFreeList spans → All (λ span. LiesIn span frame) spans
    → LeavesWholeCells frame words spans
    → AreOnCells frame words spans × (length spans ≤ page_room frame)
