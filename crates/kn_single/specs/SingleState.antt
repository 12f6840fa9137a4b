-- What a page for a single object is seen as, and the cell that was taken from it.
use Rattle.std.specs.Prelude.{ℕ, ◌≡◌, ◌+◌, ◌<◌, ◌≤◌, List, [], ◌∷◌}
use Rattle.kn_base.specs.declared.numbers.Span.{Span}
use Rattle.kn_base.specs.Spans.{IsSpan, end_of}
use Rattle.kn_ranges.specs.FreeSpans.{FreeSpans, page_room}
use Rattle.kn_base.specs.SpanLists.{words_between}

-- the words of the frame, and its free spans
pub record SingleState : Type 0 where
  pub frame : Span
  pub spans : List Span

-- all words of the frame are free
abbrev pub whole_single_page : Span → SingleState
whole_single_page frame = record { frame = frame; spans = frame ∷ [] }

-- the words of a frame behind its first n ones
abbrev pub words_behind : ℕ → Span → List Span
words_behind n frame = words_between (frame.start + n) (end_of frame)

-- the spans leave nothing of a frame, or one cell at its start
abbrev pub LeavesOneCell : Span → List Span → Type 0
LeavesOneCell frame spans = (n : ℕ) × (n ≤ frame.len) × (spans ≡ words_behind n frame)

-- a span is the cell that was taken: it begins with the frame, and the words behind it are free
pub record IsTakenFront (page : SingleState) (cell : Span) : Type 0 where
  pub at_start : cell.start ≡ page.frame.start
  pub not_empty : 0 < cell.len
  pub within : cell.len ≤ page.frame.len
  pub rest_is_free : page.spans ≡ words_behind cell.len page.frame

-- a cell was taken
abbrev pub HasTakenCell : SingleState → Type 0
HasTakenCell page = (cell : Span) × IsTakenFront page cell

-- what a page keeps: its frame is whole or has one cell at its start, and there is room for a free span
pub record IsSingle (frame : Span) (free : FreeSpans) : Type 0 where
  pub span : IsSpan frame
  pub cell : LeavesOneCell frame free.spans
  pub room : page_room frame ≤ free.room
