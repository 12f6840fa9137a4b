-- What a next-fit page is seen as, and which span a request takes.
use Rattle.std.specs.Prelude.{ℕ, ◌≤◌, List, [], ◌∷◌, Option, All, length}
use Rattle.std.specs.Option.{option_or}
use Rattle.kn_base.specs.declared.numbers.Span.{Span}
use Rattle.kn_base.specs.Spans.{IsSpan, LiesIn, AreApart}
use Rattle.kn_ranges.specs.FreeSpans.{FreeSpans, page_room}
use Rattle.kn_base.specs.SpanLists.{IsFreeListOf, first_fit, spans_from, put_in}

-- the frame's span, the free spans in order, the address from which the next span is looked for, and how many
-- free spans there is room for
pub record NextFitState : Type 0 where
  pub frame : Span
  pub spans : List Span
  pub cursor : ℕ
  pub room : ℕ

-- all words of the frame are free, and the cursor is its start
abbrev pub whole_next_fit_page : Span → ℕ → NextFitState
whole_next_fit_page frame room = record { frame = frame; spans = frame ∷ []; cursor = frame.start; room = room }

-- among the spans whose start is at or after the cursor, the first with n words; if there is none, the first of
-- all spans with n words
abbrev pub next_fit : ℕ → ℕ → List Span → Option Span
next_fit n cursor spans = option_or (first_fit n (spans_from cursor spans)) (first_fit n spans)

-- a span of taken words of the frame
pub record IsTakenSpan (page : NextFitState) (cell : Span) : Type 0 where
  pub not_empty : IsSpan cell
  pub in_frame : LiesIn cell page.frame
  pub not_free : All (AreApart cell) page.spans

-- the free spans with the cell put in are at most the room
abbrev pub HasRoomAfter : NextFitState → Span → Type 0
HasRoomAfter page cell = length (put_in cell page.spans) ≤ page.room

-- the spans lie in the frame, and there is room for them
abbrev pub CanHold : NextFitState → List Span → Type 0
CanHold page spans = All (λ span. LiesIn span page.frame) spans × (length spans ≤ page.room)

-- what a page keeps: its free spans lie in its frame, and there is room for as many as cells of 2 words ask for
pub record IsNextFit (frame : Span) (free : FreeSpans) : Type 0 where
  pub span : IsSpan frame
  pub list : IsFreeListOf frame free.spans
  pub room : page_room frame ≤ free.room
