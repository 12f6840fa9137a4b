-- What is stored of a frame that a caller owns.
use Rattle.std.specs.Prelude.{ℕ, ◌<◌, ◌≤◌, ◌⊎◌, List, [], ◌∷◌, filter, length, nat_lt, Option}
use Rattle.kn_base.specs.declared.numbers.Span.{Span}
use Rattle.kn_base.specs.Spans.{LiesIn}
use Rattle.kn_base.specs.SpanLists.{HasWord, Covers, IsFreeList, IsFreeListOf}
use Rattle.kn_ranges.specs.FreeSpans.{FreeSpans}

-- the cell lies in one of the spans
abbrev pub LiesInOne : List Span → Span → Type 0
LiesInOne [] cell = ⊥
LiesInOne (span ∷ spans) cell = LiesIn cell span ⊎ LiesInOne spans cell

-- those of the spans that have a word
abbrev pub with_words : List Span → List Span
with_words = filter (λ span. nat_lt 0 span.len)

-- the cell has a word and lies in one span of a free list, which has room for one more
pub record IsCutOf (free : FreeSpans) (cell : Span) : Type 0 where
  pub list : IsFreeList free.spans
  pub word : 0 < cell.len
  pub inside : LiesInOne free.spans cell
  pub room : length free.spans < free.room

-- what is stored of a frame: who owns it, and what that caller's view has of it
pub record Hold : Type 0 where
  pub by : Option ℕ
  pub word : ℕ
  pub free : FreeSpans
  pub cursor : ℕ

-- a cell that has a word, and whose words are all free, lies in one span of a free list
abbrev pub FreeCellsLieInOne : Type 0
FreeCellsLieInOne =
    (free : List Span) (cell : Span) → IsFreeList free → 0 < cell.len → ((a : ℕ) → HasWord cell a → Covers free a) → LiesInOne free cell

-- a free list of a frame of two words or more has fewer spans than the frame has words
abbrev pub FreeListsAreShort : Type 0
FreeListsAreShort = (frame : Span) (free : List Span) → 2 ≤ frame.len → IsFreeListOf frame free → length free < frame.len
