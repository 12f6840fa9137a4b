-- What a list of free spans is seen as.
use Rattle.std.specs.Prelude.{ℕ, ◌+◌, ◌/◌, ◌<◌, ◌⊎◌, List, length, Any}
use Rattle.kn_base.specs.declared.numbers.Span.{Span}
use Rattle.kn_base.specs.SpanLists.{Touches}

-- the free spans in order, and how many of them there is room for
pub record FreeSpans : Type 0 where
  pub spans : List Span
  pub room : ℕ

-- a span may be put in: there is room for one more, or it touches one
abbrev pub HasRoomFor : FreeSpans → Span → Type 0
HasRoomFor free span = (length free.spans < free.room) ⊎ Any (Touches span) free.spans

-- how many free spans the list of a page over this frame has room for
abbrev pub page_room : Span → ℕ
page_room frame = frame.len / 4 + 1
