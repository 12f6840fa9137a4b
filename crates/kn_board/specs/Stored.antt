-- What a board keeps of what it stores.
use Rattle.std.specs.Prelude.{◌≡◌, ℕ, ◌<◌, List, [], length, Option, Some, None, slice_get, slice_index_or}
use Rattle.kn_base.specs.declared.heap.Sizes.{Sizes}
use Rattle.kn_base.specs.Sizes.{frame_count}
use Rattle.kn_base.specs.SpanLists.{IsFreeListOf}
use Rattle.kn_base.specs.Pages.{FrameView}
use Rattle.kn_graph.specs.declared.entries.Entry.{Entry}
use Rattle.kn_graph.specs.Ground.{Ground}
use Rattle.kn_rule.specs.FrameSpans.{frame_span}
use Rattle.kn_rule.specs.Views.{flattened}
use Rattle.kn_rule.specs.Steps.{callers}
use Rattle.kn_view.specs.Parts.{Part, new_part}
use Rattle.kn_holds.specs.Holds.{Hold}
use Rattle.kn_board.specs.Room.{AreMade}

-- what is stored of a frame of so many words that nobody owns
abbrev pub nobody : ℕ → Hold
nobody words = record { by = None; word = 0; free = record { spans = []; room = words }; cursor = 0 }

-- what is stored of a frame that a caller claims with a word and with this page
abbrev pub claimed : ℕ → ℕ → FrameView → Hold → Hold
claimed by word page hold = record { by = Some by; word = word; free = record hold.free { spans = page.free }; cursor = page.cursor }

abbrev pub hold_at : List Hold → ℕ → Hold
hold_at holds p = slice_index_or holds p (nobody 0)

abbrev pub part_at : Ground → List Part → ℕ → Part
part_at z known c = slice_index_or known c (new_part z)

-- a place for each frame in what a caller saw and refused, and for each mutator in those counted and those ended
abbrev pub IsWide : Sizes → Part → Type 0
IsWide z part = (length part.seen ≡ frame_count z) × (length part.refused ≡ frame_count z)
    × (length part.counted ≡ z.threads) × (length part.ended ≡ z.threads)

-- there is one hold for each frame, with room for as many spans as the frame has words; what it has of an owned frame is a
-- free list of the frame
pub record HoldsFit (z : Sizes) (holds : List Hold) : Type 0 where
  pub count : length holds ≡ frame_count z
  pub rooms : (p : ℕ) → p < frame_count z → (hold_at holds p).free.room ≡ (frame_span z p).len
  pub lists : (p c : ℕ) → p < frame_count z → (hold_at holds p).by ≡ Some c → IsFreeListOf (frame_span z p) (hold_at holds p).free.spans

-- there is one hold for each frame, of a frame that nobody owns
pub record AreUnowned (z : Sizes) (holds : List Hold) : Type 0 where
  pub count : length holds ≡ frame_count z
  pub each : (p : ℕ) → p < frame_count z → hold_at holds p ≡ nobody (frame_span z p).len

-- the free spans of the page in a frame's slot are a free list of the frame
abbrev pub PagesFit : Sizes → List (Option FrameView) → Type 0
PagesFit z slots = (p : ℕ) (page : FrameView) → p < frame_count z → flattened (slice_get slots p) ≡ Some page →
    IsFreeListOf (frame_span z p) page.free

-- what is stored has its room, and the history is of calls and pauses
pub record Kept (z : Ground) (slots : List (Option FrameView)) (known : List Part) (holds : List Hold) (history : List Entry)
    : Type 0 where
  pub wide : (c : ℕ) → c < callers z.sizes → IsWide z.sizes (part_at z known c)
  pub frames : HoldsFit z.sizes holds
  pub pages : PagesFit z.sizes slots
  pub made : AreMade z.sizes.threads history
