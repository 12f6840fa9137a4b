-- The board as contracts see it, and what a step makes of it.
use Rattle.std.specs.Prelude.{◌≡◌, ◌≢◌, ℕ, ◌<◌, Bool, List, length, Option, Some, None, is_some, slice_get, slice_index, slice_index_or}
use Rattle.std.specs.Prelude.{slice_set}
use Rattle.kn_base.specs.declared.heap.Sizes.{Sizes}
use Rattle.kn_base.specs.declared.places.Place.{Place}
use Rattle.kn_base.specs.declared.places.Place.TheVariants.{Frame}
use Rattle.kn_base.specs.declared.kinds.FrameKind.TheVariants as frames
use Rattle.kn_base.specs.Sizes.{frame_count}
use Rattle.kn_base.specs.Pages.{FrameView}
use Rattle.kn_graph.specs.declared.entries.Entry.{Entry}
use Rattle.kn_graph.specs.Ground.{Ground, IsGoodGround}
use Rattle.kn_rule.specs.declared.steps.Kind.{Kind}
use Rattle.kn_rule.specs.declared.steps.Kind.TheVariants.{K10, K11}
use Rattle.kn_rule.specs.Decoding.{frame_of}
use Rattle.kn_rule.specs.Places.{Within, index, table_words}
use Rattle.kn_rule.specs.Views.{View, State, Open, flattened, owns}
use Rattle.kn_rule.specs.Steps.{Step, Found, callers, frame_in, more, word_wanted, word_after}
use Rattle.kn_rule.specs.Outcomes.{outcome}
use Rattle.kn_rule.specs.Moves.{IsPageOf, view_after}
use Rattle.kn_rule.specs.Rule.{Rule, fresh}
use Rattle.kn_steps.specs.Made.{Stand}

-- the sizes and the layouts, the words in their order, the page in the slot of each frame, the view of each caller, and the
-- history
pub record World : Type 0 where
  pub heap : Ground
  pub words : List ℕ
  pub slots : List (Option FrameView)
  pub views : List View
  pub history : List Entry

abbrev pub world : Ground → List ℕ → List (Option FrameView) → List View → List Entry → World
world z words slots views history = record { heap = z; words = words; slots = slots; views = views; history = history }

abbrev pub word_at : World → Place → ℕ
word_at w p = slice_index w.words (index w.heap.sizes p)

abbrev pub slot_at : World → ℕ → Option FrameView
slot_at w p = flattened (slice_get w.slots p)

abbrev pub view_at : World → ℕ → View
view_at w c = slice_index_or w.views c (fresh w.heap)

-- the slot of an owned frame is empty, or has the frame's own page, as the owner's view has it
abbrev pub IsSlotOf : Sizes → ℕ → Open → Option FrameView → Type 0
IsSlotOf z p o None = Unit {0}
IsSlotOf z p o (Some page) = IsPageOf z p o page

-- the board stands for a state: it has the state's words, the pages of the frames that are not owned, its views and its
-- history; and the page of an owned frame is in a hand, or is the one that its owner's view tells
pub record StandsFor (w : World) (s : State) : Type 0 where
  pub words : length w.words ≡ table_words w.heap.sizes
  pub slots : length w.slots ≡ frame_count w.heap.sizes
  pub views : length w.views ≡ callers w.heap.sizes
  pub words_are : (p : Place) → Within w.heap.sizes p → word_at w p ≡ s.word p
  pub pages_are : (p : ℕ) → p < frame_count w.heap.sizes → (frame_of (s.word (Frame p))).kind ≢ frames.Owned → slot_at w p ≡ s.page p
  pub views_are : (c : ℕ) → c < callers w.heap.sizes → view_at w c ≡ s.caller c
  pub history_is : w.history ≡ s.history
  pub in_hands : (c p : ℕ) (o : Open) → c < callers w.heap.sizes → owns (view_at w c) p ≡ Some o →
      IsSlotOf w.heap.sizes p o (slot_at w p)

-- the rule holds of the state that the board stands for
abbrev pub Sound : World → Type 0
Sound w = IsGoodGround w.heap × ((s : State) × Rule w.heap s × StandsFor w s)

-- the board after a step of caller c that found f
abbrev pub world_after : World → ℕ → Step → Found → World
world_after w c d f = record w {
  words = slice_set w.words (index w.heap.sizes d.place) (word_after d.act f.word);
  views = slice_set w.views c (view_after w.heap c (view_at w c) d f);
  history = more w.history (outcome w.heap c (view_at w c) d.place d.act f d.kind).says;
}

abbrev pub IsPageFound : Kind → ℕ → Found → Option FrameView → Type 0
IsPageFound K10 old f slot = f.word ≡ old → slot ≡ Some f.page
IsPageFound K11 old f slot = slot ≡ Some f.page
IsPageFound _ old f slot = Unit {0}

-- one step of caller c, which found the word of its place, and in the slot the page that it takes
abbrev pub StepsTo : World → ℕ → Step → Found → World → Type 0
StepsTo w c d f w' =
    (w' ≡ world_after w c d f) × (f.word ≡ word_at w d.place) × IsPageFound d.kind (word_wanted d.act) f (slot_at w (frame_in d.place))

-- a move of the page of frame p: what was in the slot comes out, and the page goes in
abbrev pub MovesTo : World → ℕ → Option FrameView → Option FrameView → World → Type 0
MovesTo w p page result w' = (w' ≡ record w { slots = slice_set w.slots p page }) × (result ≡ slot_at w p)

abbrev pub stand_at : ℕ → World → Stand
stand_at c w = record { heap = w.heap; by = c; view = view_at w c }

-- a page lies in the slot of the frame
abbrev pub lies_at : World → ℕ → Bool
lies_at w p = is_some (slot_at w p)

-- a board with the caller whose steps are made
pub record Seat : Type 0 where
  pub by : ℕ
  pub board : World

abbrev pub seat : ℕ → World → Seat
seat c w = record { by = c; board = w }

abbrev pub seat_stand : Seat → Stand
seat_stand s = stand_at s.by s.board

abbrev pub seat_here : Seat → ℕ → Bool
seat_here s = lies_at s.board

-- a step and a move of the seat's caller
abbrev pub SeatDid : Seat → Step → Found → Seat → Type 0
SeatDid a d f b = (b.by ≡ a.by) × StepsTo a.board a.by d f b.board

abbrev pub SeatMoved : Seat → ℕ → Option FrameView → Option FrameView → Seat → Type 0
SeatMoved a p page result b = (b.by ≡ a.by) × MovesTo a.board p page result b.board
