-- What the laws of this crate say.
use Rattle.std.specs.Prelude.{◌≡◌, ◌≢◌, ℕ, ◌<◌, ◌⊎◌, List, [], ◌∷◌, ◌++◌}
use Rattle.kn_base.specs.declared.places.Place.TheVariants.{Frame}
use Rattle.kn_base.specs.declared.kinds.FrameKind.TheVariants as frames
use Rattle.kn_base.specs.Sizes.{frame_count}
use Rattle.kn_base.specs.Pages.{FrameView}
use Rattle.kn_graph.specs.declared.entries.Entry.{Entry}
use Rattle.kn_graph.specs.Ground.{Ground}
use Rattle.kn_rule.specs.Decoding.{frame_of}
use Rattle.kn_rule.specs.Steps.{callers}
use Rattle.kn_rule.specs.Rule.{fresh}
use Rattle.kn_steps.specs.Made.{LieAs}
use Rattle.kn_steps.specs.Turns.{OneTurn, MetUnswept}
use Rattle.kn_board.specs.Open.{opened}
use Rattle.kn_board.specs.World.{World, Sound, word_at, view_at, lies_at, seat, seat_stand, seat_here, SeatDid, SeatMoved}

-- one turn of caller c on the board
abbrev pub Turn : ℕ → World → World → Type 0
Turn c w w' = OneTurn seat_stand seat_here SeatDid SeatMoved (seat c w) (seat c w')

-- a turn leaves the view of each other caller, and where the pages of that caller's frames lie
abbrev pub OthersStay : Type 0
OthersStay =
    (w w' : World) (c d : ℕ) → Sound w → c < callers w.heap.sizes → d < callers w.heap.sizes → c ≢ d → Turn c w w' →
    (view_at w' d ≡ view_at w d) × LieAs (view_at w d) (lies_at w) (lies_at w')

-- a turn leaves the sizes and the layouts
abbrev pub HeapStays : Type 0
HeapStays = (w w' : World) (c : ℕ) → Turn c w w' → w'.heap ≡ w.heap

-- a history is the same, or has one entry of caller c behind it
abbrev pub GrowsBy : ℕ → List Entry → List Entry → Type 0
GrowsBy c h h' = (h' ≡ h) ⊎ ((entry : Entry) × (entry.by.0 ≡ c) × (h' ≡ h ++ entry ∷ []))

-- a turn says nothing, or one entry of its caller
abbrev pub HistoryGrows : Type 0
HistoryGrows = (w w' : World) (c : ℕ) → Turn c w w' → GrowsBy c w.history w'.history

-- no frame of the board is unswept
abbrev pub NoneUnswept : World → Type 0
NoneUnswept w = (p : ℕ) → p < frame_count w.heap.sizes → (frame_of (word_at w (Frame p))).kind ≢ frames.Unswept

-- where no frame is unswept, a turn leaves none
abbrev pub NoneComesUnswept : Type 0
NoneComesUnswept = (w w' : World) (c : ℕ) → Sound w → c < callers w.heap.sizes → NoneUnswept w → Turn c w w' → NoneUnswept w'

-- at the start no frame is unswept, and the view of each caller is that of one that has made no step
abbrev pub OpenedIsSwept : Type 0
OpenedIsSwept =
    (z : Ground) (pages : List FrameView) → NoneUnswept (opened z pages) × ((c : ℕ) → view_at (opened z pages) c ≡ fresh z)

-- where no frame is unswept, no step meets one
abbrev pub NoneIsMet : Type 0
NoneIsMet =
    (w w' : World) (c : ℕ) → Sound w → c < callers w.heap.sizes → NoneUnswept w →
    MetUnswept seat_stand seat_here SeatDid SeatMoved (seat c w) (seat c w') → ⊥
