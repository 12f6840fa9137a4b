-- What the allocator of a thread keeps.
use Rattle.std.specs.Prelude.{◌≡◌, ℕ, ◌+◌, ◌==◌, ◌⊎◌, false, true, cond, List, Option, Some, None, replicate, slice_get, slice_set}
use Rattle.kn_base.specs.declared.numbers.Span.{Span}
use Rattle.kn_base.specs.declared.heap.Sizes.{Sizes}
use Rattle.kn_base.specs.declared.kinds.FrameKind.{FrameKind}
use Rattle.kn_base.specs.declared.kinds.FrameKind.TheVariants as frames
use Rattle.kn_base.specs.declared.frame_word.FrameWord.{FrameWord}
use Rattle.kn_base.specs.Pages.{FrameView, IsWholePage, whole_view}
use Rattle.kn_base.specs.declared.kinds.Colour.TheVariants.{Black}
use Rattle.kn_base.specs.Words.{IsHeaderWord, packed_frame, packed_header, packed_mark}
use Rattle.kn_rule.specs.Decoding.{PacksFrame, frame_of}
use Rattle.kn_rule.specs.Requests.{class_for, home_word, is_too_long, owned_word}
use Rattle.kn_page.specs.PageViews.{page_view}
use Rattle.kn_store.specs.declared.look.Look.{Look}
use Rattle.kn_store.specs.declared.look.Look.TheVariants.{Looking, Found, Full}
use Rattle.kn_store.specs.Search.{Search, new_search}
use Rattle.kn_alloc.specs.declared.alloc.TheConstants.{CLASSES}
use Rattle.kn_alloc.specs.declared.stage.Hand.{Hand}
use Rattle.kn_alloc.specs.declared.stage.Stage.{Stage}
use Rattle.kn_alloc.specs.declared.stage.Stage.TheVariants.{Resting, TooLong, Returns, Searches, Takes, Sweeps, Clears, Bears}
use Rattle.kn_alloc.specs.declared.stage.Request.{Request}
use Rattle.kn_alloc.specs.declared.stage.Request.TheVariants.{Cell}
use Rattle.kn_alloc.specs.Cells.{CannotServe, IsBeside, TakesCell}

-- over a heap of these sizes, a caller's request of so many words of a class, with this header and in this epoch; the stage;
-- the pages in hand, by class; and the search
pub record Keeps : Type 0 where
  pub sizes : Sizes
  pub by : ℕ
  pub class : ℕ
  pub words : ℕ
  pub header : ℕ
  pub epoch : ℕ
  pub stage : Stage
  pub hands : List (Option Hand)
  pub search : Search

-- an allocator that has made no turn
abbrev pub new_keeps : Sizes → ℕ → Keeps
new_keeps z by = record {
  sizes = z;
  by = by;
  class = 2;
  words = 0;
  header = 0;
  epoch = 0;
  stage = Resting;
  hands = replicate CLASSES None;
  search = new_search z 2 0 0;
}

-- the page in hand of class k
abbrev pub HasHand : List (Option Hand) → ℕ → Hand → Type 0
HasHand hands k hand = slice_get hands k ≡ Some (Some hand)

-- the class of a frame that is given back as a frame of this kind
abbrev pub class_at : FrameKind → ℕ → ℕ
class_at frames.Empty class = 0
class_at _ class = class

-- the number of the word with which a page in hand goes home
abbrev pub home_number : Hand → ℕ
home_number hand =
    let page = page_view hand.page in
    packed_frame (home_word page.frame (record { kind = frames.Owned; class = page.class; stamp = hand.stamp; seat = 0 }) page.free)

-- a page is asked for a cell of n words: it gives one, whose words are cleared next, or it goes back to its slot next
abbrev pub Tries : FrameView → ℕ → FrameView → Stage → Type 0
Tries page n left stage =
    (CannotServe page n × (left ≡ page) × (stage ≡ Returns)) ⊎ ((cell : Span) × TakesCell page n left cell × (stage ≡ Clears cell 0))

-- the stage behind a page that was asked
abbrev pub stage_tried : Option Span → Stage
stage_tried None = Returns
stage_tried (Some cell) = Clears cell 0

-- the request with these pages in hand, at this stage
abbrev pub begun : Keeps → ℕ → ℕ → ℕ → List (Option Hand) → Stage → Keeps
begun m words header epoch hands stage = record m {
  class = class_for m.sizes words;
  words = words;
  header = header;
  epoch = epoch;
  hands = hands;
  stage = stage;
  search = new_search m.search.sizes (class_for m.sizes words) m.by epoch;
}

abbrev pub header_asked : Request → ℕ
header_asked (Cell layout length words) = packed_header (record { layout = layout; length = length; extra = 0 })

abbrev pub words_of_request : Request → ℕ
words_of_request (Cell layout length words) = words

-- the layout and the length of a request are those of a header
abbrev pub IsHeaderOf : Request → Type 0
IsHeaderOf (Cell layout length words) = IsHeaderWord (record { layout = layout; length = length; extra = 0 })

-- each page in hand has the class of its place
abbrev pub AreByClass : List (Option Hand) → Type 0
AreByClass hands = (k : ℕ) (hand : Hand) → HasHand hands k hand → (page_view hand.page).class ≡ k

-- a page was asked for a cell, and is in the hand of the class
pub record TriesHand (m : Keeps) (hand : Hand) (m' : Keeps) : Type 0 where
  pub left : Hand
  pub stage : Stage
  pub frame : left.frame ≡ hand.frame
  pub stamp : left.stamp ≡ hand.stamp
  pub tries : Tries (page_view hand.page) m.words (page_view left.page) stage
  pub after : m' ≡ record m { hands = slice_set m.hands m.class (Some left); stage = stage }

-- the page in hand of the class was asked, or a search begins where there is none
abbrev pub LooksInHand : Keeps → Keeps → Type 0
LooksInHand m m' = ((slice_get m.hands m.class ≡ Some None) × (m' ≡ record m { stage = Searches }))
    ⊎ ((hand : Hand) × HasHand m.hands m.class hand × TriesHand m hand m')

-- a request is begun: it is too long, or the page in hand is asked
abbrev pub Starts : Keeps → ℕ → ℕ → ℕ → Keeps → Type 0
Starts m words header epoch m' =
    ((is_too_long m.sizes (class_for m.sizes words) words ≡ true) × (m' ≡ begun m words header epoch m.hands TooLong))
    ⊎ ((is_too_long m.sizes (class_for m.sizes words) words ≡ false) × LooksInHand (begun m words header epoch m.hands m.stage) m')

-- the page of a frame as it is asked for a cell: one that was vacant or empty is remade for the class
abbrev pub readied : FrameKind → ℕ → FrameView → FrameView
readied frames.Vacant class page = whole_view class page.frame
readied frames.Empty class page = whole_view class page.frame
readied _ class page = page

-- the page of a frame that was vacant or empty may be remade for the class
abbrev pub IsReadyFor : FrameKind → ℕ → FrameView → Type 0
IsReadyFor frames.Vacant class page = IsWholePage page × IsBeside page.class class
IsReadyFor frames.Empty class page = IsWholePage page × IsBeside page.class class
IsReadyFor _ class page = Unit {0}

-- the word with which a frame was claimed
abbrev pub claim_word : Keeps → ℕ → FrameWord
claim_word m old = owned_word (frame_of old) m.class m.epoch m.by

abbrev pub found_stage : FrameKind → ℕ → ℕ → Stage
found_stage frames.Unswept p old = Sweeps p
found_stage _ p old = Takes p old

-- the stage behind a turn of the search
abbrev pub stage_behind : Look → Stage
stage_behind Looking = Searches
stage_behind (Found p old) = found_stage (frame_of old).kind p.0 old
stage_behind Full = Resting

-- the word of a frame that was found packs a frame word
abbrev pub IsLookRight : Look → Type 0
IsLookRight (Found p old) = PacksFrame old
IsLookRight _ = Unit {0}

-- word i of the cell, when it is cleared
abbrev pub word_at : Keeps → ℕ → ℕ
word_at m i = cond (i == 0) m.header 0

-- the mark with which an object is born in this epoch: black
abbrev pub born_mark : ℕ → ℕ
born_mark epoch = packed_mark (record { epoch = epoch; colour = Black })

-- the stage behind the clearing of word i of a cell
abbrev pub stage_after : Span → ℕ → Stage
stage_after cell i = cond (i + 1 == cell.len) (Bears cell) (Clears cell (i + 1))
