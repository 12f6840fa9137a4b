-- How what the allocator keeps agrees with what its caller knows.
use Rattle.std.specs.Prelude.{◌≡◌, ℕ, zero, suc, ◌+◌, ◌^◌, ◌<◌, ◌≤◌, ◌==◌, ◌⊎◌, Bool, true, false, cond, List, Option, Some}
use Rattle.std.specs.Prelude.{None, length, replicate, slice_get}
use Rattle.kn_base.specs.declared.numbers.Span.{Span}
use Rattle.kn_base.specs.declared.heap.Sizes.{Sizes}
use Rattle.kn_base.specs.declared.kinds.FrameKind.{FrameKind}
use Rattle.kn_base.specs.declared.kinds.FrameKind.TheVariants as frames
use Rattle.kn_base.specs.declared.classes.TheConstants.{LEAST_CELL, NEXT_FIT_CLASS}
use Rattle.kn_base.specs.Sizes.{frame_count}
use Rattle.kn_base.specs.Spans.{LiesIn, end_of}
use Rattle.kn_base.specs.SpanLists.{IsWhollyFree, without}
use Rattle.kn_base.specs.Words.{packed_frame}
use Rattle.kn_graph.specs.declared.calls.Call.{Call}
use Rattle.kn_graph.specs.Ground.{IsGoodGround}
use Rattle.kn_rule.specs.declared.positions.Position.{Position}
use Rattle.kn_rule.specs.declared.positions.Position.TheVariants.{Calling}
use Rattle.kn_rule.specs.declared.parts.Taken.{Taken}
use Rattle.kn_rule.specs.Decoding.{PacksFrame, frame_of}
use Rattle.kn_rule.specs.FrameSpans.{frame_span}
use Rattle.kn_rule.specs.Moves.{IsPageOf}
use Rattle.kn_rule.specs.Requests.{AreFree, InArea, IsCellOf, birth_of, class_asked, header_for, home_word, is_too_long, is_usable, is_whole, words_asked}
use Rattle.kn_rule.specs.Searches.{refuses}
use Rattle.kn_rule.specs.Steps.{epoch_in}
use Rattle.kn_rule.specs.Views.{Open, View, owns}
use Rattle.kn_steps.specs.Made.{Stand}
use Rattle.kn_page.specs.PageViews.{page_view}
use Rattle.kn_store.specs.Search.{Search, IsOver, count_of, first_of}
use Rattle.kn_store.specs.Agree.{KnowsSame}
use Rattle.kn_alloc.specs.declared.alloc.TheConstants.{CLASSES}
use Rattle.kn_alloc.specs.declared.stage.Hand.{Hand}
use Rattle.kn_alloc.specs.declared.stage.Stage.{Stage}
use Rattle.kn_alloc.specs.declared.stage.Stage.TheVariants.{Resting, TooLong, Returns, Refuses, Searches, Takes, Sweeps, Clears, Bears, PutsHome}
use Rattle.kn_alloc.specs.Cells.{CannotServe}
use Rattle.kn_alloc.specs.Keeps.{Keeps, HasHand, claim_word}

-- what a view has of an owned frame, without a cell
abbrev pub cut_open : Sizes → ℕ → ℕ → Span → Open → Open
cut_open z p class cell o =
    record { word = o.word; free = without cell o.free; cursor = cond (class == NEXT_FIT_CLASS) (end_of cell) (frame_span z p).start }

-- what the page in hand of class k of frame p has, for what the view has: it is without the cell that was taken, of which the
-- view does not know yet
abbrev pub held_as : Sizes → Stage → ℕ → ℕ → ℕ → Open → Open
held_as z (Clears cell zero) class k p o = cond (k == class) (cut_open z p class cell o) o
held_as z (Clears cell (suc i)) class k p o = o
held_as z _ class k p o = o

-- the frame of a page in hand is owned, and the page is its own and out of its slot, of the class and the stamp of the word
pub record InHand (z : Sizes) (v : View) (here : ℕ → Bool) (stage : Stage) (class k : ℕ) (hand : Hand) : Type 0 where
  pub hold : Open
  pub owned : owns v hand.frame ≡ Some hold
  pub near : hand.frame < frame_count z
  pub out : here hand.frame ≡ false
  pub class_is : (frame_of hold.word).class ≡ k
  pub stamp_is : (frame_of hold.word).stamp ≡ hand.stamp
  pub page_class : (page_view hand.page).class ≡ k
  pub page_is : IsPageOf z hand.frame (held_as z stage class k hand.frame hold) (page_view hand.page)

-- the frame is the one of which the stage speaks
abbrev pub IsStaged : Stage → ℕ → Type 0
IsStaged (Refuses p word) q = p ≡ q
IsStaged (Takes p old) q = p ≡ q
IsStaged (Sweeps p) q = p ≡ q
IsStaged (PutsHome p word) q = p ≡ q
IsStaged _ q = ⊥

abbrev pub IsHeld : List (Option Hand) → ℕ → Type 0
IsHeld hands p = (k : ℕ) × (hand : Hand) × HasHand hands k hand × (hand.frame ≡ p)

-- nothing is taken and nothing is swept
abbrev pub IsQuiet : View → Type 0
IsQuiet v = (v.taken ≡ None) × (v.sweep ≡ None)

-- the call under way asks for the request, which fits a frame of its area, and no frame is swept
pub record Asks (m : Keeps) (a : Stand) : Type 0 where
  pub call : Call
  pub is_call : a.view.position ≡ Calling call
  pub is_request : words_asked a.heap call ≡ Some m.words
  pub class : m.class ≡ class_asked a.heap call
  pub header : m.header ≡ header_for (birth_of a.heap call)
  pub epoch : m.epoch ≡ epoch_in a.view
  pub epoch_fits : m.epoch < 2 ^ 32
  pub some : LEAST_CELL ≤ m.words
  pub fits : is_too_long m.sizes m.class m.words ≡ false
  pub none_swept : a.view.sweep ≡ None

-- nothing is taken for the request, and its search knows what the view does
pub record SearchesFor (m : Keeps) (a : Stand) : Type 0 where
  pub asks : Asks m a
  pub none_taken : a.view.taken ≡ None
  pub class : m.search.class ≡ m.class
  pub by : m.search.by ≡ m.by
  pub epoch : m.search.epoch ≡ m.epoch
  pub same : KnowsSame m.search a.view.seen a.view.refused

-- a frame of the area may be refused in a search: it was seen, or no other one was refused before it was
pub record MayRefuse (m : Search) (p : ℕ) : Type 0 where
  pub area : (first_of m ≤ p) × (p < first_of m + count_of m)
  pub once : (p < first_of m + length m.seen) ⊎ (m.early ≡ None)

-- a frame is owned, and its page lies in its slot
pub record LiesHome (z : Sizes) (v : View) (here : ℕ → Bool) (p : ℕ) : Type 0 where
  pub hold : Open
  pub owned : owns v p ≡ Some hold
  pub near : p < frame_count z
  pub lies : here p ≡ true

-- its word is the one with which it is given back
pub record GoesHome (z : Sizes) (v : View) (here : ℕ → Bool) (p word : ℕ) : Type 0 where
  pub home : LiesHome z v here p
  pub is_word : word ≡ packed_frame (home_word (frame_span z p) (frame_of home.hold.word) home.hold.free)

-- the page in hand has no cell for the request, and goes back to its slot
pub record IsToReturn (m : Keeps) (a : Stand) (here : ℕ → Bool) : Type 0 where
  pub search : SearchesFor m a
  pub hand : Hand
  pub had : HasHand m.hands m.class hand
  pub cannot : CannotServe (page_view hand.page) m.words
  pub may : MayRefuse m.search hand.frame

-- a frame whose page has no cell for the request is given back
pub record IsToRefuse (p word : ℕ) (m : Keeps) (a : Stand) (here : ℕ → Bool) : Type 0 where
  pub search : SearchesFor m a
  pub no_hand : slice_get m.hands m.class ≡ Some None
  pub home : GoesHome a.heap.sizes a.view here p word
  pub refused : (call : Call) (o : Open) → a.view.position ≡ Calling call → owns a.view p ≡ Some o → refuses a.heap call (Some m.words) p o ≡ true
  pub may : MayRefuse m.search p

-- the search goes on
pub record IsToSearch (m : Keeps) (a : Stand) (here : ℕ → Bool) : Type 0 where
  pub search : SearchesFor m a
  pub no_hand : slice_get m.hands m.class ≡ Some None
  pub going : ¬ IsOver m.search

-- the page of a frame that was vacant or empty is wholly free, and no page of another one is
abbrev pub IsOpenAs : FrameKind → Span → List Span → Type 0
IsOpenAs frames.Vacant frame free = IsWhollyFree frame free
IsOpenAs frames.Empty frame free = IsWhollyFree frame free
IsOpenAs frames.Ready frame free = is_whole frame free ≡ false
IsOpenAs _ frame free = ⊥

-- a frame was claimed, whose page is in its slot yet
pub record IsToTake (p old : ℕ) (m : Keeps) (a : Stand) (here : ℕ → Bool) : Type 0 where
  pub search : SearchesFor m a
  pub no_hand : slice_get m.hands m.class ≡ Some None
  pub home : LiesHome a.heap.sizes a.view here p
  pub is_word : home.hold.word ≡ packed_frame (claim_word m old)
  pub packs : PacksFrame old
  pub usable : is_usable m.class old ≡ true
  pub state : IsOpenAs (frame_of old).kind (frame_span a.heap.sizes p) home.hold.free
  pub in_area : InArea a.heap.sizes p m.class
  pub may : MayRefuse m.search p

-- a cell was taken out of the page in hand, and no word of it is cleared
pub record IsToClear (cell : Span) (m : Keeps) (a : Stand) (here : ℕ → Bool) : Type 0 where
  pub asks : Asks m a
  pub none_taken : a.view.taken ≡ None
  pub hand : Hand
  pub had : HasHand m.hands m.class hand
  pub hold : Open
  pub owned : owns a.view hand.frame ≡ Some hold
  pub len : cell.len ≡ m.words
  pub free : AreFree hold.free cell
  pub inside : LiesIn cell (frame_span a.heap.sizes hand.frame)
  pub placed : IsCellOf m.class (frame_span a.heap.sizes hand.frame) cell
  pub ends : end_of cell < 2 ^ 32

-- n words of the cell are cleared
pub record IsCleared (cell : Span) (n : ℕ) (m : Keeps) (a : Stand) (here : ℕ → Bool) : Type 0 where
  pub asks : Asks m a
  pub taken : Taken
  pub is_taken : a.view.taken ≡ Some taken
  pub span : taken.span ≡ cell
  pub cleared : taken.cleared ≡ n
  pub within : n ≤ cell.len
  pub ends : end_of cell < 2 ^ 32

-- what each stage needs
abbrev pub AtStage : Stage → Keeps → Stand → (ℕ → Bool) → Type 0
AtStage Resting m a here = IsQuiet a.view
AtStage TooLong m a here = IsQuiet a.view
AtStage Returns m a here = IsToReturn m a here
AtStage (Refuses p word) m a here = IsToRefuse p word m a here
AtStage Searches m a here = IsToSearch m a here
AtStage (Takes p old) m a here = IsToTake p old m a here
AtStage (Sweeps p) m a here = ⊥
AtStage (Clears cell zero) m a here = IsToClear cell m a here
AtStage (Clears cell (suc i)) m a here = IsCleared cell (suc i) m a here × (suc i < cell.len)
AtStage (Bears cell) m a here = IsCleared cell cell.len m a here
AtStage (PutsHome p word) m a here = IsQuiet a.view × GoesHome a.heap.sizes a.view here p word

-- whose allocator it is, over which heap; the pages in hand are those of frames that the caller owns, and each frame that it
-- owns is in a hand or the stage's
pub record Agrees (m : Keeps) (a : Stand) (here : ℕ → Bool) : Type 0 where
  pub good : IsGoodGround a.heap
  pub sizes : a.heap.sizes ≡ m.sizes
  pub caller : a.by ≡ m.by
  pub thread : m.by < a.heap.sizes.threads
  pub search_sizes : m.search.sizes ≡ m.sizes
  pub classes : length m.hands ≡ CLASSES
  pub hands : (k : ℕ) (hand : Hand) → HasHand m.hands k hand → InHand a.heap.sizes a.view here m.stage m.class k hand
  pub held : (p : ℕ) (o : Open) → owns a.view p ≡ Some o → IsHeld m.hands p ⊎ IsStaged m.stage p
  pub at : AtStage m.stage m a here

-- the call that has just begun asks for a cell of so many words with this header, in this epoch
pub record HasBegun (a : Stand) (words header epoch : ℕ) : Type 0 where
  pub call : Call
  pub is_call : a.view.position ≡ Calling call
  pub is_request : words_asked a.heap call ≡ Some words
  pub is_header : header ≡ header_for (birth_of a.heap call)
  pub is_epoch : epoch ≡ epoch_in a.view
  pub seen : a.view.seen ≡ replicate (frame_count a.heap.sizes) None
  pub refused : a.view.refused ≡ replicate (frame_count a.heap.sizes) false

-- the stage is that of a sweep
abbrev pub IsSweeping : Stage → Type 0
IsSweeping (Sweeps p) = Unit {0}
IsSweeping _ = ⊥

-- a turn may be made: a request is under way, and not at a sweep
abbrev pub MayTurn : Stage → Type 0
MayTurn Resting = ⊥
MayTurn (PutsHome p word) = ⊥
MayTurn (Sweeps p) = ⊥
MayTurn _ = Unit {0}

-- a request is under way that is not too long
abbrev pub IsGetting : Stage → Type 0
IsGetting Resting = ⊥
IsGetting TooLong = ⊥
IsGetting (Sweeps p) = ⊥
IsGetting (PutsHome p word) = ⊥
IsGetting _ = Unit {0}

-- no page goes out: the stage is at rest, or a page goes home
abbrev pub IsIdle : Stage → Type 0
IsIdle Resting = Unit {0}
IsIdle (PutsHome p word) = Unit {0}
IsIdle _ = ⊥

-- no call is under way
abbrev pub IsNoCall : Position → Type 0
IsNoCall (Calling call) = ⊥
IsNoCall _ = Unit {0}
