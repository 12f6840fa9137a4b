-- One turn of the allocator over one caller's steps.
use Rattle.std.specs.Prelude.{◌≡◌, ℕ, ◌+◌, ◌⊎◌, Bool, Option, Some, None, slice_set}
use Rattle.kn_base.specs.declared.places.Place.TheVariants.{Frame, Side, Body}
use Rattle.kn_base.specs.Pages.{FrameView}
use Rattle.kn_base.specs.declared.numbers.Span.{Span}
use Rattle.kn_rule.specs.declared.steps.Kind.TheVariants.{K8, K11, K12}
use Rattle.kn_rule.specs.declared.steps.Action.TheVariants.{Stores}
use Rattle.kn_rule.specs.Decoding.{frame_of}
use Rattle.kn_rule.specs.Steps.{Step, Found, does}
use Rattle.kn_steps.specs.Made.{Stand, Made, Moved as WasMoved}
use Rattle.kn_page.specs.PageViews.{page_view}
use Rattle.kn_store.specs.declared.look.Look.{Look}
use Rattle.kn_store.specs.declared.look.Look.TheVariants.{Full as IsFull}
use Rattle.kn_store.specs.Search.{Search, IsOver, with_refused}
use Rattle.kn_store.specs.Agree.{Turned as SearchTurned}
use Rattle.kn_alloc.specs.declared.stage.Hand.{Hand}
use Rattle.kn_alloc.specs.declared.stage.Stage.{Stage}
use Rattle.kn_alloc.specs.declared.stage.Stage.TheVariants.{Resting, TooLong, Returns, Refuses, Searches, Takes, Clears, Bears}
use Rattle.kn_alloc.specs.declared.stage.AllocTurn.{AllocTurn}
use Rattle.kn_alloc.specs.declared.stage.AllocTurn.TheVariants.{Moved, Born, Full}
use Rattle.kn_alloc.specs.Keeps.{Keeps, HasHand, Tries, born_mark, claim_word, home_number, readied, stage_after, stage_behind, word_at}

-- Full where the search was over, and otherwise a turn was made
abbrev pub answer_of : Look → AllocTurn
answer_of IsFull = Full
answer_of _ = Moved

-- behind a frame that was refused the search has ended, or it goes on
abbrev pub EndsOrGoesOn : Search → Stage → AllocTurn → Type 0
EndsOrGoesOn search stage answer =
    (IsOver search × (stage ≡ Resting) × (answer ≡ Full)) ⊎ ((¬ IsOver search) × (stage ≡ Searches) × (answer ≡ Moved))

module _ {T : Type 0} (stand : T → Stand) (here : T → ℕ → Bool) (did : T → Step → Found → T → Type 0)
    (moved : T → ℕ → Option FrameView → Option FrameView → T → Type 0) where
  -- this step was made
  pub record MakesStep (d : Step) (s s' : T) : Type 0 where
    pub found : Found
    pub made : Made (stand s) (here s) d found (stand s') (here s')
    pub kept : did s d found s'

  -- the page in hand of the class went into its slot
  pub record GoesBack (m : Keeps) (s s' : T) (m' : Keeps) (reply : AllocTurn) : Type 0 where
    pub hand : Hand
    pub had : HasHand m.hands m.class hand
    pub result : Option FrameView
    pub made : WasMoved (stand s) (here s) hand.frame (Some (page_view hand.page)) result (stand s') (here s')
    pub kept : moved s hand.frame (Some (page_view hand.page)) result s'
    pub after : m' ≡ record m { hands = slice_set m.hands m.class None; stage = Refuses hand.frame (home_number hand) }
    pub answer : reply ≡ Moved

  -- the frame was given back, and is refused
  pub record IsRefused (p word : ℕ) (m : Keeps) (s s' : T) (m' : Keeps) (reply : AllocTurn) : Type 0 where
    pub made : MakesStep (does K11 (Frame p) (Stores word)) s s'
    pub stage : Stage
    pub after : m' ≡ record m { search = with_refused m.search p; stage = stage }
    pub behind : EndsOrGoesOn (with_refused m.search p) stage reply

  -- the search made its turn
  pub record Seeks (m : Keeps) (s s' : T) (m' : Keeps) (reply : AllocTurn) : Type 0 where
    pub search : Search
    pub look : Look
    pub turned : SearchTurned stand here did m.search s s' search look
    pub after : m' ≡ record m { search = search; stage = stage_behind look }
    pub answer : reply ≡ answer_of look

  -- the page of a frame that was claimed came into the hand, and was asked for a cell
  pub record TakesPage (p old : ℕ) (m : Keeps) (s s' : T) (m' : Keeps) (reply : AllocTurn) : Type 0 where
    pub page : FrameView
    pub made : WasMoved (stand s) (here s) p None (Some page) (stand s') (here s')
    pub kept : moved s p None (Some page) s'
    pub hand : Hand
    pub stage : Stage
    pub frame : hand.frame ≡ p
    pub stamp : hand.stamp ≡ (claim_word m old).stamp
    pub tries : Tries (readied (frame_of old).kind m.class page) m.words (page_view hand.page) stage
    pub after : m' ≡ record m { hands = slice_set m.hands m.class (Some hand); stage = stage }
    pub answer : reply ≡ Moved

  -- a word of the cell was cleared
  pub record ClearsWord (cell : Span) (i : ℕ) (m : Keeps) (s s' : T) (m' : Keeps) (reply : AllocTurn) : Type 0 where
    pub made : MakesStep (does K12 (Body (cell.start + i)) (Stores (word_at m i))) s s'
    pub after : m' ≡ record m { stage = stage_after cell i }
    pub answer : reply ≡ Moved

  -- the cell was born
  pub record BearsCell (cell : Span) (m : Keeps) (s s' : T) (m' : Keeps) (reply : AllocTurn) : Type 0 where
    pub made : MakesStep (does K8 (Side cell.start) (Stores (born_mark m.epoch))) s s'
    pub after : m' ≡ record m { stage = Resting }
    pub answer : reply ≡ Born cell.start

  -- a request that is too long was answered, and no step was made
  pub record IsDenied (m : Keeps) (s s' : T) (m' : Keeps) (reply : AllocTurn) : Type 0 where
    pub still : s' ≡ s
    pub after : m' ≡ record m { stage = Resting }
    pub answer : reply ≡ Full

  -- one turn at a stage: the step or the move that was made, what it found, what is kept after it, and the answer
  abbrev pub TurnedAt : Stage → Keeps → T → T → Keeps → AllocTurn → Type 0
  TurnedAt TooLong = IsDenied
  TurnedAt Returns = GoesBack
  TurnedAt (Refuses p word) = IsRefused p word
  TurnedAt Searches = Seeks
  TurnedAt (Takes p old) = TakesPage p old
  TurnedAt (Clears cell i) = ClearsWord cell i
  TurnedAt (Bears cell) = BearsCell cell
  TurnedAt _ = λ m s s' m' answer. ⊥

  abbrev pub Turned : Keeps → T → T → Keeps → AllocTurn → Type 0
  Turned m s s' m' answer = TurnedAt m.stage m s s' m' answer

-- a turn at a stage that leaves this search is answered Full: the request was too long, or the search has ended in it
abbrev pub IsFullAt : Stage → Search → Type 0
IsFullAt TooLong search = Unit {0}
IsFullAt Searches search = IsOver search
IsFullAt (Refuses p word) search = IsOver search
IsFullAt _ search = ⊥

-- the turn at this stage bears the cell at the address
abbrev pub IsBornAt : Stage → ℕ → Type 0
IsBornAt (Bears cell) address = cell.start ≡ address
IsBornAt _ address = ⊥
