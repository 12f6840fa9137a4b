-- What a step of each kind asks of what is stored of its caller's view.
use Rattle.std.specs.Prelude.{◌≡◌, ℕ, ◌+◌, ◌<◌, ◌^◌, List, Option, Some, None}
use Rattle.kn_base.specs.declared.places.Place.{Place}
use Rattle.kn_base.specs.declared.places.Place.TheVariants.{Phase, State, RootSet, Local, Frame, Side, Body}
use Rattle.kn_base.specs.Sizes.{frame_count}
use Rattle.kn_base.specs.Spans.{LiesIn}
use Rattle.kn_base.specs.Pages.{FrameView}
use Rattle.kn_graph.specs.declared.calls.Call.{Call}
use Rattle.kn_graph.specs.Ground.{Ground}
use Rattle.kn_rule.specs.declared.steps.Kind.{Kind}
use Rattle.kn_rule.specs.declared.steps.Kind.TheVariants.{K1, K2, K3, K4, K5, K6}
use Rattle.kn_rule.specs.declared.steps.Kind.TheVariants.{K7, K8, K9, K10, K11, K12, K13, K14, K15, K16}
use Rattle.kn_rule.specs.declared.steps.Kind.TheVariants.{K17, K18, K19, K20, K21, K22, K23, K24}
use Rattle.kn_rule.specs.declared.steps.Action.{Action}
use Rattle.kn_rule.specs.declared.steps.Action.TheVariants.{LoadsFor, Stores, Swaps}
use Rattle.kn_rule.specs.declared.positions.Position.TheVariants.{Calling}
use Rattle.kn_rule.specs.declared.parts.Taken.{Taken}
use Rattle.kn_rule.specs.FrameSpans.{frame_span}
use Rattle.kn_rule.specs.Requests.{words_asked, AreFree}
use Rattle.kn_rule.specs.Steps.{callers}
use Rattle.kn_rule.specs.HistoryClauses.{IsRightCall}
use Rattle.kn_view.specs.Parts.{Part, MayBegin, IsReadable, IsBirthLocal, IsSearched}
use Rattle.kn_view.specs.Shares.{MayOwe, IsChildNear, IsRootRead, IsCellRead}
use Rattle.kn_holds.specs.Holds.{Hold}
use Rattle.kn_board.specs.Parts.{own_of}
use Rattle.kn_board.specs.Stored.{hold_at}

-- the caller `by`, of whom `part` is stored, makes a step at the place p that finds the word n
module _ (z : Ground) (by : ℕ) (part : Part) (p : Place) (a : Action) (n : ℕ) where
  pub record AsksPoll : Type 0 where
    pub next : Option Call
    pub place : p ≡ Phase
    pub act : a ≡ LoadsFor next
    pub begins : MayBegin z part next
    pub word : n < 2 ^ 35

  pub record AsksState : Type 0 where
    pub value : ℕ
    pub place : p ≡ State by
    pub act : a ≡ Stores value

  pub record AsksWrite : Type 0 where
    pub local : ℕ
    pub value : ℕ
    pub place : p ≡ Local by local
    pub act : a ≡ Stores value
    pub near : local < 16
    pub small : value < 2 ^ 32

  pub record AsksGlobal : Type 0 where
    pub readable : IsReadable part n
    pub small : n < 2 ^ 32

  pub record AsksBirth : Type 0 where
    pub address : ℕ
    pub place : p ≡ Side address
    pub birth : IsBirthLocal part.position

  -- a step of a search, at a frame
  pub record AsksFrame : Type 0 where
    pub frame : ℕ
    pub place : p ≡ Frame frame
    pub near : frame < frame_count z.sizes
    pub call : IsRightCall z part.position

  -- a look at a frame
  pub record AsksLook : Type 0 where
    pub at : AsksFrame
    pub area : IsSearched z at.frame part.position

  pub record AsksPhase : Type 0 where
    pub value : ℕ
    pub act : a ≡ Stores value
    pub small : value < 2 ^ 35

  pub record AsksLoadState : Type 0 where
    pub mutator : ℕ
    pub place : p ≡ State mutator
    pub near : mutator < z.sizes.threads

  pub record AsksSet : Type 0 where
    pub set : ℕ
    pub place : p ≡ RootSet set
    pub owes : MayOwe part.work

  pub record AsksMark : Type 0 where
    pub object : ℕ
    pub place : p ≡ Side object
    pub owes : MayOwe part.work
    pub near : IsChildNear part.work.doing part.work.child

  pub record AsksGray : Type 0 where
    pub object : ℕ
    pub place : p ≡ Side object

  module _ (holds : List Hold) where
    -- where the claim wins, a page lies in the frame's slot, and nobody owns the frame
    pub record AsksClaim (slot : Option FrameView) : Type 0 where
      pub old : ℕ
      pub new : ℕ
      pub act : a ≡ Swaps old new
      pub at : AsksFrame
      pub area : IsSearched z at.frame part.position
      pub lies : n ≡ old → (page : FrameView) × (slot ≡ Some page)
      pub nobody : n ≡ old → (c : ℕ) → c < callers z.sizes → own_of c (hold_at holds at.frame) ≡ None

    pub record AsksHome : Type 0 where
      pub at : AsksFrame
      pub owned : (hold_at holds at.frame).by ≡ Some by

    -- the first word of a cell, or the next
    pub record AsksCell (b : ℕ) : Type 0 where
      pub call : Call
      pub is_call : part.position ≡ Calling call
      pub words : ℕ
      pub is_request : words_asked z call ≡ Some words
      pub frame : ℕ
      pub near : frame < frame_count z.sizes
      pub owned : (hold_at holds frame).by ≡ Some by
      pub free : AreFree (hold_at holds frame).free.spans (record { start = b; len = words })
      pub inside : LiesIn (record { start = b; len = words }) (frame_span z.sizes frame)

    abbrev pub AsksNext : ℕ → Option Taken → Type 0
    AsksNext b None = AsksCell b
    AsksNext b (Some t) = t.cleared + 1 < 2 ^ 32

    pub record AsksClear : Type 0 where
      pub address : ℕ
      pub place : p ≡ Body address
      pub call : IsRightCall z part.position
      pub next : AsksNext address part.taken

    -- `slot` is what lies in the slot of the step's frame
    abbrev pub Asks : Option FrameView → Kind → Type 0
    Asks slot K1 = AsksPoll
    Asks slot K2 = AsksState
    Asks slot K3 = AsksWrite
    Asks slot K4 = IsReadable part n
    Asks slot K5 = Unit {0}
    Asks slot K6 = AsksGlobal
    Asks slot K7 = Unit {0}
    Asks slot K8 = AsksBirth
    Asks slot K9 = AsksLook
    Asks slot K10 = AsksClaim slot
    Asks slot K11 = AsksHome
    Asks slot K12 = AsksClear
    Asks slot K13 = Unit {0}
    Asks slot K14 = AsksPhase
    Asks slot K15 = AsksLoadState
    Asks slot K16 = Unit {0}
    Asks slot K17 = AsksSet
    Asks slot K18 = IsRootRead z.sizes part.work.doing n
    Asks slot K19 = Unit {0}
    Asks slot K20 = AsksMark
    Asks slot K21 = Unit {0}
    Asks slot K22 = AsksGray
    Asks slot K23 = IsCellRead part.work.doing n
    Asks slot K24 = MayOwe part.work
    Asks slot _ = ⊥
