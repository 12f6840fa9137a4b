-- One turn in which pages in hand go home.
use Rattle.std.specs.Prelude.{◌≡◌, ℕ, ◌≤◌, ◌==◌, Bool, cond, List, Option, Some, None, slice_set}
use Rattle.kn_base.specs.declared.classes.TheConstants.{SINGLE_CLASS}
use Rattle.kn_base.specs.declared.places.Place.TheVariants.{Frame}
use Rattle.kn_base.specs.Pages.{FrameView}
use Rattle.kn_rule.specs.declared.steps.Kind.TheVariants.{K11}
use Rattle.kn_rule.specs.declared.steps.Action.TheVariants.{Stores}
use Rattle.kn_rule.specs.Steps.{Step, Found, does}
use Rattle.kn_steps.specs.Made.{Stand, Moved as WasMoved}
use Rattle.kn_page.specs.PageViews.{page_view}
use Rattle.kn_alloc.specs.declared.stage.Hand.{Hand}
use Rattle.kn_alloc.specs.declared.stage.Stage.{Stage}
use Rattle.kn_alloc.specs.declared.stage.Stage.TheVariants.{Resting, PutsHome}
use Rattle.kn_alloc.specs.declared.stage.HomeTurn.{HomeTurn}
use Rattle.kn_alloc.specs.declared.stage.HomeTurn.TheVariants.{Moved, Done}
use Rattle.kn_alloc.specs.Keeps.{Keeps, HasHand, home_number}
use Rattle.kn_alloc.specs.Turns.{MakesStep}

-- in which order pages go home: a single one first, and then by rising class
abbrev pub home_rank : ℕ → ℕ
home_rank k = cond (k == SINGLE_CLASS) 0 k

abbrev pub IsNoHand : List (Option Hand) → Type 0
IsNoHand hands = (k : ℕ) (hand : Hand) → ¬ HasHand hands k hand

-- the page in hand that goes home next
pub record IsFirstHome (hands : List (Option Hand)) (k : ℕ) (hand : Hand) : Type 0 where
  pub had : HasHand hands k hand
  pub first : (j : ℕ) (other : Hand) → HasHand hands j other → home_rank k ≤ home_rank j

module _ {T : Type 0} (stand : T → Stand) (here : T → ℕ → Bool) (did : T → Step → Found → T → Type 0)
    (moved : T → ℕ → Option FrameView → Option FrameView → T → Type 0) where
  -- the next page went into its slot
  pub record SendsHome (m : Keeps) (s s' : T) (m' : Keeps) : Type 0 where
    pub class : ℕ
    pub hand : Hand
    pub first : IsFirstHome m.hands class hand
    pub result : Option FrameView
    pub made : WasMoved (stand s) (here s) hand.frame (Some (page_view hand.page)) result (stand s') (here s')
    pub kept : moved s hand.frame (Some (page_view hand.page)) result s'
    pub after : m' ≡ record m { hands = slice_set m.hands class None; stage = PutsHome hand.frame (home_number hand) }

  -- its frame was given back
  pub record IsGivenBack (p word : ℕ) (m : Keeps) (s s' : T) (m' : Keeps) : Type 0 where
    pub made : MakesStep stand here did moved (does K11 (Frame p) (Stores word)) s s'
    pub after : m' ≡ record m { stage = Resting }

  -- with no page in hand nothing was done
  pub record HasNone (m : Keeps) (s s' : T) (m' : Keeps) : Type 0 where
    pub none : IsNoHand m.hands
    pub still : s' ≡ s
    pub after : m' ≡ m

  abbrev pub WentHomeAt : Stage → Keeps → T → T → Keeps → HomeTurn → Type 0
  WentHomeAt Resting m s s' m' Moved = SendsHome m s s' m'
  WentHomeAt Resting m s s' m' Done = HasNone m s s' m'
  WentHomeAt (PutsHome p word) m s s' m' Moved = IsGivenBack p word m s s' m'
  WentHomeAt _ m s s' m' answer = ⊥

  -- one turn: the next page went into its slot, or its frame was given back, or there was none
  abbrev pub WentHome : Keeps → T → T → Keeps → HomeTurn → Type 0
  WentHome m s s' m' answer = WentHomeAt m.stage m s s' m' answer
