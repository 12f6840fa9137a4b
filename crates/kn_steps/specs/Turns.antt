-- One turn of a machine over one caller's steps.
use Rattle.std.specs.Prelude.{◌≡◌, ℕ, ◌⊎◌, Bool, Option}
use Rattle.kn_base.specs.declared.places.Place.TheVariants.{Frame}
use Rattle.kn_base.specs.declared.kinds.FrameKind.TheVariants as frames
use Rattle.kn_base.specs.Pages.{FrameView}
use Rattle.kn_rule.specs.Decoding.{frame_of}
use Rattle.kn_rule.specs.Steps.{Step, Found}
use Rattle.kn_steps.specs.Made.{Stand, Made, Moved}

module _ {T : Type 0} (stand : T → Stand) (here : T → ℕ → Bool) (did : T → Step → Found → T → Type 0)
    (moved : T → ℕ → Option FrameView → Option FrameView → T → Type 0) where
  -- one step was made
  pub record OneStep (s s' : T) : Type 0 where
    pub step : Step
    pub found : Found
    pub made : Made (stand s) (here s) step found (stand s') (here s')
    pub kept : did s step found s'

  -- one page was moved
  pub record OneMove (s s' : T) : Type 0 where
    pub frame : ℕ
    pub page : Option FrameView
    pub result : Option FrameView
    pub made : Moved (stand s) (here s) frame page result (stand s') (here s')
    pub kept : moved s frame page result s'

  -- exactly one step was made, or one page was moved
  abbrev pub OneTurn : T → T → Type 0
  OneTurn s s' = OneStep s s' ⊎ OneMove s s'

  -- the step loaded or exchanged the word of a frame, and found it unswept
  pub record MetUnswept (s s' : T) : Type 0 where
    pub one : OneStep s s'
    pub frame : ℕ
    pub place : one.step.place ≡ Frame frame
    pub unswept : (frame_of one.found.word).kind ≡ frames.Unswept
