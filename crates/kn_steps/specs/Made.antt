-- What a call of `Steps` asks and tells.
use Rattle.std.specs.Prelude.{◌≡◌, ◌≢◌, ℕ, ◌==◌, Bool, true, false, cond, Option, Some, None, is_some, Result, Ok, Err}
use Rattle.kn_base.specs.Pages.{FrameView}
use Rattle.kn_base.specs.Functions.{upd}
use Rattle.kn_graph.specs.Ground.{Ground}
use Rattle.kn_rule.specs.declared.steps.Kind.{Kind}
use Rattle.kn_rule.specs.declared.steps.Kind.TheVariants.{K10}
use Rattle.kn_rule.specs.Views.{View, Open, owns}
use Rattle.kn_rule.specs.Steps.{Step, Found, word_wanted, frame_in}
use Rattle.kn_rule.specs.Allowed.{MayMake}
use Rattle.kn_rule.specs.Moves.{IsPageOfOwned, view_after}
use Rattle.kn_rule.specs.Rule.{Shown}

-- whose steps they are: over a heap of which sizes and layouts, which caller, and what it knows
pub record Stand : Type 0 where
  pub heap : Ground
  pub by : ℕ
  pub view : View

-- the step is allowed in the caller's view
abbrev pub Allowed : Stand → (ℕ → Bool) → Step → Type 0
Allowed a here d = MayMake a.heap a.by a.view here d

abbrev pub stand_after : Stand → Step → Found → Stand
stand_after a d f = record a { view = view_after a.heap a.by a.view d f }

-- of each frame that the view owns, it is said truly whether its page lies in its slot
abbrev pub LieAs : View → (ℕ → Bool) → (ℕ → Bool) → Type 0
LieAs v truth here = (p : ℕ) (o : Open) → owns v p ≡ Some o → here p ≡ truth p

abbrev pub here_by : (ℕ → Bool) → ℕ → ℕ → Found → Kind → ℕ → Bool
here_by here p old f K10 = upd here p (cond (f.word == old) true (here p))
here_by here p old f _ = here

-- where the pages lie after a step: that of a frame that was claimed lies in its slot, and no other was moved
abbrev pub here_after : (ℕ → Bool) → Step → Found → ℕ → Bool
here_after here d f = here_by here (frame_in d.place) (word_wanted d.act) f d.kind

-- a step was made that found f: the view before allows it; the caller's view is the one that the rule gives; where the pages
-- lie is told; and all that the rule gives for the view before and what was found
pub record Made (a : Stand) (here : ℕ → Bool) (d : Step) (f : Found) (b : Stand) (here' : ℕ → Bool) : Type 0 where
  pub may : Allowed a here d
  pub view : b ≡ stand_after a d f
  pub lies : LieAs b.view (here_after here d f) here'
  pub shown : Shown a.heap a.by a.view d f

-- the word that an exchange found
abbrev pub word_told : Result ℕ ℕ → ℕ
word_told (Ok w) = w
word_told (Err w) = w

-- an exchange answers Ok exactly where it found the word that it wanted
abbrev pub TellsWord : ℕ → Result ℕ ℕ → Type 0
TellsWord old (Ok w) = w ≡ old
TellsWord old (Err w) = w ≢ old

-- the page of an owned frame may be taken where it lies in its slot; one that is given back is the frame's own
abbrev pub MayMoveAt : Ground → View → ℕ → Bool → Option FrameView → Type 0
MayMoveAt z v p h None = h ≡ true
MayMoveAt z v p h (Some page) = (h ≡ false) × IsPageOfOwned z p (owns v p) page

abbrev pub MayMove : Stand → (ℕ → Bool) → ℕ → Option FrameView → Type 0
MayMove a here p page = (o : Open) × (owns a.view p ≡ Some o) × MayMoveAt a.heap a.view p (here p) page

-- a page that is taken is the frame's own, and nothing is handed out for one that is given back
abbrev pub Gives : Ground → View → ℕ → Option FrameView → Option FrameView → Type 0
Gives z v p None result = (page : FrameView) × (result ≡ Some page) × IsPageOfOwned z p (owns v p) page
Gives z v p (Some page) result = result ≡ None

-- a page was moved by the owner of its frame: the view stays, and the page lies in its slot exactly where it was given back
pub record Moved (a : Stand) (here : ℕ → Bool) (p : ℕ) (page result : Option FrameView) (b : Stand) (here' : ℕ → Bool) : Type 0 where
  pub may : MayMove a here p page
  pub view : b ≡ a
  pub lies : LieAs b.view (upd here p (is_some page)) here'
  pub gives : Gives a.heap a.view p page result
