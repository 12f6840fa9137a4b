-- The state after a step, and what a step finds there.
use Rattle.std.specs.Prelude.{◌≡◌, ℕ, ◌==◌, false, cond, Option, Some, None}
use Rattle.kn_base.specs.declared.places.Place.{Place}
use Rattle.kn_base.specs.declared.heap.Sizes.{Sizes}
use Rattle.kn_base.specs.Pages.{FrameView}
use Rattle.kn_base.specs.Functions.{upd}
use Rattle.kn_graph.specs.Ground.{Ground}
use Rattle.kn_rule.specs.declared.steps.Kind.{Kind}
use Rattle.kn_rule.specs.declared.steps.Kind.TheVariants.{K10, K11}
use Rattle.kn_rule.specs.declared.steps.Action.{Action}
use Rattle.kn_rule.specs.declared.steps.Action.TheVariants.{Swaps}
use Rattle.kn_rule.specs.Decoding.{frame_of}
use Rattle.kn_rule.specs.FrameSpans.{frame_span}
use Rattle.kn_rule.specs.Places.{put}
use Rattle.kn_rule.specs.Views.{View, State, Open, owns}
use Rattle.kn_rule.specs.Requests.{is_whole, InArea}
use Rattle.kn_rule.specs.Steps.{Step, Found, Outcome, word_after, frame_in, more, logged}
use Rattle.kn_rule.specs.Outcomes.{outcome}

-- the caller's view after a step
abbrev pub view_after : Ground → ℕ → View → Step → Found → View
view_after z c v d f = logged (outcome z c v d.place d.act f d.kind)

-- what becomes of the pages of the frames that no caller owns: a claim that wins takes one away, and one is given back
abbrev pub page_by : Place → Action → Found → (ℕ → Option FrameView) → Kind → ℕ → Option FrameView
page_by p (Swaps old new) f pages K10 = upd pages (frame_in p) (cond (f.word == old) None (pages (frame_in p)))
page_by p a f pages K11 = upd pages (frame_in p) (Some f.page)
page_by p a f pages _ = pages

-- the state after a step of caller c with this outcome
abbrev pub stepped_by : State → ℕ → Step → Found → Outcome → State
stepped_by s c d f o = record {
  word = put s.word d.place (word_after d.act f.word);
  page = page_by d.place d.act f s.page d.kind;
  caller = upd s.caller c (logged o);
  history = more s.history o.says;
}

-- the state after a step of caller c
abbrev pub stepped : Ground → State → ℕ → Step → Found → State
stepped z s c d f = stepped_by s c d f (outcome z c (s.caller c) d.place d.act f d.kind)

-- a page is that of an owned frame: the frame's own, with the free spans and the cursor of the view, and, unless it is wholly
-- free, with the class of the frame's word
pub record IsPageOf (z : Sizes) (p : ℕ) (o : Open) (page : FrameView) : Type 0 where
  pub frame_is : page.frame ≡ frame_span z p
  pub area_is : InArea z p page.class
  pub free_is : page.free ≡ o.free
  pub cursor_is : page.cursor ≡ o.cursor
  pub class_is : is_whole (frame_span z p) o.free ≡ false → page.class ≡ (frame_of o.word).class

abbrev pub IsPageOfOwned : Ground → ℕ → Option Open → FrameView → Type 0
IsPageOfOwned z p None page = ⊥
IsPageOfOwned z p (Some o) page = IsPageOf z.sizes p o page

-- a claim that wins finds the page in the slot, and so does a frame that is given back
abbrev pub Takes : Ground → State → ℕ → Kind → Place → Action → Found → Type 0
Takes z s c K10 p (Swaps old new) f = f.word ≡ old → s.page (frame_in p) ≡ Some f.page
Takes z s c K11 p a f = IsPageOfOwned z (frame_in p) (owns (s.caller c) (frame_in p)) f.page
Takes z s c _ p a f = Unit {0}

-- the step finds the word of its place, and the page that it takes
abbrev pub Finds : Ground → State → ℕ → Step → Found → Type 0
Finds z s c d f = (s.word d.place ≡ f.word) × Takes z s c d.kind d.place d.act f
