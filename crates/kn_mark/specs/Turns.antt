-- One turn of a marker over its caller's steps.
use Rattle.std.specs.Prelude.{◌≡◌, ◌≢◌, ◌⊎◌, ◌↔◌, ℕ, ◌*◌, ◌≤◌, Bool, Option}
use Rattle.kn_base.specs.Pages.{FrameView}
use Rattle.kn_base.specs.declared.places.Place.{Place}
use Rattle.kn_base.specs.declared.places.Place.TheVariants.{Pending, RootSet, Side}
use Rattle.kn_marking.specs.Words.{gray}
use Rattle.kn_marking.specs.declared.work.Child.TheVariants.{NoChild}
use Rattle.kn_rule.specs.declared.steps.Kind.TheVariants.{K16, K17, K20}
use Rattle.kn_rule.specs.declared.steps.Action.TheVariants.{Loads}
use Rattle.kn_rule.specs.Steps.{Step, Found, does}
use Rattle.kn_steps.specs.Made.{Stand, Made}
use Rattle.kn_steps.specs.Turns.{OneStep}
use Rattle.kn_mark.specs.declared.next.Next.{Next}
use Rattle.kn_mark.specs.declared.turn.MarkTurn.{MarkTurn}
use Rattle.kn_mark.specs.declared.turn.MarkTurn.TheVariants.{Over, Idle}
use Rattle.kn_mark.specs.Kept.{Kept}
use Rattle.kn_mark.specs.Steps.{IsNext, answer_behind, behind, step_of}
use Rattle.kn_mark.specs.Agree.{Agrees, OnlyMarked, HasRest}

-- a load of the word of a root set found that it is not to be claimed, or one in search of a gray object found a mark that is not gray
-- of the epoch
abbrev pub FoundNothing : Kept → Step → ℕ → Place → Type 0
FoundNothing k d w p =
    ((j : ℕ) × (p ≡ RootSet j) × (d ≡ does K17 (RootSet j) Loads) × (4 * k.work.epoch ≤ w))
    ⊎ ((a : ℕ) × (p ≡ Side a) × (d ≡ does K20 (Side a) Loads) × (k.work.child ≡ NoChild) × (w ≢ gray k.work.epoch))

module _ {T : Type 0} (stand : T → Stand) (here : T → ℕ → Bool) (did : T → Step → Found → T → Type 0) where
  -- the next step of the marker k was made; it answers so, and leaves k'
  pub record Turned (k : Kept) (s s' : T) (k' : Kept) (reply : MarkTurn) : Type 0 where
    pub next : Next
    pub found : Found
    pub is_next : IsNext k next
    pub made : Made (stand s) (here s) (step_of k next) found (stand s') (here s')
    pub kept : did s (step_of k next) found s'
    pub after : k' ≡ behind (stand s).heap k next found.word
    pub answer : reply ≡ answer_behind k next found.word

module _ {T : Type 0} (stand : T → Stand) (here : T → ℕ → Bool) (did : T → Step → Found → T → Type 0)
    (moved : T → ℕ → Option FrameView → Option FrameView → T → Type 0) where
  -- one step was made, and the turn is over exactly where it loaded the count of open work and found 0
  pub record OverWhereNone (s s' : T) (reply : MarkTurn) : Type 0 where
    pub one : OneStep stand here did moved s s'
    pub over : (reply ≡ Over) ↔ ((one.step ≡ does K16 Pending Loads) × (one.found.word ≡ 0))

  -- one step was made, and the turn is idle exactly where that step found nothing to do at a place, for the word found
  pub record IdleWhereNothing (k : Kept) (s s' : T) (reply : MarkTurn) : Type 0 where
    pub one : OneStep stand here did moved s s'
    pub idle : (p : Place) (w : ℕ) → (reply ≡ Idle p w) ↔ ((w ≡ one.found.word) × FoundNothing k one.step w p)

  -- such a turn, behind which what is kept agrees with what is known
  pub record Goes (k : Kept) (s s' : T) (k' : Kept) (reply : MarkTurn) : Type 0 where
    pub turned : Turned stand here did k s s' k' reply
    pub agrees : Agrees k' (stand s')
    pub over : OverWhereNone s s' reply
    pub idle : IdleWhereNothing k s s' reply
    pub only : OnlyMarked (stand s) (here s) (stand s') (here s')
    pub rest : reply ≡ Over → HasRest k.work.epoch (stand s')
