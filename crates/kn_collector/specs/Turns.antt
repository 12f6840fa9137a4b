-- One turn of a collector over its caller's steps.
use Rattle.std.specs.Prelude.{◌≡◌, ℕ, ◌↔◌, Bool, Option, Some}
use Rattle.kn_base.specs.Pages.{FrameView}
use Rattle.kn_base.specs.declared.places.Place.{Place}
use Rattle.kn_rule.specs.Steps.{Step, Found, more}
use Rattle.kn_steps.specs.declared.turns.Turn.{Turn}
use Rattle.kn_steps.specs.declared.turns.Turn.TheVariants.{Idle, Done}
use Rattle.kn_steps.specs.Made.{Stand, Made}
use Rattle.kn_steps.specs.Turns.{OneStep, OneTurn}
use Rattle.kn_mark.specs.declared.turn.MarkTurn.{MarkTurn}
use Rattle.kn_mark.specs.Turns.{FoundNothing, Turned as MarkerTurned}
use Rattle.kn_collector.specs.declared.stage.Stage.{Stage}
use Rattle.kn_collector.specs.declared.stage.Stage.TheVariants.{Marking}
use Rattle.kn_collector.specs.Kept.{Kept}
use Rattle.kn_collector.specs.Stages.{IsIdleFor, answer_behind, behind, marked_answer, marked_stage, said_at, stage_step}
use Rattle.kn_collector.specs.Agree.{Agrees, HasEnded}

module _ {T : Type 0} (stand : T → Stand) (here : T → ℕ → Bool) (did : T → Step → Found → T → Type 0) where
  -- the step of a stage was made by the collector k, which answers so and leaves k'
  pub record MakesStep (stage : Stage) (k : Kept) (s s' : T) (k' : Kept) (reply : Turn) : Type 0 where
    pub step : Step
    pub found : Found
    pub named : stage_step k stage ≡ Some step
    pub made : Made (stand s) (here s) step found (stand s') (here s')
    pub kept : did s step found s'
    pub after : k' ≡ behind k stage found.word
    pub answer : reply ≡ answer_behind k stage found.word

  -- its marker made a turn; where the marking was seen over, the pause comes next
  pub record MarkerTurns (k : Kept) (s s' : T) (k' : Kept) (reply : Turn) : Type 0 where
    pub told : MarkTurn
    pub turned : MarkerTurned stand here did k.marker s s' k'.marker told
    pub after : k' ≡ record k { stage = marked_stage told; marker = k'.marker }
    pub answer : reply ≡ marked_answer told

  -- the turn of a stage
  abbrev pub TurnedAt : Stage → Kept → T → T → Kept → Turn → Type 0
  TurnedAt Marking k s s' k' reply = MarkerTurns k s s' k' reply
  TurnedAt stage k s s' k' reply = MakesStep stage k s s' k' reply

  -- one turn of the collector k, which answers so and leaves k'
  abbrev pub Turned : Kept → T → T → Kept → Turn → Type 0
  Turned k s s' k' reply = TurnedAt k.stage k s s' k' reply

module _ {T : Type 0} (stand : T → Stand) (here : T → ℕ → Bool) (did : T → Step → Found → T → Type 0)
    (moved : T → ℕ → Option FrameView → Option FrameView → T → Type 0) where
  -- one step was made, and the turn is idle exactly where that step found nothing to mark at a place, for the word found
  pub record IdleWhereNothing (k : Kept) (s s' : T) (reply : Turn) : Type 0 where
    pub one : OneStep stand here did moved s s'
    pub idle : (p : Place) (w : ℕ) → (reply ≡ Idle p w) ↔ ((w ≡ one.found.word) × FoundNothing k.marker one.step w p)

  -- why the turn of a stage is idle
  abbrev pub IdleAt : Stage → Kept → T → T → Turn → Type 0
  IdleAt Marking k s s' reply = IdleWhereNothing k s s' reply
  IdleAt stage k s s' reply = (p : Place) (w : ℕ) → reply ≡ Idle p w → IsIdleFor k stage p w

  -- such a turn, behind which what is kept agrees with what is known, which is done exactly where the collector has ended, and
  -- idle only where a word that it found tells why; an entry is made in the store of Weak alone
  pub record Goes (k : Kept) (s s' : T) (k' : Kept) (reply : Turn) : Type 0 where
    pub turned : Turned stand here did k s s' k' reply
    pub agrees : Agrees k' (stand s')
    pub one : OneTurn stand here did moved s s'
    pub done : (reply ≡ Done) ↔ HasEnded k'.stage
    pub idle : IdleAt k.stage k s s' reply
    pub log : (stand s').view.log ≡ more (stand s).view.log (said_at k k.stage)
