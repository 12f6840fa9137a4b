-- One turn of a safepoint over its caller's steps.
use Rattle.std.specs.Prelude.{◌≡◌, ℕ, ◌↔◌, Bool, true, Option}
use Rattle.kn_base.specs.declared.kinds.Code.{Code}
use Rattle.kn_base.specs.declared.kinds.Code.TheVariants as codes
use Rattle.kn_base.specs.declared.phase_word.PhaseWord.{PhaseWord}
use Rattle.kn_base.specs.declared.places.Place.{Place}
use Rattle.kn_base.specs.declared.places.Place.TheVariants.{Phase, State as StateOf}
use Rattle.kn_base.specs.Words.{IsPhaseWord, packed_phase}
use Rattle.kn_graph.specs.declared.calls.Call.{Call}
use Rattle.kn_graph.specs.Ground.{Ground}
use Rattle.kn_rule.specs.Decoding.{phase_of}
use Rattle.kn_rule.specs.Phases.{is_run}
use Rattle.kn_rule.specs.Rule.{Rule}
use Rattle.kn_rule.specs.Steps.{Step, Found}
use Rattle.kn_rule.specs.Views.{State}
use Rattle.kn_steps.specs.Made.{Stand, Made}
use Rattle.kn_safepoint.specs.declared.stage.Stage.{Stage}
use Rattle.kn_safepoint.specs.declared.stage.Stage.TheVariants.{Out, Enters}
use Rattle.kn_safepoint.specs.declared.stage.Enter.{Enter}
use Rattle.kn_safepoint.specs.declared.stage.Enter.TheVariants.{Idle, Help, In}
use Rattle.kn_safepoint.specs.Agree.{Agrees}
use Rattle.kn_safepoint.specs.Kept.{Kept}
use Rattle.kn_safepoint.specs.Stages.{answer_behind, leave_step, stage_behind, stage_step}

-- the phases in which one that is out is idle
abbrev pub IsWait : Code → Type 0
IsWait codes.StopA = Unit {0}
IsWait codes.StopB = Unit {0}
IsWait codes.Prep = Unit {0}
IsWait _ = ⊥

-- why a turn that found the word w is idle for the word u of a place: one that is out loaded a phase in which it waits
abbrev pub IsIdleFor : Stage → ℕ → Place → ℕ → Type 0
IsIdleFor Out w p u = (Phase ≡ p) × (w ≡ u) × IsWait (phase_of w).code
IsIdleFor _ w p u = ⊥

-- why it may help in the epoch e: one that is out loaded Mark of that epoch
abbrev pub IsHelpFor : Stage → ℕ → ℕ → Type 0
IsHelpFor Out w e = ((phase_of w).code ≡ codes.Mark) × ((phase_of w).epoch ≡ e)
IsHelpFor _ w e = ⊥

-- why it is in, in the phase v: one that enters loaded that run phase
abbrev pub IsInFor : Stage → ℕ → PhaseWord → Type 0
IsInFor Enters w v = (phase_of w ≡ v) × (is_run v.code ≡ true)
IsInFor _ w v = ⊥

-- in a state that meets the rule w is the word of the phase, which packs v, and the state of caller c says that it is in
pub record FoundIn (z : Ground) (c w : ℕ) (v : PhaseWord) : Type 0 where
  pub state : State
  pub rule : Rule z state
  pub phase : state.word Phase ≡ w
  pub packs : packed_phase v ≡ w
  pub ranges : IsPhaseWord v
  pub inside : state.word (StateOf c) ≡ 1

module _ {T : Type 0} (stand : T → Stand) (here : T → ℕ → Bool) (did : T → Step → Found → T → Type 0) where
  -- the step of the stage was made by the safepoint k for the next call, and it answers so and leaves k'; each answer but `Moved` comes
  -- exactly where its cause was found in this turn
  pub record Turned (k : Kept) (next : Option Call) (s s' : T) (k' : Kept) (reply : Enter) : Type 0 where
    pub found : Found
    pub made : Made (stand s) (here s) (stage_step k.stage k.by next) found (stand s') (here s')
    pub kept : did s (stage_step k.stage k.by next) found s'
    pub after : k' ≡ record k { stage = stage_behind k.stage found.word }
    pub answer : reply ≡ answer_behind k.stage found.word
    pub idle : (p : Place) (w : ℕ) → (reply ≡ Idle p w) ↔ IsIdleFor k.stage found.word p w
    pub help : (e : ℕ) → (reply ≡ Help e) ↔ IsHelpFor k.stage found.word e
    pub entered : (v : PhaseWord) → (reply ≡ In v) ↔ IsInFor k.stage found.word v
    pub inside : (v : PhaseWord) → reply ≡ In v → FoundIn (stand s).heap k.by found.word v

  -- such a turn, behind which it agrees with what its caller knows
  pub record Goes (k : Kept) (next : Option Call) (s s' : T) (k' : Kept) (reply : Enter) : Type 0 where
    pub turned : Turned k next s s' k' reply
    pub agrees : Agrees k' (stand s')

  -- the safepoint k stored that its caller is out, and leaves k'
  pub record Left (k : Kept) (s s' : T) (k' : Kept) : Type 0 where
    pub found : Found
    pub made : Made (stand s) (here s) (leave_step k.by) found (stand s') (here s')
    pub kept : did s (leave_step k.by) found s'
    pub after : k' ≡ record k { stage = Out }
