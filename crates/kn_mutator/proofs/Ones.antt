-- Each turn makes one step or moves one page, and a gate's answer is asked by polls alone.
use Rattle.std.proofs.Common.{◌≡◌, ℕ, inl, inr, Bool, Option, Some, None, refl, subst}
use Rattle.kn_base.specs.Pages.{FrameView}
use Rattle.kn_base.specs.declared.places.Place.TheVariants.{State as StateOf}
use Rattle.kn_rule.specs.declared.steps.Kind.TheVariants.{K2}
use Rattle.kn_rule.specs.declared.steps.Action.TheVariants.{Stores}
use Rattle.kn_rule.specs.Steps.{Found, Step, does}
use Rattle.kn_steps.specs.declared.turns.Turn.{Turn}
use Rattle.kn_steps.specs.declared.turns.Turn.TheVariants.{Moved, Done}
use Rattle.kn_steps.specs.Made.{Stand}
use Rattle.kn_steps.specs.Turns.{OneTurn}
use Rattle.kn_alloc.specs.declared.stage.HomeTurn.TheVariants as homes
use Rattle.kn_alloc.specs.declared.stage.Stage.{Stage}
use Rattle.kn_alloc.specs.declared.stage.Stage.TheVariants as stages
use Rattle.kn_alloc.specs.Agree.{AtStage, IsGetting, IsSweeping}
use Rattle.kn_alloc.specs.Keeps.{Keeps}
use Rattle.kn_alloc.proofs.Homes.{one_home}
use Rattle.kn_alloc.proofs.Turns.{one_told}
use Rattle.kn_mark.specs.Steps.{step_of}
use Rattle.kn_mutator.specs.declared.task.Task.{Task}
use Rattle.kn_mutator.specs.declared.task.Task.TheVariants as tasks
use Rattle.kn_mutator.specs.Agree.{Agrees, AtTask}
use Rattle.kn_mutator.specs.Mutating.{Mutating}
use Rattle.kn_mutator.specs.Turns.{EntersFor, Goes, GoesOrStops, MakesStep, MarksWith, PollsNext, PutsHome, StoresState, Turned, TurnedAt, asks_none}

-- an allocator that agrees is at no sweep
never_sweeps : (stage : Stage) (alloc : Keeps) (a : Stand) (here : ℕ → Bool) → AtStage stage alloc a here → IsSweeping stage → ⊥
never_sweeps (stages.Sweeps p) alloc a here at h = at
never_sweeps _ alloc a here at h = h

module _ {T : Type 0} (stand : T → Stand) (here : T → ℕ → Bool) (did : T → Step → Found → T → Type 0)
    (moved : T → ℕ → Option FrameView → Option FrameView → T → Type 0) (told : ℕ → ℕ → Bool → Type 0) (m : Mutating) (s s' : T)
    (m' : Mutating) (reply : Turn) where
  one_step : MakesStep stand here did moved m s s' m' reply → OneTurn stand here did moved s s'
  one_step h = inl (record { step = h.step; found = h.found; made = h.made; kept = h.kept })

  one_marked : MarksWith stand here did moved m s s' m' reply → OneTurn stand here did moved s s'
  one_marked h = inl (record { step = step_of m.marker h.turned.next; found = h.turned.found; made = h.turned.made; kept = h.turned.kept })

  one_poll : PollsNext stand here did moved told m s s' m' reply → OneTurn stand here did moved s s'
  one_poll h = inl (record { step = _; found = h.found; made = h.made; kept = h.kept })

  sent_one : PutsHome stand here did moved m s s' m' reply → OneTurn stand here did moved s s'
  sent_one h = one_home stand here did moved m.alloc m'.alloc s s' m.alloc.stage homes.Moved h.went refl

  stored_one : (n : ℕ) (t : Task) (told : Turn) → StoresState stand here did moved n t told m s s' m' reply → OneTurn stand here did moved s s'
  stored_one n t told h = inl (record { step = does K2 (StateOf m.by) (Stores n); found = h.found; made = h.made; kept = h.kept })

  not_long : (stage : Stage) → IsGetting stage → stage ≡ stages.TooLong → ⊥
  not_long stage i e = let x : IsGetting stages.TooLong = subst IsGetting e i in x

  one_entering : (target : Option ℕ) → EntersFor stand here did moved target told m s s' m' reply → OneTurn stand here did moved s s'
  one_entering None h = one_poll h
  one_entering (Some n) h = one_step h

  one_at : (t : Task) → AtTask t m (stand s).view → TurnedAt stand here did moved t told m s s' m' reply → OneTurn stand here did moved s s'
  one_at tasks.Out a h = one_step h
  one_at tasks.Helps a h = one_marked h
  one_at tasks.GoesIn a h = one_step h
  one_at tasks.Enters a h = one_entering m.target h
  one_at tasks.Polls a h = one_poll h
  one_at (tasks.Calls call hd) a h = one_step h
  one_at (tasks.Births call) a h =
      one_told stand here did moved m.alloc m'.alloc s s' h.told m.alloc.stage h.turned (not_long m.alloc.stage a.alloc)
  one_at (tasks.Writes r w) a h = one_step h
  one_at tasks.Waits a h = one_step h
  one_at tasks.SendsSingle a h = sent_one h
  one_at tasks.Leaves a (inl h) = sent_one h
  one_at tasks.Leaves a (inr h) = stored_one 0 tasks.Out Moved h
  one_at tasks.Ends a (inl h) = sent_one h
  one_at tasks.Ends a (inr h) = stored_one 2 tasks.Ended Done h
  one_at tasks.Ended a h = absurd h

  pub one : Agrees m (stand s) (here s) → Turned stand here did moved told m s s' m' reply → OneTurn stand here did moved s s'
  one g h = one_at m.task g.at h.1

  -- a turn that asks no gate is one whatever a gate says
  told_entering : (target : Option ℕ) → EntersFor stand here did moved target asks_none m s s' m' reply →
      EntersFor stand here did moved target told m s s' m' reply
  told_entering None h = absurd h.asked
  told_entering (Some n) h = h

  told_at : (t : Task) → TurnedAt stand here did moved t asks_none m s s' m' reply → TurnedAt stand here did moved t told m s s' m' reply
  told_at tasks.Out h = h
  told_at tasks.Helps h = h
  told_at tasks.GoesIn h = h
  told_at tasks.Enters h = told_entering m.target h
  told_at tasks.Polls h = absurd h.asked
  told_at (tasks.Calls call hd) h = h
  told_at (tasks.Births call) h = h
  told_at (tasks.Writes r w) h = h
  told_at tasks.Waits h = h
  told_at tasks.SendsSingle h = h
  told_at tasks.Leaves h = h
  told_at tasks.Ends h = h
  told_at tasks.Ended h = h

  pub goes_still : Goes stand here did moved told m s s' m' reply → GoesOrStops stand here did moved told m s s' m' reply
  goes_still h = record {
    turned = h.turned;
    agrees = λ _. h.agrees;
    unswept = λ sweeps. absurd (never_sweeps m'.alloc.stage m'.alloc (stand s') (here s') h.agrees.alloc.at sweeps);
    done = h.done;
  }

module _ {T : Type 0} {stand : T → Stand} {here : T → ℕ → Bool} {did : T → Step → Found → T → Type 0}
    {moved : T → ℕ → Option FrameView → Option FrameView → T → Type 0} {told : ℕ → ℕ → Bool → Type 0} {m : Mutating} {s s' : T}
    {m' : Mutating} {reply : Turn} where
  pub stops_any : GoesOrStops stand here did moved asks_none m s s' m' reply → GoesOrStops stand here did moved told m s s' m' reply
  stops_any h = record {
    turned = (h.turned.0, told_at stand here did moved told m s s' m' reply m.task h.turned.1);
    agrees = h.agrees;
    unswept = h.unswept;
    done = h.done;
  }

  pub goes_any : Goes stand here did moved asks_none m s s' m' reply → GoesOrStops stand here did moved told m s s' m' reply
  goes_any h = stops_any (goes_still stand here did moved asks_none m s s' m' reply h)

  pub goes_told : Goes stand here did moved told m s s' m' reply → GoesOrStops stand here did moved told m s s' m' reply
  goes_told h = goes_still stand here did moved told m s s' m' reply h
