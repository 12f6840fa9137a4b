-- A turn that makes the step of its task.
use Rattle.std.proofs.Common.{◌≡◌, ℕ, ◌↔◌, Bool, true, false, Option, Some, refl, sym, ap, ◌∙◌, subst}
use Rattle.kn_base.specs.Pages.{FrameView}
use Rattle.kn_graph.specs.Ground.{Ground}
use Rattle.kn_rule.specs.Steps.{Found, Step}
use Rattle.kn_steps.specs.Made.{Made, Stand}
use Rattle.kn_steps.specs.declared.turns.Turn.{Turn}
use Rattle.kn_steps.specs.declared.turns.Turn.TheVariants.{Moved, Done}
use Rattle.kn_alloc.specs.Keeps.{Keeps}
use Rattle.kn_mutator.specs.declared.task.Task.{Task}
use Rattle.kn_mutator.specs.Agree.{Agrees, HasEnded}
use Rattle.kn_mutator.specs.Mutating.{Mutating}
use Rattle.kn_mutator.specs.Tasks.{answer_behind, marker_behind, rest_task, task_behind, task_step}
use Rattle.kn_mutator.specs.Turns.{Goes, IsAllocBehind, MakesStep, TurnedAt}

-- between two calls no request begins
pub alloc_rests : (z : Ground) (left single : Bool) (k : Keeps) (e : ℕ) → IsAllocBehind z (rest_task left single) k e k
alloc_rests z false single k e = refl
alloc_rests z true true k e = refl
alloc_rests z true false k e = refl

-- between two calls it has not ended
pub rest_goes_on : (left single : Bool) → HasEnded (rest_task left single) → ⊥
rest_goes_on false single h = h
rest_goes_on true true h = h
rest_goes_on true false h = h

-- where it has not ended, a turn that is not done says so
pub not_done : (reply : Turn) (t : Task) → (reply ≡ Done → ⊥) → (HasEnded t → ⊥) → (reply ≡ Done) ↔ HasEnded t
not_done reply t a b = (λ e. absurd (a e), λ h. absurd (b h))

pub moves_on : (t : Task) → (HasEnded t → ⊥) → (Moved ≡ Done) ↔ HasEnded t
moves_on t = not_done Moved t (λ e. cc)

module _ {T : Type 0} (stand : T → Stand) (here : T → ℕ → Bool) (did : T → Step → Found → T → Type 0)
    (moved : T → ℕ → Option FrameView → Option FrameView → T → Type 0) (m : Mutating) (s s' : T) (m' : Mutating) (reply : Turn) where
  pub makes : (t : Task) → m.task ≡ t → (d : Step) (f : Found) → task_step m t ≡ Some d → Made (stand s) (here s) d f (stand s') (here s') →
      did s d f s' → m'.task ≡ task_behind t f.word m' (stand s').view → m'.alloc ≡ m.alloc →
      m'.marker ≡ marker_behind t f.word m.marker → reply ≡ answer_behind t m.target f.word →
      MakesStep stand here did moved m s s' m' reply
  makes t e d f named made kept task alloc marker answer = record {
    step = d;
    found = f;
    named = ap (task_step m) e ∙ named;
    made = made;
    kept = kept;
    task = task ∙ sym (ap (λ t. task_behind t f.word m' (stand s').view) e);
    alloc = alloc;
    marker = marker ∙ sym (ap (λ t. marker_behind t f.word m.marker) e);
    answer = answer ∙ sym (ap (λ t. answer_behind t m.target f.word) e);
  }

  -- the heap, the thread and the calls stay
  pub goes_by : (told : ℕ → ℕ → Bool → Type 0) (t : Task) → m.task ≡ t → TurnedAt stand here did moved t told m s s' m' reply →
      m'.heap ≡ m.heap → m'.by ≡ m.by → m'.calls ≡ m.calls → Agrees m' (stand s') (here s') → ((reply ≡ Done) ↔ HasEnded m'.task) →
      Goes stand here did moved told m s s' m' reply
  goes_by told t e turned heap by calls g done = record {
    turned = (
      record { heap = heap; by = by; calls = calls; knows = g.knows },
      subst (λ t. TurnedAt stand here did moved t told m s s' m' reply) (sym e) turned,
    );
    agrees = g;
    done = done;
  }
