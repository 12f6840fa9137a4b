-- Flags of who has ended, and counts of what was answered.
use Rattle.std.proofs.Common.{◌≡◌, ℕ, ◌<◌, Bool, true}
use Rattle.std.proofs.Common.{false, List, [], ◌∷◌, ◌++◌, length, map, get_or, Some}
use Rattle.std.proofs.Common.{slice_get, slice_set, refl, sym, ap, ◌∙◌, arith}
use Rattle.std.specs.Option.{option_map}
use lib.ListN.{length-map}
use Rattle.std.proofs.Math.Seq.{set-append_seam}
use Rattle.std.proofs.lemmas.List.{get_or_append_left, map-set, set-append_left}
use Rattle.std.proofs.lemmas.Option.{slice_get_within, slice_get-map, get_or_from_slice_get}
use Rattle.kn_collector.specs.declared.stage.Stage.{Stage}
use Rattle.kn_collector.specs.declared.stage.Stage.TheVariants as stages
use Rattle.kn_collector.specs.Agree.{HasEnded as HasCollected}
use Rattle.kn_collector.specs.Kept.{Kept}
use Rattle.kn_mutator.specs.declared.task.Task.{Task}
use Rattle.kn_mutator.specs.declared.task.Task.TheVariants.{Ended}
use Rattle.kn_mutator.specs.Agree.{HasEnded}
use Rattle.kn_mutator.specs.Mutating.{Mutating}
use Rattle.kn_trace.specs.Traces.{ends, is_end, is_over}

-- the flag of a task, or of a stage, tells whether it is the last one
pub has_ended : (task : Task) → is_end task ≡ true → HasEnded task
has_ended Ended e = tt
has_ended _ e = cc

pub goes_on_at : (task : Task) → is_end task ≡ false → ¬ HasEnded task
goes_on_at Ended e h = cc
goes_on_at _ e h = h

pub collects_on_at : (stage : Stage) → is_over stage ≡ false → ¬ HasCollected stage
collects_on_at stages.Ended e h = cc
collects_on_at _ e h = h

pub is_end_is : (b : Bool) (task : Task) → (b ≡ true → HasEnded task) → (HasEnded task → b ≡ true) → b ≡ is_end task
is_end_is b Ended to from = from tt
is_end_is true _ to from = absurd (to refl)
is_end_is false _ to from = refl

pub is_over_is : (b : Bool) (stage : Stage) → (b ≡ true → HasCollected stage) → (HasCollected stage → b ≡ true) → b ≡ is_over stage
is_over_is b stages.Ended to from = from tt
is_over_is true _ to from = absurd (to refl)
is_over_is false _ to from = refl

-- what is kept of a mutator is set before what is kept of the collector, and that behind them
pub set_left : {B : Type 0} (f : Mutating → B) (ms : List Mutating) (ys : List B) (i : ℕ) (m : Mutating) (b : B) → i < length ms → b ≡ f m →
    slice_set (map f ms ++ ys) i b ≡ map f (slice_set ms i m) ++ ys
set_left f ms ys i m b near is =
    set-append_left (map f ms) ys i b (omega (arith, length-map ms f))
    ∙ ap (λ l. l ++ ys) (ap (slice_set (map f ms) i) is ∙ sym (map-set f ms i m))

pub set_last : {B : Type 0} (f : Mutating → B) (ms : List Mutating) (b c : B) → slice_set (map f ms ++ b ∷ []) (length ms) c ≡ map f ms ++ c ∷ []
set_last f ms b c =
    ap (λ n. slice_set (map f ms ++ b ∷ []) n c) (sym (length-map ms f)) ∙ set-append_seam (map f ms) b [] c

module _ (ms : List Mutating) (k : Kept) where
  abbrev flag : Mutating → Bool
  flag m = is_end m.task

  -- the flag of a thread is that of its mutator
  pub thread_flag : (i : ℕ) (m : Mutating) → slice_get ms i ≡ Some m → get_or (ends ms k) i false ≡ is_end m.task
  thread_flag i m is =
      get_or_append_left (map flag ms) (is_over k.stage ∷ []) false i (omega (arith, length-map ms flag, slice_get_within ms i m is))
      ∙ get_or_from_slice_get (map flag ms) i (is_end m.task) false (slice_get-map flag ms i ∙ ap (option_map flag) is)
