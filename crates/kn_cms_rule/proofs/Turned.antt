-- When a turn is idle, and when it ends an actor.
use Rattle.std.proofs.Common.{◌≡◌, ℕ, ◌<◌, ◌⊎◌, ◌↔◌, inl, inr, List, [], ◌∷◌, refl, sym, subst, ap, ◌∙◌}
use Rattle.std.proofs.lemmas.Bool.{cases_order}
use Rattle.kn_graph.specs.declared.calls.Call.{Call}
use Rattle.kn_graph.specs.Ground.{Ground}
use Rattle.kn_lines.specs.declared.orders.Actor.{Actor}
use Rattle.kn_lines.specs.declared.orders.Actor.TheVariants.{Thread, Collector, Finalizer, Round}
use Rattle.kn_cms_rule.specs.declared.stages.CmsTurn.{CmsTurn}
use Rattle.kn_cms_rule.specs.declared.stages.CmsTurn.TheVariants.{Idle, Done}
use Rattle.kn_cms_rule.specs.declared.stages.Stage.{Stage}
use Rattle.kn_cms_rule.specs.declared.stages.Stage.TheVariants.{Waiting, Marking, Looking, Finished}
use Rattle.kn_cms_rule.specs.State.{State}
use Rattle.kn_cms_rule.specs.Steps.{CollectorStep, snapshots, begins, looks, blackens, ends}
use Rattle.kn_cms_rule.specs.Turns.{TurnOf, ThreadTurn, CollectorTurn, IsFirstInMiddle, HasEnded, thread_answer, collector_answer, ended, stepped}
use Rattle.kn_cms_rule.specs.Turns.{waits, rests, moves}

never_idle : (left : List Call) (i : ℕ) → thread_answer left ≡ Idle i → ⊥
never_idle [] i e = absurd (cc)
never_idle (call ∷ rest) i e = absurd (cc)

moved_not_idle : (stage : Stage) (i : ℕ) → collector_answer stage ≡ Idle i → ⊥
moved_not_idle Waiting i e = absurd (cc)
moved_not_idle Marking i e = absurd (cc)
moved_not_idle (Looking n f) i e = absurd (cc)
moved_not_idle Finished i e = absurd (cc)

done_then : (left : List Call) → (thread_answer left ≡ Done) ↔ (left ≡ [])
done_then [] = (λ e. refl, λ e. refl)
done_then (call ∷ rest) = (λ e. absurd (cc), λ e. absurd (cc))

finished_then : (stage : Stage) → (collector_answer stage ≡ Done) ↔ (stage ≡ Finished)
finished_then Waiting = (λ e. absurd (cc), λ e. absurd (cc))
finished_then Marking = (λ e. absurd (cc), λ e. absurd (cc))
finished_then (Looking n f) = (λ e. absurd (cc), λ e. absurd (cc))
finished_then Finished = (λ e. refl, λ e. refl)

-- two threads that are the first one in the middle of a call are one
first_same : (z : Ground) (s : State) (i j : ℕ) → IsFirstInMiddle z s i → IsFirstInMiddle z s j → (i ≡ j) ⊎ ((i < j) ⊎ (j < i)) → i ≡ j
first_same z s i j a b (inl e) = e
first_same z s i j a b (inr (inl less)) = absurd (a.in_middle (b.first i less))
first_same z s i j a b (inr (inr more)) = absurd (b.in_middle (a.first j more))

not_stage : (s : State) (a b : Stage) → s.stage ≡ a → s.stage ≡ b → a ≡ b
not_stage s a b e f = sym e ∙ f

-- before the snapshot the collector makes no step while a thread is in the middle of a call
no_step : (z : Ground) (s s' : State) (i : ℕ) → s.stage ≡ Waiting → IsFirstInMiddle z s i → CollectorStep z s s' → ⊥
no_step z s s' i e first (snapshots k) = first.in_middle (k.between i first.is_thread)
no_step z s s' i e first (begins k) = let f = not_stage s Waiting Marking e k.marks in absurd (cc)
no_step z s s' i e first (looks k) = let f = not_stage s Waiting (Looking k.object k.from) e k.begun in absurd (cc)
no_step z s s' i e first (blackens k) = let f = not_stage s Waiting (Looking k.object k.from) e k.begun in absurd (cc)
no_step z s s' i e first (ends k) = let f = not_stage s Waiting Marking e k.marks in absurd (cc)

idle_of : (z : Ground) (s s' : State) (turn : CmsTurn) (i : ℕ) → CollectorTurn z s turn s' →
    (turn ≡ Idle i) ↔ ((Collector ≡ Collector) × (s.stage ≡ Waiting) × IsFirstInMiddle z s i)
idle_of z s s' turn i (waits {i = j} e first) = (
  λ f. let same : j ≡ i = cc in (refl, e, subst (IsFirstInMiddle z s) same first),
  λ p. ap (λ k. Idle k) (first_same z s j i first p.2 (cases_order j i)),
)
idle_of z s s' turn i (rests e) = (λ f. absurd (cc), λ p. let f = not_stage s Finished Waiting e p.1 in absurd (cc))
idle_of z s s' turn i (moves k) = (λ f. absurd (moved_not_idle s'.stage i f), λ p. absurd (no_step z s s' i p.1 p.2 k))

idle_thread : (z : Ground) (s s' : State) (thread : ℕ) (turn : CmsTurn) (i : ℕ) → ThreadTurn z s thread turn s' → turn ≡ Idle i → ⊥
idle_thread z s s' thread turn i (ended e) f = absurd (cc)
idle_thread z s s' thread turn i (stepped k) f = never_idle (s'.left thread) i f

pub idle_exactly : (z : Ground) (s s' : State) (who : Actor) (turn : CmsTurn) (i : ℕ) → TurnOf z s who turn s' →
    (turn ≡ Idle i) ↔ ((who ≡ Collector) × (s.stage ≡ Waiting) × IsFirstInMiddle z s i)
idle_exactly z s s' (Thread k) turn i t = (λ f. absurd (idle_thread z s s' k turn i t f), λ p. let e = p.0 in absurd (cc))
idle_exactly z s s' Collector turn i t = idle_of z s s' turn i t
idle_exactly z s s' Finalizer turn i t = absurd t
idle_exactly z s s' Round turn i t = absurd t

done_thread : (z : Ground) (s s' : State) (thread : ℕ) (turn : CmsTurn) → ThreadTurn z s thread turn s' → (turn ≡ Done) ↔ (s'.left thread ≡ [])
done_thread z s s' thread turn (ended e) = (λ _. e, λ _. refl)
done_thread z s s' thread turn (stepped k) = done_then (s'.left thread)

done_collector : (z : Ground) (s s' : State) (turn : CmsTurn) → CollectorTurn z s turn s' → (turn ≡ Done) ↔ (s'.stage ≡ Finished)
done_collector z s s' turn (waits {i = j} e first) = (λ f. absurd (cc), λ f. let g = not_stage s Waiting Finished e f in absurd (cc))
done_collector z s s' turn (rests e) = (λ _. e, λ _. refl)
done_collector z s s' turn (moves k) = finished_then s'.stage

pub done_exactly : (z : Ground) (s s' : State) (who : Actor) (turn : CmsTurn) → TurnOf z s who turn s' → (turn ≡ Done) ↔ HasEnded s' who
done_exactly z s s' (Thread k) turn t = done_thread z s s' k turn t
done_exactly z s s' Collector turn t = done_collector z s s' turn t
done_exactly z s s' Finalizer turn t = absurd t
done_exactly z s s' Round turn t = absurd t
