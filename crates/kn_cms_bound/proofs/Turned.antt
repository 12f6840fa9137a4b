-- A turn keeps the rule, and lowers the steps that are left.
use Rattle.std.proofs.Common.{◌≡◌, ℕ, ◌<◌, ◌≤◌, List, [], ◌∷◌, refl, sym, ap, subst, ◌∙◌, arith}
use Rattle.kn_base.specs.Sizes.{word_count}
use Rattle.kn_graph.specs.declared.calls.Call.{Call}
use Rattle.kn_graph.specs.Ground.{Ground}
use Rattle.kn_lines.specs.declared.orders.Actor.{Actor}
use Rattle.kn_lines.specs.declared.orders.Actor.TheVariants.{Thread, Collector, Finalizer, Round}
use Rattle.kn_cms_rule.specs.declared.stages.CmsTurn.{CmsTurn}
use Rattle.kn_cms_rule.specs.declared.stages.CmsTurn.TheVariants.{Idle, Done, Moved}
use Rattle.kn_cms_rule.specs.declared.stages.Stage.{Stage}
use Rattle.kn_cms_rule.specs.declared.stages.Stage.TheVariants.{Waiting, Marking, Looking, Finished}
use Rattle.kn_cms_rule.specs.Words.{one_framed, words_taken}
use Rattle.kn_cms_rule.specs.State.{State}
use Rattle.kn_cms_rule.specs.Rule.{Rule}
use Rattle.kn_cms_rule.specs.Steps.{ThreadStep, bears, fills, answers, refuses, loads, shades, stores}
use Rattle.kn_cms_rule.specs.Steps.{CollectorStep, snapshots, begins, looks, blackens, ends}
use Rattle.kn_cms_rule.specs.Turns.{MayTurn, TurnOf, ThreadTurn, CollectorTurn, ended, stepped, waits, rests, moves}
use Rattle.kn_cms_rule.specs.Turns.{collector_answer, thread_answer}
use Rattle.kn_cms_rule.proofs.BirthLaw.{birth_keeps}
use Rattle.kn_cms_rule.proofs.CallLaws.{answer_keeps, fill_keeps, refusal_keeps, store_keeps}
use Rattle.kn_cms_rule.proofs.SetLaws.{load_keeps, shade_keeps}
use Rattle.kn_cms_rule.proofs.CollectorLaws.{begin_keeps, blacken_keeps, end_keeps, look_keeps, snapshot_keeps}
use Rattle.kn_cms_bound.specs.Work.{steps_of_threads, steps_of_collector}
use Rattle.kn_cms_bound.specs.TurnLaws.{Holds, Lowers}
use Rattle.kn_cms_bound.proofs.ThreadWork.{StepLowers, thread_lowers}
use Rattle.kn_cms_bound.proofs.CollectorWork.{begin_lowers, begun_born, blacken_lowers, end_lowers, look_lowers, snapshot_lowers}

module _ (base : Ground) (calls : ℕ → List Call) (s : State) (holds : Holds (one_framed base) calls s) where
  thread_keeps : (i : ℕ) → i < base.sizes.threads → (s' : State) → ThreadStep (one_framed base) s i s' → Rule (one_framed base) calls s'
  thread_keeps i near s' (bears k) = birth_keeps base calls s s' i near holds.rule k
  thread_keeps i near s' (fills k) = fill_keeps base calls s s' i near holds.rule k
  thread_keeps i near s' (answers k) = answer_keeps base calls s s' i near holds.rule k
  thread_keeps i near s' (refuses k) = refusal_keeps base calls s s' i near holds.rule k
  thread_keeps i near s' (loads k) = load_keeps (one_framed base) calls s s' i near holds.rule k
  thread_keeps i near s' (shades k) = shade_keeps (one_framed base) calls s s' i near holds.rule k
  thread_keeps i near s' (stores k) = store_keeps base calls s s' i near holds.rule k

  step_lowers : (i : ℕ) → i < base.sizes.threads → (s' : State) → ThreadStep (one_framed base) s i s' → StepLowers (one_framed base) s s'
  step_lowers i near = thread_lowers (one_framed base) calls s holds.rule i near (begun_born (one_framed base) calls s holds.rule)

  collector_keeps : (s' : State) → CollectorStep (one_framed base) s s' → Rule (one_framed base) calls s'
  collector_keeps s' (snapshots k) = snapshot_keeps base calls s s' holds.rule k
  collector_keeps s' (begins k) = begin_keeps (one_framed base) calls s s' holds.rule k
  collector_keeps s' (looks k) = look_keeps (one_framed base) calls s s' holds.rule k
  collector_keeps s' (blackens k) = blacken_keeps (one_framed base) calls s s' holds.rule k
  collector_keeps s' (ends k) = end_keeps (one_framed base) calls s s' holds.rule k

  -- the collector takes no words
  words_stay : (s' : State) → CollectorStep (one_framed base) s s' → words_taken s'.graph ≡ words_taken s.graph
  words_stay s' (snapshots k) = ap (λ (x : State). words_taken x.graph) k.after
  words_stay s' (begins k) = ap (λ (x : State). words_taken x.graph) k.after
  words_stay s' (looks k) = ap (λ (x : State). words_taken x.graph) k.after
  words_stay s' (blackens k) = ap (λ (x : State). words_taken x.graph) k.after
  words_stay s' (ends k) = ap (λ (x : State). words_taken x.graph) k.after

  thread_goes_on : (i : ℕ) → i < base.sizes.threads → (turn : CmsTurn) (s' : State) → ThreadTurn (one_framed base) s i turn s' →
      Holds (one_framed base) calls s'
  thread_goes_on i near turn s' (ended e) = holds
  thread_goes_on i near turn s' (stepped k) = record { rule = thread_keeps i near s' k; fits = (step_lowers i near s' k).fits holds.fits }

  collector_goes_on : (turn : CmsTurn) (s' : State) → CollectorTurn (one_framed base) s turn s' → Holds (one_framed base) calls s'
  collector_goes_on turn s' (waits e first) = holds
  collector_goes_on turn s' (rests e) = holds
  collector_goes_on turn s' (moves k) = record {
    rule = collector_keeps s' k;
    fits = subst (λ n. n ≤ word_count (one_framed base).sizes) (sym (words_stay s' k)) holds.fits;
  }

  -- the threads have as much left where their calls and what they are at stay
  threads_same : (s' : State) → CollectorStep (one_framed base) s s' → steps_of_threads (one_framed base) s' ≡ steps_of_threads (one_framed base) s
  threads_same s' (snapshots k) = ap (steps_of_threads (one_framed base)) k.after
  threads_same s' (begins k) = ap (steps_of_threads (one_framed base)) k.after
  threads_same s' (looks k) = ap (steps_of_threads (one_framed base)) k.after
  threads_same s' (blackens k) = ap (steps_of_threads (one_framed base)) k.after
  threads_same s' (ends k) = ap (steps_of_threads (one_framed base)) k.after

  never_raises : (s' : State) → CollectorStep (one_framed base) s s' → steps_of_collector (one_framed base) s' ≤ steps_of_collector (one_framed base) s
  never_raises s' (snapshots k) = let h = snapshot_lowers (one_framed base) calls s holds.rule s' holds.fits k in omega (arith, h)
  never_raises s' (begins k) = let h = begin_lowers (one_framed base) calls s holds.rule s' k in omega (arith, h)
  never_raises s' (looks k) = let h = look_lowers (one_framed base) calls s holds.rule s' k in omega (arith, h)
  never_raises s' (blackens k) = let h = blacken_lowers (one_framed base) calls s holds.rule s' k in omega (arith, h)
  never_raises s' (ends k) = end_lowers (one_framed base) calls s holds.rule s' k

  -- a step that does not end the collector lowers what it has left
  lowers_on : (s' : State) → CollectorStep (one_framed base) s s' → collector_answer s'.stage ≡ Moved →
      steps_of_collector (one_framed base) s' < steps_of_collector (one_framed base) s
  lowers_on s' (snapshots k) e = snapshot_lowers (one_framed base) calls s holds.rule s' holds.fits k
  lowers_on s' (begins k) e = begin_lowers (one_framed base) calls s holds.rule s' k
  lowers_on s' (looks k) e = look_lowers (one_framed base) calls s holds.rule s' k
  lowers_on s' (blackens k) e = blacken_lowers (one_framed base) calls s holds.rule s' k
  lowers_on s' (ends k) e = let no : Done ≡ Moved = sym (ap (λ (x : State). collector_answer x.stage) k.after) ∙ e in absurd (cc)

  not_idle : (stage : Stage) (i : ℕ) → collector_answer stage ≡ Idle i → ⊥
  not_idle Waiting i e = absurd (cc)
  not_idle Marking i e = absurd (cc)
  not_idle (Looking n f) i e = absurd (cc)
  not_idle Finished i e = absurd (cc)

  never_idle : (left : List Call) (i : ℕ) → thread_answer left ≡ Idle i → ⊥
  never_idle [] i e = absurd (cc)
  never_idle (call ∷ rest) i e = absurd (cc)

  thread_turn_lowers : (i : ℕ) → i < base.sizes.threads → (turn : CmsTurn) (s' : State) → ThreadTurn (one_framed base) s i turn s' →
      Lowers (one_framed base) s turn s'
  thread_turn_lowers i near turn s' (ended e) = record {
    never_rises = omega arith;
    moves = λ no. absurd (cc);
    waits = λ j no. absurd (cc);
  }
  thread_turn_lowers i near turn s' (stepped k) = let h = step_lowers i near s' k in let a = h.threads in let b = h.collector in record {
    never_rises = omega (arith, a, b);
    moves = λ _. omega (arith, a, b);
    waits = λ j no. absurd (never_idle (s'.left i) j no);
  }

  collector_turn_lowers : (turn : CmsTurn) (s' : State) → CollectorTurn (one_framed base) s turn s' → Lowers (one_framed base) s turn s'
  collector_turn_lowers turn s' (waits e first) = record { never_rises = omega arith; moves = λ no. absurd (cc); waits = λ j same. refl }
  collector_turn_lowers turn s' (rests e) = record { never_rises = omega arith; moves = λ no. absurd (cc); waits = λ j no. absurd (cc) }
  collector_turn_lowers turn s' (moves k) = let same = threads_same s' k in record {
    never_rises = let less = never_raises s' k in omega (arith, same, less);
    moves = λ e. let less = lowers_on s' k e in omega (arith, same, less);
    waits = λ j no. absurd (not_idle s'.stage j no);
  }

  pub goes_on : (s' : State) (who : Actor) (turn : CmsTurn) → MayTurn base who → TurnOf (one_framed base) s who turn s' → Holds (one_framed base) calls s'
  goes_on s' (Thread i) turn may t = thread_goes_on i may turn s' t
  goes_on s' Collector turn may t = collector_goes_on turn s' t
  goes_on s' Finalizer turn may t = absurd t
  goes_on s' Round turn may t = absurd t

  pub turn_lowers : (s' : State) (who : Actor) (turn : CmsTurn) → MayTurn base who → TurnOf (one_framed base) s who turn s' →
      Lowers (one_framed base) s turn s'
  turn_lowers s' (Thread i) turn may t = thread_turn_lowers i may turn s' t
  turn_lowers s' Collector turn may t = collector_turn_lowers turn s' t
  turn_lowers s' Finalizer turn may t = absurd t
  turn_lowers s' Round turn may t = absurd t
