-- The turn of a thread: a step, behind which it has a call left or has ended.
use Rattle.std.proofs.Common.{◌≡◌, ℕ, ◌<◌, true, false, Option, Some, None, is_some, slice_index, refl, sym, ap, subst, ◌∙◌}
use Rattle.kn_graph.specs.Ground.{Ground}
use Rattle.kn_graph.specs.declared.calls.Call.{Call}
use Rattle.kn_lines.specs.declared.orders.Actor.TheVariants.{Thread}
use Rattle.kn_cms_rule.specs.declared.stages.CmsTurn.{CmsTurn}
use Rattle.kn_cms_rule.specs.declared.stages.CmsTurn.TheVariants.{Moved, Done}
use Rattle.kn_cms_rule.specs.Words.{one_framed}
use Rattle.kn_cms_rule.specs.State.{State}
use Rattle.kn_cms_rule.specs.Turns.{ThreadTurn, ended, stepped, thread_answer}
use Rattle.kn_cms_lists.specs.Kept.{Kept, calls_of_threads, next_call}
use Rattle.kn_cms.specs.Stands.{StandsFor}
use Rattle.kn_cms.specs.Moves.{ThreadMoves, TurnMoves}
use Rattle.kn_cms.proofs.NextCalls.{drop_at, drop_past}

pub ended_moves : (k : Kept) (i : ℕ) → i < k.ground.sizes.threads → next_call k i ≡ None → TurnMoves k (Thread i) Done k
ended_moves k i near e = record {
  ground = refl;
  calls = refl;
  stands = λ s h. (s, h, ended (sym (h.left i near) ∙ drop_past (calls_of_threads k.calls i) (slice_index k.made i) e));
}

module _ (k k' : Kept) (i : ℕ) (near : i < k.ground.sizes.threads) (m : ThreadMoves k i k') where
  near' : i < k'.ground.sizes.threads
  near' = subst (λ (z : Ground). i < z.sizes.threads) (sym m.ground) near

  answered_moves : (turn : CmsTurn) → ((s' : State) → StandsFor k' s' → thread_answer (s'.left i) ≡ turn) → TurnMoves k (Thread i) turn k'
  answered_moves turn is = record {
    ground = m.ground;
    calls = m.calls;
    stands = λ s h. let p = m.stands s h in (p.0, p.1, subst (λ t. ThreadTurn (one_framed k.ground) s i t p.0) (is p.0 p.1) (stepped p.2));
  }

  pub goes_on_moves : is_some (next_call k' i) ≡ true → TurnMoves k (Thread i) Moved k'
  goes_on_moves e = by (next_call k' i) refl e
    where
      by : (o : Option Call) → next_call k' i ≡ o → is_some o ≡ true → TurnMoves k (Thread i) Moved k'
      by None is e = absurd (cc)
      by (Some call) is e = answered_moves Moved (λ s' h'. ap (λ l. thread_answer l) (sym (h'.left i near')
          ∙ drop_at (calls_of_threads k'.calls i) (slice_index k'.made i) call is))

  pub ends_moves : is_some (next_call k' i) ≡ false → TurnMoves k (Thread i) Done k'
  ends_moves e = by (next_call k' i) refl e
    where
      by : (o : Option Call) → next_call k' i ≡ o → is_some o ≡ false → TurnMoves k (Thread i) Done k'
      by (Some call) is e = absurd (cc)
      by None is e = answered_moves Done (λ s' h'. ap (λ l. thread_answer l) (sym (h'.left i near')
          ∙ drop_past (calls_of_threads k'.calls i) (slice_index k'.made i) is))
