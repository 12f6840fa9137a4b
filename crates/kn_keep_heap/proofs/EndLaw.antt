-- The collector ends.
use Rattle.std.proofs.Common.{◌≡◌, ℕ, ◌<◌, inl, inr, Bool, slice_get, refl, sym, subst, ap, ◌∙◌, arith}
use Rattle.kn_base.specs.declared.places.Place.TheVariants.{Phase, State as StateOf}
use Rattle.kn_base.specs.Functions.{upd}
use Rattle.kn_base.proofs.Updates.{upd_case, upd_else}
use Rattle.kn_graph.specs.Ground.{Ground}
use Rattle.kn_graph.specs.Graph.{Graph}
use Rattle.kn_rule.specs.declared.positions.Position.TheVariants.{Out, Ended}
use Rattle.kn_rule.specs.declared.steps.Kind.TheVariants.{K2}
use Rattle.kn_rule.specs.declared.steps.Action.TheVariants.{Stores}
use Rattle.kn_rule.specs.Views.{Views, State, Open, Collecting, views_of}
use Rattle.kn_rule.specs.Steps.{Found, does, quietly, callers}
use Rattle.kn_rule.specs.Outcomes.{position_of}
use Rattle.kn_rule.specs.Allowed.{MayStopCollecting}
use Rattle.kn_rule.specs.Moves.{stepped_by}
use Rattle.kn_rule.specs.CallerClauses.{IsInOrLeaving, AtEnd, MayOwn}
use Rattle.kn_rule.specs.Rule.{Rule, RuleOf}
use Rattle.kn_keep_heap.proofs.Idle.{stands_by}

-- what the collector's view has for its part
pub collector_part : (z : Ground) (s : State) (by : ℕ) → by ≡ z.sizes.threads →
    ((views_of s.caller).rest z.sizes.threads).collecting ≡ (s.caller by).collecting
collector_part z s by e = ap (λ k. (s.caller k).collecting) (sym e)

module _ (z : Ground) (s : State) (g : Graph) (rule : RuleOf z g s.word s.page (views_of s.caller) s.history) (by : ℕ)
    (is : by ≡ z.sizes.threads) where
  abbrev V : Views
  V = views_of s.caller

  pub collector_ends : AtEnd z V.position (λ _. (s.caller by).collecting.ended)
  collector_ends = record {
    seen = λ i l e. rule.stands.at_end.seen i l (ap (λ (x : Collecting). slice_get x.ended i) (collector_part z s by is) ∙ e);
    all = rule.stands.at_end.all;
  }

  -- the collector ends
  pub collector_ended : (here : ℕ → Bool) (f : Found) (n : ℕ) → MayStopCollecting z by (s.caller by) here n →
      Rule z (stepped_by s by (does K2 (StateOf by) (Stores 2)) f (quietly (record (s.caller by) { position = position_of 2 })))
  collector_ended here f n m =
      let near : by < callers z.sizes = omega (arith, is) in (
        g,
        stands_by z s by near g rule Out Ended 2 m.collects.going tt tt (λ h. h) refl
            (record {
              seen = λ i l h. upd_case (λ k p. k < z.sizes.threads → p ≡ Ended) V.position by Ended (λ _. refl) i
                  (λ _ l. rule.stands.at_end.seen i l h) l;
              all = λ _ i l. upd_case (λ k p. k < z.sizes.threads → p ≡ Ended) V.position by Ended (λ _. refl) i
                  (λ _ l. collector_ends.seen i l (m.ended i l)) l;
            })
            (λ _. tt)
            (record { each = λ c p o l h. owner c p o (rule.stands.owners.each c p o l h) })
            (λ h. absurd h)
            (λ l. absurd (omega (arith, is, l))),
      )
    where
      owner : (c p : ℕ) (o : Open) → MayOwn z (s.word Phase) V.position c → MayOwn z (s.word Phase) (upd V.position by Ended) c
      owner c p o (inl h) =
          let l = h.0 in
          inl (l, subst (λ x. IsInOrLeaving x) (sym (upd_else V.position by Ended c (λ i. absurd (omega (arith, l, is, i))))) h.1)
      owner c p o (inr h) = inr h
