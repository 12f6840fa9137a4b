-- When a turn of a core is idle, and when it ends its actor.
use Rattle.std.proofs.Common.{◌≡◌, ℕ, ◌↔◌, sym, subst, ◌∙◌}
use Rattle.kn_graph.specs.Ground.{Ground}
use Rattle.kn_lines.specs.declared.orders.Actor.{Actor}
use Rattle.kn_lines.specs.declared.orders.Actor.TheVariants.{Collector, Finalizer, Round, Thread}
use Rattle.kn_cms_rule.specs.declared.stages.CmsTurn.{CmsTurn}
use Rattle.kn_cms_rule.specs.declared.stages.CmsTurn.TheVariants.{Done, Idle}
use Rattle.kn_cms_rule.specs.declared.stages.Stage.TheVariants.{Waiting}
use Rattle.kn_cms_rule.specs.Words.{one_framed}
use Rattle.kn_cms_rule.specs.State.{State}
use Rattle.kn_cms_rule.specs.Turns.{HasEnded, IsFirstInMiddle, MayTurn}
use Rattle.kn_cms_rule.proofs.Turned.{done_exactly, idle_exactly}
use Rattle.kn_cms_lists.specs.Kept.{Kept}
use Rattle.kn_cms.specs.Stands.{IsCore, StandsFor}
use Rattle.kn_cms.specs.Moves.{TurnMoves}

-- an actor has ended in each state that the lists stand for, or in none
ended_same : (k : Kept) (s s' : State) (who : Actor) → MayTurn k.ground who → StandsFor k s → StandsFor k s' → HasEnded s who → HasEnded s' who
ended_same k s s' (Thread i) near h h' e = sym (h'.left i near) ∙ (h.left i near ∙ e)
ended_same k s s' Collector may h h' e = sym h'.stage ∙ (h.stage ∙ e)
ended_same k s s' Finalizer may h h' e = absurd may
ended_same k s s' Round may h h' e = absurd may

module _ (k k' : Kept) (core : IsCore k) (who : Actor) (may : MayTurn k.ground who) (turn : CmsTurn) (m : TurnMoves k who turn k') where
  pub idle_told : (s : State) (i : ℕ) → StandsFor k s →
      (turn ≡ Idle i) ↔ ((who ≡ Collector) × (s.stage ≡ Waiting) × IsFirstInMiddle (one_framed k.ground) s i)
  idle_told s i h = let p = m.stands s h in idle_exactly (one_framed k.ground) s p.0 who turn i p.2

  pub done_told : (s : State) → StandsFor k' s → (turn ≡ Done) ↔ HasEnded s who
  done_told s h =
      let p = m.stands core.state core.stands in
      let is = done_exactly (one_framed k.ground) core.state p.0 who turn p.2 in
      let may' = subst (λ (z : Ground). MayTurn z who) (sym m.ground) may in
      (λ e. ended_same k' p.0 s who may' p.1 h (is.0 e), λ e. is.1 (ended_same k' s p.0 who may' h p.1 e))
