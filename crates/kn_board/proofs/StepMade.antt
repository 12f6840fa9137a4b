-- What a step on the board tells its caller.
use Rattle.std.proofs.Common.{◌≡◌, ℕ, ◌<◌, inl, inr, Bool, true, cond, eqb, Some, is_some, refl, sym, ap, ◌∙◌}
use Rattle.std.proofs.lemmas.Bool.Decides.{eqb_tells}
use Rattle.kn_base.specs.Functions.{upd, Tells}
use Rattle.kn_base.proofs.Updates.{upd_here, split_at}
use Rattle.kn_graph.specs.Ground.{IsGoodGround}
use Rattle.kn_rule.specs.declared.steps.Kind.{Kind}
use Rattle.kn_rule.specs.declared.steps.Kind.TheVariants.{K10}
use Rattle.kn_rule.specs.Views.{State}
use Rattle.kn_rule.specs.Steps.{Step, Found, callers, frame_in, word_wanted}
use Rattle.kn_rule.specs.Allowed.{MayMake}
use Rattle.kn_rule.specs.Moves.{view_after}
use Rattle.kn_rule.specs.Rule.{Rule}
use Rattle.kn_steps.specs.Made.{Made, here_by}
use Rattle.kn_board.specs.World.{World, word_at, slot_at, view_at, IsPageFound, StandsFor, world_after, stand_at, lies_at}
use Rattle.kn_board.proofs.Sounds.{view_at_after}
use Rattle.kn_board.proofs.StepSound.{step_shown}

module _ (w : World) (good : IsGoodGround w.heap) (s : State) (rule : Rule w.heap s) (h : StandsFor w s) (by : ℕ)
    (less : by < callers w.heap.sizes) (f : Found) where
  abbrev here : ℕ → Bool
  here = lies_at w

  claim_lies : (k old : ℕ) → (f.word ≡ old → slot_at w k ≡ Some f.page) → Tells f.word old → (j : ℕ) →
      here j ≡ upd here k (cond (eqb f.word old) true (here k)) j
  claim_lies k old lies (inl t) j =
      split_at (λ j. here j ≡ upd here k (cond (eqb f.word old) true (here k)) j) k
      (ap is_some (lies t.1) ∙ (sym (ap (λ b. cond b true (here k)) t.0) ∙ sym (upd_here here k (cond (eqb f.word old) true (here k))))) j
      (λ ne. sym (Rattle.kn_base.proofs.Updates.upd_else here k (cond (eqb f.word old) true (here k)) j ne))
  claim_lies k old lies (inr t) j =
      split_at (λ j. here j ≡ upd here k (cond (eqb f.word old) true (here k)) j) k
      (sym (ap (λ b. cond b true (here k)) t.0) ∙ sym (upd_here here k (cond (eqb f.word old) true (here k)))) j
      (λ ne. sym (Rattle.kn_base.proofs.Updates.upd_else here k (cond (eqb f.word old) true (here k)) j ne))

  lies_by : (k : Kind) (p old : ℕ) → IsPageFound k old f (slot_at w p) → (j : ℕ) → here j ≡ here_by here p old f k j
  lies_by K10 p old lies j = claim_lies p old lies (eqb_tells f.word old) j
  lies_by _ p old lies j = refl

  module _ (d : Step) (may : MayMake w.heap by (view_at w by) here d) (is : f.word ≡ word_at w d.place)
      (lies : IsPageFound d.kind (word_wanted d.act) f (slot_at w (frame_in d.place))) where
    my_view : view_at (world_after w by d f) by ≡ view_after w.heap by (view_at w by) d f
    my_view = view_at_after w good s rule h by less d may f is lies by ∙ upd_here (view_at w) by (view_after w.heap by (view_at w by) d f)

    pub step_made : Made (stand_at by w) here d f (stand_at by (world_after w by d f)) (lies_at (world_after w by d f))
    step_made = record {
      may = may;
      view = λ t. record { heap = w.heap; by = by; view = my_view t };
      lies = λ p o e. lies_by d.kind (frame_in d.place) (word_wanted d.act) lies p;
      shown = step_shown w good s rule h by less f d may is lies;
    }
