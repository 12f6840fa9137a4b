-- Outcomes by the parts of a place and of an action.
use Rattle.std.proofs.Common.{◌≡◌, ℕ, List, sym, ap, ◌∙◌, subst}
use Rattle.kn_base.specs.declared.places.Place.{Place}
use Rattle.kn_base.specs.declared.places.Place.TheVariants.{RootSet, State, Local, Side}
use Rattle.kn_graph.specs.declared.entries.Entry.{Entry}
use Rattle.kn_graph.specs.Ground.{Ground}
use Rattle.kn_rule.specs.declared.steps.Kind.TheVariants.{K17, K20, K22}
use Rattle.kn_rule.specs.declared.steps.Action.{Action}
use Rattle.kn_rule.specs.declared.steps.Action.TheVariants.{Stores}
use Rattle.kn_rule.specs.Steps.{Found, address_in, local_in, word_stored, set_in, state_in}
use Rattle.kn_rule.specs.Outcomes.{went, write_at, born_at, phase_stored, state_loaded, worked}
use Rattle.kn_view.specs.Parts.{Part}
use Rattle.kn_view.specs.Told.{Makes, Says}
use Rattle.kn_board.specs.Asks.{AsksState, AsksWrite, AsksBirth, AsksPhase, AsksLoadState, AsksSet, AsksMark, AsksGray}

module _ (z : Ground) (by : ℕ) (old new : Part) (p : Place) (a : Action) (f : Found) where
  pub went_there : AsksState z by old p a f.word → (w : ℕ) → w ≡ word_stored a →
      Makes z old new (λ v. went z by v (State by) (Stores w) f) → Makes z old new (λ v. went z by v p a f)
  went_there asks w e h =
      let act : Stores w ≡ a = ap Stores (e ∙ ap word_stored asks.act) ∙ sym asks.act in
      subst (λ q. Makes z old new (λ v. went z by v q a f)) (sym asks.place)
      (subst (λ b. Makes z old new (λ v. went z by v (State by) b f)) act h)

  pub state_there : AsksLoadState z by old p a f.word → (i : ℕ) → i ≡ state_in p →
      Makes z old new (λ v. state_loaded z by v (State i) a f) → Makes z old new (λ v. state_loaded z by v p a f)
  state_there asks i e h =
      let place : State i ≡ p = ap State (e ∙ ap state_in asks.place) ∙ sym asks.place in
      subst (λ q. Makes z old new (λ v. state_loaded z by v q a f)) place h

  pub set_there : AsksSet z by old p a f.word → (j : ℕ) → j ≡ set_in p → Makes z old new (λ v. worked z by v (RootSet j) a f K17) →
      Makes z old new (λ v. worked z by v p a f K17)
  set_there asks j e h =
      let place : RootSet j ≡ p = ap RootSet (e ∙ ap set_in asks.place) ∙ sym asks.place in
      subst (λ q. Makes z old new (λ v. worked z by v q a f K17)) place h

  pub mark_there : AsksMark z by old p a f.word → (x : ℕ) → x ≡ address_in p → Makes z old new (λ v. worked z by v (Side x) a f K20) →
      Makes z old new (λ v. worked z by v p a f K20)
  mark_there asks x e h =
      let place : Side x ≡ p = ap Side (e ∙ ap address_in asks.place) ∙ sym asks.place in
      subst (λ q. Makes z old new (λ v. worked z by v q a f K20)) place h

  pub gray_there : AsksGray z by old p a f.word → (x : ℕ) → x ≡ address_in p → Makes z old new (λ v. worked z by v (Side x) a f K22) →
      Makes z old new (λ v. worked z by v p a f K22)
  gray_there asks x e h =
      let place : Side x ≡ p = ap Side (e ∙ ap address_in asks.place) ∙ sym asks.place in
      subst (λ q. Makes z old new (λ v. worked z by v q a f K22)) place h

  module _ (before after : List Entry) where
    pub written_there : AsksWrite z by old p a f.word → (r w : ℕ) → r ≡ local_in p → w ≡ word_stored a →
        Says z old new before after (λ v. write_at z by v (Local by r) (Stores w) f old.position) →
        Says z old new before after (λ v. write_at z by v p a f old.position)
    written_there asks r w er ew h =
        let act : Stores w ≡ a = ap Stores (ew ∙ ap word_stored asks.act) ∙ sym asks.act in
        let place : Local by r ≡ p = ap (Local by) (er ∙ ap local_in asks.place) ∙ sym asks.place in
        subst (λ q. Says z old new before after (λ v. write_at z by v q a f old.position)) place
        (subst (λ b. Says z old new before after (λ v. write_at z by v (Local by r) b f old.position)) act h)

    pub born_there : AsksBirth z by old p a f.word → (b : ℕ) → b ≡ address_in p →
        Says z old new before after (λ v. born_at z by v (Side b) a f old.position) → Says z old new before after (λ v. born_at z by v p a f old.position)
    born_there asks b e h =
        let place : Side b ≡ p = ap Side (e ∙ ap address_in asks.place) ∙ sym asks.place in
        subst (λ q. Says z old new before after (λ v. born_at z by v q a f old.position)) place h

    pub phase_there : AsksPhase z by old p a f.word → (w : ℕ) → w ≡ word_stored a →
        Says z old new before after (λ v. phase_stored z by v p (Stores w) f) → Says z old new before after (λ v. phase_stored z by v p a f)
    phase_there asks w e h =
        let act : Stores w ≡ a = ap Stores (e ∙ ap word_stored asks.act) ∙ sym asks.act in
        subst (λ b. Says z old new before after (λ v. phase_stored z by v p b f)) act h
