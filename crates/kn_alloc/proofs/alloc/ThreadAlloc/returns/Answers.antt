use Rattle.std.proofs.Common.{None, slice_set, refl, sym, ◌∙◌, subst}
use Rattle.kn_steps.specs.Made.{LieAs, Stand}
use Rattle.kn_alloc.specs.declared.stage.Stage.TheVariants.{Refuses, Returns}
use Rattle.kn_alloc.specs.Keeps.{HasHand, Keeps}
use Rattle.kn_alloc.specs.Agree.{Agrees}
use Rattle.kn_base.specs.Functions.{upd}
use Rattle.std.proofs.Common.{true}
use Rattle.kn_alloc.proofs.Returns.{may_go_back, returned}
use Rattle.kn_alloc.proofs.Told.{tells_still}
use Rattle.kn_alloc.proofs.alloc.ThreadAlloc.returns.Goals as goal

pub move_page-requires : goal.move_page-requires
move_page-requires g c =
    let m = c.args.self.now in
    let hand = c.hand_out-hand.result in
    may_go_back m (g.T.Steps.stand c.args.steps.now) (g.T.Steps.here c.args.steps.now) c.requires.agrees Returns c.requires.stage
    (λ z class k p o. refl) (λ p h. h) m.class hand (subst (λ k. HasHand m.hands k hand) c.class_asked.ensures c.hand_out-hand.ensures.had)

pub returns-clause-agrees : goal.returns-clause-agrees
returns-clause-agrees g c =
    let m = c.args.self.now in
    let hand = c.hand_out-hand.result in
    let a = g.T.Steps.stand c.args.steps.now in
    let here = g.T.Steps.here c.args.steps.now in
    let here' = g.T.Steps.here c.move_page.new.self in
    let moved = c.move_page.ensures.moved in
    let s' = Refuses hand.frame c.home_word-word.result in
    let out = c.hand_out-hand.ensures.after ∙ (λ t. record m { hands = slice_set m.hands (c.class_asked.ensures t) None }) in
    let kept = c.goes_to.ensures ∙ (λ t. record (out t) { stage = s' }) in
    subst (λ (q : Keeps). Agrees q (g.T.Steps.stand c.move_page.new.self) here') (sym kept)
    (subst (λ (b : Stand). Agrees (record m { hands = slice_set m.hands m.class None; stage = s' }) b here') (sym moved.view)
    (returned m a here c.requires.agrees c.requires.stage hand (subst (λ k. HasHand m.hands k hand) c.class_asked.ensures c.hand_out-hand.ensures.had)
    c.home_word-word.result c.home_word-word.ensures here'
    (subst (λ (b : Stand). LieAs b.view (upd here hand.frame true) here') moved.view moved.lies)))

pub returns-clause-tells : goal.returns-clause-tells
returns-clause-tells g c =
    tells_still c.args.self.now.stage (g.T.Steps.stand c.args.steps.now) (g.T.Steps.stand c.move_page.new.self) c.move_page.ensures.moved.view
