use Rattle.std.proofs.Common.{true, None, slice_set, refl, sym, ◌∙◌, subst}
use Rattle.kn_base.specs.Functions.{upd}
use Rattle.kn_steps.specs.Made.{LieAs, Stand}
use Rattle.kn_alloc.specs.declared.stage.Stage.TheVariants.{PutsHome, Resting}
use Rattle.kn_alloc.specs.Keeps.{Keeps}
use Rattle.kn_alloc.specs.Agree.{Agrees}
use Rattle.kn_alloc.proofs.Returns.{may_go_back}
use Rattle.kn_alloc.proofs.Goes.{sent}
use Rattle.kn_alloc.proofs.alloc.ThreadAlloc.sends_home.Goals as goal

pub move_page-requires : goal.move_page-requires
move_page-requires g c =
    may_go_back c.args.self.now (g.T.Steps.stand c.args.steps.now) (g.T.Steps.here c.args.steps.now) c.requires.agrees Resting c.requires.stage
    (λ z class k p o. refl) (λ p h. h) c.args.class c.hand_out-hand.result c.hand_out-hand.ensures.had

pub returns-clause-agrees : goal.returns-clause-agrees
returns-clause-agrees g c =
    let m = c.args.self.now in
    let hand = c.hand_out-hand.result in
    let a = g.T.Steps.stand c.args.steps.now in
    let here = g.T.Steps.here c.args.steps.now in
    let here' = g.T.Steps.here c.move_page.new.self in
    let moved = c.move_page.ensures.moved in
    let s' = PutsHome hand.frame c.home_word-word.result in
    let kept = c.goes_to.ensures ∙ (λ t. record (c.hand_out-hand.ensures.after t) { stage = s' }) in
    subst (λ (q : Keeps). Agrees q (g.T.Steps.stand c.move_page.new.self) here') (sym kept)
    (subst (λ (b : Stand). Agrees (record m { hands = slice_set m.hands c.args.class None; stage = s' }) b here') (sym moved.view)
    (sent m a here c.requires.agrees c.requires.stage c.args.class hand c.hand_out-hand.ensures.had c.home_word-word.result
    c.home_word-word.ensures here'
    (subst (λ (b : Stand). LieAs b.view (upd here hand.frame true) here') moved.view moved.lies)))
