use Rattle.std.proofs.Common.{◌<◌, ◌↔◌, IsTrue, length, subst, arith}
use Rattle.kn_alloc.specs.declared.stage.Hand.{Hand}
use Rattle.kn_alloc.specs.Keeps.{HasHand, Keeps}
use Rattle.kn_alloc.proofs.Goes.{hand_told, index_told}
use Rattle.kn_alloc.proofs.alloc.ThreadAlloc.has_hand.Goals as goal

pub returns : goal.returns
returns c =
    let hands = c.self.inside.hands.items in
    let x = c.index.result.now in
    let k = c.from.result in
    let l : k < length hands = omega arith in
    subst (λ (m : Keeps). IsTrue c.is_some.result ↔ ((hand : Hand) × HasHand m.hands c.args.class hand)) c.self.view_is
    (subst (λ k. IsTrue c.is_some.result ↔ ((hand : Hand) × HasHand hands k hand)) c.from.ensures
    (hand_told hands k x c.is_some.result (index_told hands k x l c.index.ensures) c.is_some.ensures))
