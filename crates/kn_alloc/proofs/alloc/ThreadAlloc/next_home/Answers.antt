use Rattle.std.proofs.Common.{◌<◌, ◌+◌, length, Some, sym, ap, ◌∙◌, arith}
use Rattle.std.proofs.lemmas.Bool.{true≢false}
use Rattle.std.proofs.lemmas.Option.{slice_get_within}
use Rattle.kn_base.proofs.Updates.{split_at}
use Rattle.kn_alloc.specs.Keeps.{HasHand, Keeps}
use Rattle.kn_alloc.proofs.Goes.{first_home}
use Rattle.kn_alloc.proofs.alloc.ThreadAlloc.next_home.Goals as goal

pub returns-then-has_hand-2 : goal.returns-then-has_hand-2
returns-then-has_hand-2 c =
    let h = c.has_hand-in-loop-class.ensures.0 c.if-has_hand-2.true in (
      h.0,
      first_home c.args.self.now.hands c.loop-class.class h.0 (λ s. true≢false (sym (c.has_hand.ensures.1 s) ∙ c.if-has_hand.false))
          c.loop-class.invariant h.1,
    )

pub loop-class-preserved : goal.loop-class-preserved
loop-class-preserved c = λ k hand l h.
    split_at (λ k. k < c.loop-class.class + 1 → HasHand c.args.self.now.hands k hand → ⊥) c.loop-class.class
    (λ l h. true≢false (sym (c.has_hand-in-loop-class.ensures.1 (hand, h)) ∙ c.if-has_hand-2.false)) k
    (λ ne l h. c.loop-class.invariant k hand (omega arith) h) l h

pub returns : goal.returns
returns c = λ k hand h.
    let l = slice_get_within c.args.self.now.hands k (Some hand) h in
    let e = ap (λ (m : Keeps). length m.hands) c.self.view_is in
    c.loop-class.invariant k hand (omega arith) h
