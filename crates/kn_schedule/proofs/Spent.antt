-- Rounds come behind the words.
use Rattle.std.proofs.Common.{◌≡◌, ℕ, ◌+◌, ◌<◌, false, [], inr, sym, ap, ◌∙◌, subst, arith}
use Rattle.kn_schedule.specs.declared.asking.Asking.{Asking}
use Rattle.kn_schedule.specs.Asks.{Standing, no_asks}
use Rattle.kn_schedule.specs.Schedules.{AllPassed, AreSpent, ComesTo, IsNext, Left, Order}

-- where no ask and no word is left, none asks for a turn
pub none_left : (threads : ℕ) (standing : Standing) (left : Left) → left.asking ≡ no_asks → left.words ≡ [] →
    AreSpent threads standing left left
none_left threads standing left asks words = record {
  begun = λ ask behind within turn. absurd (let none = ap (λ (a : Asking). a.times) asks in omega (arith, none, within));
  words = subst (AllPassed threads standing) (sym words) tt;
  none_begun = asks;
  no_words = words;
}

-- then the next turn is that of the round
pub of_round : (order between : Order) (standing : Standing) (left' : Left) (actor place count : ℕ) →
    AreSpent order.threads standing order.left between.left → between.left.next ≡ order.left.next → left'.asking ≡ between.left.asking →
    left'.words ≡ between.left.words → left'.next ≡ actor + 1 → place ≡ between.left.next → count ≡ order.threads + 1 → actor < count →
    standing.ended actor ≡ false → ComesTo count standing.ended place actor → IsNext order.threads standing order.left actor left'
of_round order between standing left' actor place count spent same asking words next at long below runs comes = inr (record {
  spent = record {
    begun = spent.begun;
    words = spent.words;
    none_begun = asking ∙ spent.none_begun;
    no_words = words ∙ spent.no_words;
  };
  is_actor = subst (λ n. actor < n) long below;
  runs = runs;
  comes = subst (λ n. ComesTo n standing.ended order.left.next actor) long
      (subst (λ p. ComesTo count standing.ended p actor) (at ∙ same) comes);
  next = next;
})
