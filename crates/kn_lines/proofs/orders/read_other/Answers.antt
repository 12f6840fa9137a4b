use Rattle.std.proofs.Common.{suc, take, drop, get_or, arith, add-one}
use Rattle.std.proofs.lemmas.List.{take_rest}
use Rattle.kn_lines.specs.Orders.{order_of, actor_of, until_of}
use Rattle.kn_lines.proofs.OrderLemmas.{cut_of-split, cut_of-whole, joined-capped}
use Rattle.kn_lines.proofs.orders.read_other.Goals as goal

pub returns-then-end-word : goal.returns-then-end-word
unfolding order_of
returns-then-end-word c =
    let word = c.args.word.now in
    let i = c.find_sign-end.result in
    let found = c.find_sign-end.ensures.found (omega arith) in
    let split = cut_of-split word i (omega arith) c.find_sign-end.ensures.before found in
    let actor = actor_of c.args.built.now (take i word) in
    rw (split, c.read_joined.ensures, take_rest, add-one)
    (joined-capped actor (until_of c.args.built.now (get_or word i 0) (drop (suc i) word)))

pub returns-else-end-word : goal.returns-else-end-word
unfolding order_of
returns-else-end-word c =
    let whole = cut_of-whole c.args.word.now (λ k below. c.find_sign-end.ensures.before k (omega arith)) in
    rw whole c.read_alone.ensures
