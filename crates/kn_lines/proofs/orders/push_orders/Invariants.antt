use Rattle.std.proofs.Common.{◌≡◌, ◌++◌, filter_map, option_map, length}
use Rattle.kn_lines.specs.Orders.{order_of}
use Rattle.kn_lines.specs.Kept.{capped}
use Rattle.kn_lines.proofs.orders.push_orders.Given as goal

abbrev pub invariant-loop-word : goal.invariant-loop-word
invariant-loop-word l =
    l.order.items ++ filter_map (λ word. option_map capped (order_of l.built word)) l.words
    ≡ l.fn.order.items ++ filter_map (λ word. option_map capped (order_of l.built word)) l.fn.words

abbrev pub decreases-loop-word : goal.decreases-loop-word
decreases-loop-word l = length l.words
