use Rattle.std.proofs.Common.{sym}
use Rattle.kn_lines.proofs.OrderLemmas.{order_of-number}
use Rattle.kn_lines.proofs.orders.read_order.Goals as goal

pub returns-in-Some : goal.returns-in-Some
returns-in-Some c =
    rw (order_of-number c.args.built.now c.args.word.now c.in-Some.number (sym c.in-Some.ensures)) c.turn_of_thread.ensures
