use Rattle.std.proofs.Common.{◌≢◌, ◌∙◌, get_or, arith}
use Rattle.kn_lines.proofs.OrderLemmas.{alone-turn, first-none}
use Rattle.kn_lines.proofs.orders.read_alone.Goals as goal
use Rattle.kn_lines.proofs.orders.read_alone.Goals.{else-end-gt0-via-then-end-gt0+else-word-eq117, else-end-gt0-via-else-end-gt0}

pub returns-else-end-gt0 : goal.returns-else-end-gt0
returns-else-end-gt0 c =
    let word = c.args.word.now in
    let other : get_or word 0 0 ≢ 117 = elim c.else-end-gt0.branch [
      | else-end-gt0-via-then-end-gt0+else-word-eq117 w ↦ w.if-word-eq117.false
      | else-end-gt0-via-else-end-gt0 w ↦ first-none word (omega arith)
    ] in
    c.read_turn.ensures ∙ alone-turn c.args.built.now word other
