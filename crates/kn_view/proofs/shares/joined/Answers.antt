use Rattle.std.proofs.Common.{◌<◌, ◌%◌, ◌/◌, ◌∙◌, arith}
use Rattle.kn_view.proofs.Tellings.{join_code, join_others}
use Rattle.kn_view.proofs.shares.joined.Goals as goal

pub returns-then-code-eq2 : goal.returns-then-code-eq2
returns-then-code-eq2 c = join_code c.args.word 2 c.args.work c.if-code-eq2.true

pub returns-else-code-eq2 : goal.returns-else-code-eq2
returns-else-code-eq2 c =
    let w = c.args.word in
    let below : w % 8 < 8 = omega arith in
    join_others (w / 8) (w % 8) c.args.work below c.if-code-eq2.false ∙ join_code w (w % 8) c.args.work (λ _. w % 8)
