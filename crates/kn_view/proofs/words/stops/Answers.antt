use Rattle.std.proofs.Common.{◌<◌, ◌%◌, ◌∙◌, arith}
use Rattle.kn_view.proofs.Tellings.{stop_code, stop_others}
use Rattle.kn_view.proofs.words.stops.Goals as goal

pub returns-then-code-eq1 : goal.returns-then-code-eq1
returns-then-code-eq1 c = stop_code c.args.word 1 c.if-code-eq1.true

pub returns-else-code-eq1 : goal.returns-else-code-eq1
returns-else-code-eq1 c =
    let w = c.args.word in
    let below : w % 8 < 8 = omega arith in
    stop_others (w % 8) below c.if-code-eq1.false ∙ stop_code w (w % 8) (λ _. w % 8)
