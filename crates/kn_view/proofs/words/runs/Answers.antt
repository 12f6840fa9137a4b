use Rattle.std.proofs.Common.{◌<◌, ◌%◌, ◌∙◌, arith}
use Rattle.kn_view.proofs.Tellings.{run_code, run_others}
use Rattle.kn_view.proofs.words.runs.Goals as goal

pub returns-then-code-eq0 : goal.returns-then-code-eq0
returns-then-code-eq0 c = run_code c.args.word 0 c.if-code-eq0.true

pub returns-then-code-eq3 : goal.returns-then-code-eq3
returns-then-code-eq3 c = run_code c.args.word 3 c.if-code-eq3.true

pub returns-else-code-eq3 : goal.returns-else-code-eq3
returns-else-code-eq3 c =
    let w = c.args.word in
    let below : w % 8 < 8 = omega arith in
    run_others (w % 8) below c.if-code-eq0.false c.if-code-eq3.false ∙ run_code w (w % 8) (λ _. w % 8)
