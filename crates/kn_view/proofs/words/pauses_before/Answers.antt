use Rattle.std.proofs.Common.{◌<◌, ◌%◌, ◌/◌, ◌∙◌, arith}
use Rattle.kn_view.proofs.Tellings.{pauses_code, pauses_others}
use Rattle.kn_view.proofs.words.pauses_before.Goals as goal

pub returns-then-code-eq1 : goal.returns-then-code-eq1
returns-then-code-eq1 c = c.saturating_sub.ensures ∙ pauses_code c.args.word 1 c.if-code-eq1.true

pub returns-then-code-eq2 : goal.returns-then-code-eq2
returns-then-code-eq2 c = c.saturating_sub-then-code-eq2.ensures ∙ pauses_code c.args.word 2 c.if-code-eq2.true

pub returns-else-code-eq2 : goal.returns-else-code-eq2
returns-else-code-eq2 c =
    let w = c.args.word in
    let below : w % 8 < 8 = omega arith in
    pauses_others (w / 8) (w % 8) below c.if-code-eq1.false c.if-code-eq2.false ∙ pauses_code w (w % 8) (λ _. w % 8)
