use Rattle.std.proofs.Common.{◌<◌, ◌%◌, ◌/◌, ◌∙◌, ap, arith}
use Rattle.kn_rule.specs.Steps.{more}
use Rattle.kn_view.proofs.Tellings.{pause_code, pause_others}
use Rattle.kn_view.proofs.collecting.tells_pause.Goals as goal

pub returns-then-code-eq3 : goal.returns-then-code-eq3
returns-then-code-eq3 c = λ z v p a f.
    c.push.ensures ∙ ap (more c.args.history.now) (pause_code z c.args.by v p a f c.args.word 3 c.if-code-eq3.true)

pub returns-else-code-eq3 : goal.returns-else-code-eq3
returns-else-code-eq3 c = λ z v p a f.
    let w = c.args.word in
    let below : w % 8 < 8 = omega arith in
    ap (more c.args.history.now)
    (pause_others z c.args.by v p a f (w / 8) (w % 8) below c.if-code-eq3.false ∙ pause_code z c.args.by v p a f w (w % 8) (λ _. w % 8))
