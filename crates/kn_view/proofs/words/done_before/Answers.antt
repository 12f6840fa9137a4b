use Rattle.std.proofs.Common.{◌<◌, ◌%◌, ◌/◌, ◌∙◌, arith}
use Rattle.kn_view.proofs.Tellings.{done_code, done_others}
use Rattle.kn_view.proofs.words.done_before.Goals as goal

pub returns-then-word-eq0 : goal.returns-then-word-eq0
returns-then-word-eq0 c = done_code c.args.word 0 c.if-word-eq0.true

pub returns-else-word-eq0 : goal.returns-else-word-eq0
returns-else-word-eq0 c =
    let w = c.args.word in
    let below : w % 8 < 8 = omega arith in
    c.saturating_sub.ensures ∙ (done_others (w / 8) (w % 8) below c.if-word-eq0.false ∙ done_code w (w % 8) (λ _. w % 8))
