use Rattle.kn_view.proofs.Placed.{stable_named, blank_named, back_named, none_named}
use Rattle.kn_view.proofs.shares.named_in.Goals as goal

pub returns-then-kind-eq1 : goal.returns-then-kind-eq1
returns-then-kind-eq1 c = stable_named c.args.word c.if-kind-eq1.true

pub returns-then-word-eq0 : goal.returns-then-word-eq0
returns-then-word-eq0 c = blank_named c.args.word c.if-kind-eq3.true c.if-word-eq0.true

pub returns-else-word-eq0 : goal.returns-else-word-eq0
returns-else-word-eq0 c = back_named c.args.word c.if-kind-eq3.true c.if-word-eq0.false

pub returns-else-kind-eq3 : goal.returns-else-kind-eq3
returns-else-kind-eq3 c = none_named c.args.word c.if-kind-eq1.false c.if-kind-eq3.false
