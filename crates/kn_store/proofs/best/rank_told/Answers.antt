use Rattle.std.proofs.Common.{◌/◌, ◌^◌, ◌∙◌}
use Rattle.kn_store.proofs.Ranks.{rank_at, worst_at}
use Rattle.kn_store.proofs.best.rank_told.Goals as goal

pub returns-then-kind-eq0 : goal.returns-then-kind-eq0
returns-then-kind-eq0 c = rank_at c.args.word 0 c.if-kind-eq0.true

pub returns-then-kind-eq1 : goal.returns-then-kind-eq1
returns-then-kind-eq1 c = rank_at c.args.word 1 c.if-kind-eq1.true

pub returns-then-kind-eq4 : goal.returns-then-kind-eq4
returns-then-kind-eq4 c = rank_at c.args.word 4 c.if-kind-eq4.true

pub returns-then-kind-eq2 : goal.returns-then-kind-eq2
returns-then-kind-eq2 c = rank_at c.args.word 2 c.if-kind-eq2.true

pub returns-else-kind-eq2 : goal.returns-else-kind-eq2
returns-else-kind-eq2 c =
    let w = c.args.word in
    worst_at (w / 2 ^ 56) c.if-kind-eq0.false c.if-kind-eq1.false c.if-kind-eq2.false c.if-kind-eq4.false
    ∙ rank_at w (w / 2 ^ 56) (λ _. w / 2 ^ 56)
