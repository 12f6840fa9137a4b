use Rattle.std.proofs.Common.{◌/◌, ◌^◌, ◌∙◌, ap, nat_eq}
use Rattle.kn_rule.proofs.Tellings.{usable_kind, usable_others}
use Rattle.kn_rule.proofs.words.is_usable.Goals as goal

pub returns-then-kind-eq0 : goal.returns-then-kind-eq0
returns-then-kind-eq0 c = usable_kind c.args.class c.args.word 0 c.if-kind-eq0.true

pub returns-then-kind-eq1 : goal.returns-then-kind-eq1
returns-then-kind-eq1 c = usable_kind c.args.class c.args.word 1 c.if-kind-eq1.true

pub returns-then-kind-eq4 : goal.returns-then-kind-eq4
returns-then-kind-eq4 c = usable_kind c.args.class c.args.word 4 c.if-kind-eq4.true

pub returns-then-kind-eq2 : goal.returns-then-kind-eq2
returns-then-kind-eq2 c =
    ap (λ k. nat_eq k c.args.class) c.class_of.ensures ∙ usable_kind c.args.class c.args.word 2 c.if-kind-eq2.true

pub returns-else-kind-eq2 : goal.returns-else-kind-eq2
returns-else-kind-eq2 c =
    let w = c.args.word in
    usable_others c.args.class w (w / 2 ^ 56) c.if-kind-eq0.false c.if-kind-eq1.false c.if-kind-eq2.false c.if-kind-eq4.false
    ∙ usable_kind c.args.class w (w / 2 ^ 56) (λ _. w / 2 ^ 56)
