use Rattle.kn_rule.specs.declared.steps.Kind.TheVariants.{K23}
use Rattle.kn_keep_marking.proofs.Keeps.{keeps_rule}
use Rattle.kn_keep_marking.proofs.laws.keeps_k23.Goals as goal

pub returns : goal.returns
returns c = keeps_rule K23
