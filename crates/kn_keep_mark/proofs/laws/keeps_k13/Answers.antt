use Rattle.kn_rule.specs.declared.steps.Kind.TheVariants.{K13}
use Rattle.kn_keep_heap.proofs.Keeps.{kept_as}
use Rattle.kn_keep_mark.proofs.Keeps.{want_kept}
use Rattle.kn_keep_mark.proofs.laws.keeps_k13.Goals as goal

pub returns : goal.returns
returns c = kept_as K13 want_kept
