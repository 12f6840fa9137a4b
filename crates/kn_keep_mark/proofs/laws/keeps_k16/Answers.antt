use Rattle.kn_rule.specs.declared.steps.Kind.TheVariants.{K16}
use Rattle.kn_keep_heap.proofs.Keeps.{kept_as}
use Rattle.kn_keep_mark.proofs.Keeps.{count_kept}
use Rattle.kn_keep_mark.proofs.laws.keeps_k16.Goals as goal

pub returns : goal.returns
returns c = kept_as K16 count_kept
