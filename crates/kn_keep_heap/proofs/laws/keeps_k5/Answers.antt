use Rattle.kn_rule.specs.declared.steps.Kind.TheVariants.{K5}
use Rattle.kn_keep_heap.proofs.Keeps.{kept_as, field_kept}
use Rattle.kn_keep_heap.proofs.laws.keeps_k5.Goals as goal

pub returns : goal.returns
returns c = kept_as K5 field_kept
