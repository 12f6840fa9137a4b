use Rattle.kn_rule.specs.declared.steps.Kind.TheVariants.{K7}
use Rattle.kn_keep_heap.proofs.Keeps.{kept_as, global_kept}
use Rattle.kn_keep_heap.proofs.laws.keeps_k7.Goals as goal

pub returns : goal.returns
returns c = kept_as K7 global_kept
