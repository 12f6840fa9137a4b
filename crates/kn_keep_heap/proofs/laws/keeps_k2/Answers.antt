use Rattle.kn_rule.specs.declared.steps.Kind.TheVariants.{K2}
use Rattle.kn_keep_heap.proofs.Keeps.{kept_as, store_kept}
use Rattle.kn_keep_heap.proofs.laws.keeps_k2.Goals as goal

pub returns : goal.returns
returns c = kept_as K2 store_kept
