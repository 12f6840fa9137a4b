use Rattle.kn_rule.specs.declared.steps.Kind.TheVariants.{K8}
use Rattle.kn_keep_heap.proofs.Keeps.{kept_as, birth_kept}
use Rattle.kn_keep_heap.proofs.laws.keeps_k8.Goals as goal

pub returns : goal.returns
returns c = kept_as K8 birth_kept
