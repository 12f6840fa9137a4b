use Rattle.kn_rule.specs.declared.steps.Kind.TheVariants.{K3}
use Rattle.kn_keep_heap.proofs.Keeps.{kept_as, local_kept}
use Rattle.kn_keep_heap.proofs.laws.keeps_k3.Goals as goal

pub returns : goal.returns
returns c = kept_as K3 local_kept
