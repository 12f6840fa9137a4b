use Rattle.kn_rule.specs.declared.steps.Kind.TheVariants.{K1}
use Rattle.kn_keep_heap.proofs.Keeps.{kept_as, poll_kept}
use Rattle.kn_keep_heap.proofs.laws.keeps_k1.Goals as goal

pub returns : goal.returns
returns c = kept_as K1 poll_kept
