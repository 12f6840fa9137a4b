use Rattle.kn_rule.specs.declared.steps.Kind.TheVariants.{K4}
use Rattle.kn_keep_heap.proofs.Keeps.{kept_as, body_kept}
use Rattle.kn_keep_heap.proofs.laws.keeps_k4.Goals as goal

pub returns : goal.returns
returns c = kept_as K4 body_kept
