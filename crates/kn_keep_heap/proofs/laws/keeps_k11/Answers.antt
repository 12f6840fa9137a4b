use Rattle.kn_rule.specs.declared.steps.Kind.TheVariants.{K11}
use Rattle.kn_keep_heap.proofs.Keeps.{kept_as, give_back_kept}
use Rattle.kn_keep_heap.proofs.laws.keeps_k11.Goals as goal

pub returns : goal.returns
returns c = kept_as K11 give_back_kept
