use Rattle.kn_rule.specs.declared.steps.Kind.TheVariants.{K9}
use Rattle.kn_keep_heap.proofs.Keeps.{kept_as, look_kept}
use Rattle.kn_keep_heap.proofs.laws.keeps_k9.Goals as goal

pub returns : goal.returns
returns c = kept_as K9 look_kept
