use Rattle.kn_rule.specs.declared.steps.Kind.TheVariants.{K15}
use Rattle.kn_keep_heap.proofs.Keeps.{kept_as}
use Rattle.kn_keep_mark.proofs.Keeps.{state_load_kept}
use Rattle.kn_keep_mark.proofs.laws.keeps_k15.Goals as goal

pub returns : goal.returns
returns c = kept_as K15 state_load_kept
