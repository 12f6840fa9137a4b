use Rattle.kn_rule.specs.declared.steps.Kind.TheVariants.{K12}
use Rattle.kn_keep_heap.proofs.Keeps.{kept_as, clear_kept}
use Rattle.kn_keep_heap.proofs.laws.keeps_k12.Goals as goal

pub returns : goal.returns
returns c = kept_as K12 clear_kept
