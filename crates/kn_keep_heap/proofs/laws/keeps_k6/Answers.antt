use Rattle.kn_rule.specs.declared.steps.Kind.TheVariants.{K6}
use Rattle.kn_keep_heap.proofs.Keeps.{kept_as, global_read_kept}
use Rattle.kn_keep_heap.proofs.laws.keeps_k6.Goals as goal

pub returns : goal.returns
returns c = kept_as K6 global_read_kept
