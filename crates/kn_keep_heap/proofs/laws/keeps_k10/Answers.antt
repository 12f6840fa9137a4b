use Rattle.kn_rule.specs.declared.steps.Kind.TheVariants.{K10}
use Rattle.kn_keep_heap.proofs.Keeps.{kept_as, claim_kept}
use Rattle.kn_keep_heap.proofs.laws.keeps_k10.Goals as goal

pub returns : goal.returns
returns c = kept_as K10 claim_kept
