use Rattle.kn_keep_marking.proofs.Keeps.{keeps_rule}
use Rattle.kn_keep_marking.proofs.laws.steps_keep.Goals as goal

pub returns : goal.returns
returns c = keeps_rule
