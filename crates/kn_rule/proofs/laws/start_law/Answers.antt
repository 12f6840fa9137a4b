use Rattle.kn_rule.proofs.Start.{start_meets_rule}
use Rattle.kn_rule.proofs.laws.start_law.Goals as goal

pub returns : goal.returns
returns c = start_meets_rule
