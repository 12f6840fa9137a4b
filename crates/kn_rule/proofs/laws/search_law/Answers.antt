use Rattle.kn_rule.proofs.Searched.{searches_end}
use Rattle.kn_rule.proofs.laws.search_law.Goals as goal

pub returns : goal.returns
returns c = searches_end
