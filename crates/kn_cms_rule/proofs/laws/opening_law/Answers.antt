use Rattle.kn_cms_rule.proofs.Opening.{opening_ruled}
use Rattle.kn_cms_rule.proofs.laws.opening_law.Goals as goal

pub returns : goal.returns
returns c = λ z calls may. opening_ruled z calls may
