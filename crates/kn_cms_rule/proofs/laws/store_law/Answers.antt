use Rattle.kn_cms_rule.proofs.CallLaws.{store_keeps}
use Rattle.kn_cms_rule.proofs.laws.store_law.Goals as goal

pub returns : goal.returns
returns c = λ base calls s s' i near rule k. store_keeps base calls s s' i near rule k
