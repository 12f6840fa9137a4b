use Rattle.kn_cms_rule.proofs.CallLaws.{answer_keeps}
use Rattle.kn_cms_rule.proofs.laws.whole_call_law.Goals as goal

pub returns : goal.returns
returns c = λ base calls s s' i near rule k. answer_keeps base calls s s' i near rule k
