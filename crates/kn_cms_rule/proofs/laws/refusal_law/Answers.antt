use Rattle.kn_cms_rule.proofs.CallLaws.{refusal_keeps}
use Rattle.kn_cms_rule.proofs.laws.refusal_law.Goals as goal

pub returns : goal.returns
returns c = λ base calls s s' i near rule k. refusal_keeps base calls s s' i near rule k
