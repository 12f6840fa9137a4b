use Rattle.kn_cms_rule.proofs.CallLaws.{fill_keeps}
use Rattle.kn_cms_rule.proofs.laws.full_birth_law.Goals as goal

pub returns : goal.returns
returns c = λ base calls s s' i near rule k. fill_keeps base calls s s' i near rule k
