use Rattle.kn_cms_rule.proofs.BirthLaw.{birth_keeps}
use Rattle.kn_cms_rule.proofs.laws.birth_law.Goals as goal

pub returns : goal.returns
returns c = λ base calls s s' i near rule k. birth_keeps base calls s s' i near rule k
