use Rattle.kn_cms_rule.specs.Words.{one_framed}
use Rattle.kn_cms_rule.proofs.CollectorLaws.{blacken_keeps}
use Rattle.kn_cms_rule.proofs.laws.blacken_law.Goals as goal

pub returns : goal.returns
returns c = λ base calls s s' rule k. blacken_keeps (one_framed base) calls s s' rule k
