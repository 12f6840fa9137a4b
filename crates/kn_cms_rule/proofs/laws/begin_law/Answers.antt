use Rattle.kn_cms_rule.specs.Words.{one_framed}
use Rattle.kn_cms_rule.proofs.CollectorLaws.{begin_keeps}
use Rattle.kn_cms_rule.proofs.laws.begin_law.Goals as goal

pub returns : goal.returns
returns c = λ base calls s s' rule k. begin_keeps (one_framed base) calls s s' rule k
