use Rattle.kn_cms_rule.specs.Words.{one_framed}
use Rattle.kn_cms_rule.proofs.SetLaws.{load_keeps}
use Rattle.kn_cms_rule.proofs.laws.load_law.Goals as goal

pub returns : goal.returns
returns c = λ base calls s s' i near rule k. load_keeps (one_framed base) calls s s' i near rule k
