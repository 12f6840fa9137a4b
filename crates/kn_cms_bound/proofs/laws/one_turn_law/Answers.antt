use Rattle.kn_cms_bound.proofs.OneTurn.{one_turn}
use Rattle.kn_cms_bound.proofs.laws.one_turn_law.Goals as goal

pub returns : goal.returns
returns c = λ z calls s a b who t u may rule k l. one_turn z calls s rule a b who t u may k l
