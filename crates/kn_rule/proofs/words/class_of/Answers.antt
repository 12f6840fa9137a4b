use Rattle.kn_rule.proofs.Tellings.{class_told}
use Rattle.kn_rule.proofs.words.class_of.Goals as goal

pub returns : goal.returns
returns c = class_told c.args.word
