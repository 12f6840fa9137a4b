use Rattle.kn_cms_rule.proofs.CollectorLaws.{snapshot_keeps}
use Rattle.kn_cms_rule.proofs.Decided.{pauses_there}
use Rattle.kn_cms_rule.proofs.laws.snapshot_law.Goals as goal

pub returns : goal.returns
returns c = record {
  keeps = λ base calls s s' rule k. snapshot_keeps base calls s s' rule k;
  there = λ z g s nameless. pauses_there z g s nameless;
}
