use Rattle.kn_cms_rule.specs.Words.{one_framed}
use Rattle.kn_cms_rule.proofs.CollectorLaws.{end_keeps, condemns_exactly}
use Rattle.kn_cms_rule.proofs.laws.end_law.Goals as goal

pub returns : goal.returns
returns c = record {
  keeps = λ base calls s s' rule k. end_keeps (one_framed base) calls s s' rule k;
  exactly = λ z calls s n rule e near. condemns_exactly z calls s s rule n e near;
}
