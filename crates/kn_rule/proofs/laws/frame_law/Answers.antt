use Rattle.kn_rule.proofs.FrameSpans.{frame_at_is}
use Rattle.kn_rule.proofs.laws.frame_law.Goals as goal

pub returns : goal.returns
returns c = λ z a p good near h. frame_at_is z good a p near h
