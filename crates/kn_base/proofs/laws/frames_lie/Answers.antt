use Rattle.kn_base.proofs.Frames.{frames_lie_so}
use Rattle.kn_base.proofs.laws.frames_lie.Goals as goal

pub returns : goal.returns
returns c = λ z good. frames_lie_so z good
