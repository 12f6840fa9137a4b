use Rattle.kn_keep_marking.proofs.Tells.{marks_tell_so}
use Rattle.kn_keep_marking.proofs.laws.marks_tell.Goals as goal

pub returns : goal.returns
returns c = marks_tell_so
