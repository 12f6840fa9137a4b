use Rattle.kn_ranges.proofs.Taking.{without_front}
use Rattle.kn_ranges.proofs.laws.fronts_leave_rests.Goals as goal

pub returns : goal.returns
returns c = without_front
