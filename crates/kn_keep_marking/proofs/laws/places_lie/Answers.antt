use Rattle.kn_keep_marking.proofs.Withins.{steps_lie_within}
use Rattle.kn_keep_marking.proofs.laws.places_lie.Goals as goal

pub returns : goal.returns
returns c = steps_lie_within
