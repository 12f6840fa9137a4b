use Rattle.kn_ranges.proofs.Taking.{spans_from-zero}
use Rattle.kn_ranges.proofs.ranges.Ranges.take_first.Goals as goal

pub returns-clause-none : goal.returns-clause-none
returns-clause-none c = rw spans_from-zero at c.take_first_from.ensures.none

pub returns-clause-taken : goal.returns-clause-taken
returns-clause-taken c = rw spans_from-zero at c.take_first_from.ensures.taken
