use Rattle.std.proofs.Common.{◌≤◌}
use Rattle.kn_cms.proofs.tests.condemned.Given as goal

abbrev pub invariant-loop-k : goal.invariant-loop-k
invariant-loop-k l = l.count ≤ l.k
