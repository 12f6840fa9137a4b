use Rattle.std.proofs.Common.{◌≡◌}
use Rattle.kn_schedule.proofs.tests.turns_of.Given as goal

abbrev pub invariant-loop : goal.invariant-loop
invariant-loop l = l.schedule.threads ≡ 2
