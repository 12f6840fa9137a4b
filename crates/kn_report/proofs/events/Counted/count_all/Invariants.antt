use Rattle.std.proofs.Common.{◌≡◌, take}
use Rattle.kn_report.specs.Reports.{count_of}
use Rattle.kn_report.proofs.events.Counted.count_all.Given as goal

abbrev pub invariant-loop-log : goal.invariant-loop-log
invariant-loop-log l = l.count ≡ count_of l.self (take l.log-index l.logs)
