use Rattle.std.proofs.Common.{◌≡◌, take}
use Rattle.kn_graph.specs.Logs.{log_of}
use Rattle.kn_cms_report.proofs.facts.log_of.Given as goal

abbrev pub invariant-loop-entry : goal.invariant-loop-entry
invariant-loop-entry l = l.log ≡ log_of l.by (take l.entry-index l.history)
