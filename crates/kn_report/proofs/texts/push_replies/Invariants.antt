use Rattle.std.proofs.Common.{◌≡◌, ◌++◌, take}
use Rattle.std.specs.Prelude.{string_bytes}
use Rattle.kn_graph.specs.Logs.{replies_of}
use Rattle.kn_report.specs.Reports.{reply_lines}
use Rattle.kn_report.proofs.texts.push_replies.Given as goal

abbrev pub invariant-loop-entry : goal.invariant-loop-entry
invariant-loop-entry l = string_bytes l.text ≡ string_bytes l.fn.text ++ reply_lines (replies_of (take l.entry-index l.log))
