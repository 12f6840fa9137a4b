use Rattle.std.proofs.Common.{◌≡◌, ◌++◌, string_bytes}
use Rattle.kn_cms_report.specs.CoreReports.{objects_text}
use Rattle.kn_cms_report.proofs.texts.push_objects.Given as goal

abbrev pub invariant-loop-k : goal.invariant-loop-k
invariant-loop-k l = string_bytes l.text ≡ string_bytes l.fn.text ++ objects_text l.k l.flags
