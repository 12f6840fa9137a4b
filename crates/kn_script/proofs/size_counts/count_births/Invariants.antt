use Rattle.std.proofs.Common.{◌≡◌, take}
use Rattle.kn_graph.specs.Counts.{births_among}
use Rattle.kn_script.specs.Scripts.{counts_of}
use Rattle.kn_script.proofs.size_counts.count_births.Given as goal

abbrev pub invariant-loop-i : goal.invariant-loop-i
invariant-loop-i l = l.counts ≡ counts_of births_among 16 (take l.i l.threads)
