use Rattle.std.proofs.Common.{◌≡◌, length, take}
use Rattle.kn_script.specs.Scripts.{counts_of}
use Rattle.kn_script.proofs.size_counts.count_calls.Given as goal

abbrev pub invariant-loop-i : goal.invariant-loop-i
invariant-loop-i l = l.counts ≡ counts_of length 16 (take l.i l.threads)
