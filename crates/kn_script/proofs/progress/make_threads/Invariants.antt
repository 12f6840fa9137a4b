use Rattle.std.proofs.Common.{◌≡◌, [], replicate}
use Rattle.kn_script.proofs.progress.make_threads.Given as goal

abbrev pub invariant-loop : goal.invariant-loop
invariant-loop l = l.threads.items ≡ replicate l.counter []
