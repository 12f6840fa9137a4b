use Rattle.std.proofs.Common.{◌≡◌, take}
use Rattle.kn_cms_lists.proofs.lists.copy_threads.Given as goal

abbrev pub invariant-loop-calls : goal.invariant-loop-calls
invariant-loop-calls l = l.copies.items ≡ take l.calls-index l.threads
