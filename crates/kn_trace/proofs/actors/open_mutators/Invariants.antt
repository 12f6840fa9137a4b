use Rattle.kn_trace.specs.Between.{AreNew}
use Rattle.kn_trace.proofs.actors.open_mutators.Given as goal

abbrev pub invariant-loop-thread : goal.invariant-loop-thread
invariant-loop-thread l = AreNew l.script l.thread l.mutators.items
