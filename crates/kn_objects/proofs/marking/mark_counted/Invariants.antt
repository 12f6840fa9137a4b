use Rattle.std.proofs.Common.{take}
use Rattle.kn_objects.specs.Marking.{Adds, IsCounted}
use Rattle.kn_objects.proofs.marking.mark_counted.Given as goal

abbrev pub invariant-loop-b : goal.invariant-loop-b
invariant-loop-b l = Adds (IsCounted (take l.b l.back) l.counts) l.initial.marks l.initial.work l.initial.height l.marks l.work l.height
