use Rattle.std.proofs.Common.{take}
use Rattle.kn_objects.specs.Marking.{Adds, IsHeldIn}
use Rattle.kn_objects.proofs.marking.mark_values.Given as goal

abbrev pub invariant-loop-value : goal.invariant-loop-value
invariant-loop-value l = Adds (IsHeldIn (take l.value-index l.values)) l.initial.marks l.initial.work l.initial.height l.marks l.work l.height
