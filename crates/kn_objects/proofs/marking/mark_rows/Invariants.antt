use Rattle.std.proofs.Common.{take}
use Rattle.kn_objects.specs.Marking.{Adds, IsHeldInRows}
use Rattle.kn_objects.proofs.marking.mark_rows.Given as goal

abbrev pub invariant-loop-row : goal.invariant-loop-row
invariant-loop-row l = Adds (IsHeldInRows (take l.row-index l.rows)) l.initial.marks l.initial.work l.initial.height l.marks l.work l.height
