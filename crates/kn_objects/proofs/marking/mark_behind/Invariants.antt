use Rattle.std.proofs.Common.{ℕ, ◌≤◌, length}
use Rattle.kn_objects.specs.Marking.{IsBehind, IsMarked, IsWorkList, objects_left}
use Rattle.kn_objects.proofs.marking.mark_behind.Given as goal

abbrev pub invariant-loop-height : goal.invariant-loop-height
invariant-loop-height l = record {
  waits : IsWorkList l.objects l.points l.marks l.work l.height;
  room : objects_left l.marks l.height ≤ length l.marks;
  kept : (n : ℕ) → IsMarked l.initial.marks n → IsMarked l.marks n;
  behind : (n : ℕ) → IsMarked l.marks n → IsBehind (IsMarked l.initial.marks) l.objects l.points n;
}

abbrev pub decreases-loop-height : goal.decreases-loop-height
decreases-loop-height l = objects_left l.marks l.height
