use Rattle.std.proofs.Common.{ap, sym, subst, arith}
use Rattle.kn_ranges.specs.Cells.{AreOnCells, IsTakenCell}
use Rattle.kn_ranges.specs.FreeSpans.{FreeSpans}
use Rattle.kn_bench.proofs.Holding.{held_after_take}
use Rattle.kn_bench.proofs.cells.Cells.take.Goals as goal

pub invariant_of-self-then-slot-len : goal.invariant_of-self-then-slot-len
invariant_of-self-then-slot-len c =
    let frame = c.self.inside.frame in
    let old : FreeSpans = c.self.inside.free in
    let new : FreeSpans = c.take_first.new.self in
    let cell = c.in-Some.cell in
    let after = c.in-Some.ensures.after in
    let left = ap (λ (free : FreeSpans). free.spans) after in
    let taken = c.cells_are_taken.ensures frame 2 old.spans cell (omega arith) c.self.invariant.on_cells c.in-Some.ensures.taken in
    held_after_take frame old new c.self.inside.slots.items c.args.slot c.self.invariant (omega (arith, c.len.ensures, c.if-slot-len.true)) cell
    (subst (λ spans. IsTakenCell frame 2 spans cell) (sym left) taken.1) c.in-Some.ensures.others
    (subst (AreOnCells frame 2) (sym left) taken.0) (ap (λ (free : FreeSpans). free.room) after)
