use Rattle.std.proofs.Common.{◌/◌, ◌-◌, vec_len}
use Rattle.std.proofs.Math.Seq.{take-nil}
use Rattle.kn_bench.proofs.Holding.{held_at_start}
use Rattle.kn_bench.proofs.cells.Cells.open.Goals as goal

pub invariant_of-result : goal.invariant_of-result
invariant_of-result c =
    let slots = rw (c.in_ok-resize.was, c.new-slots.ensures.items, take-nil) at c.resize.ensures.items in
    rw (c.in_ok-open_frame.ensures, slots) (held_at_start c.args.frame (c.args.frame.len / 2 - vec_len c.new-slots.result) c.requires)
