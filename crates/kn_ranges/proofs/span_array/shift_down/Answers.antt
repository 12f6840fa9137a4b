use Rattle.std.proofs.Common.{◌+◌, ◌-◌, refl, arith}
use Rattle.kn_base.proofs.Slots.{moved_down}
use Rattle.kn_ranges.proofs.span_array.shift_down.Goals as goal

pub returns : goal.returns
returns c =
    let first = c.args.first in
    let place = c.args.place in
    moved_down c.args.slots.now c.rotate_left.new.self first place (first + place - (first - 1)) (first - 1) (first + place - 1) c.args.span c.requires.free
    c.requires.place refl (omega arith) (omega arith) c.rotate_left.ensures.after
