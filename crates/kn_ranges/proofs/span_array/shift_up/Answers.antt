use Rattle.std.proofs.Common.{◌+◌, ◌-◌, drop, take, length, arith}
use Rattle.std.proofs.lemmas.List.{length-drop, length-take-le}
use Rattle.kn_base.proofs.Slots.{moved_up}
use Rattle.kn_ranges.proofs.span_array.shift_up.Goals as goal

pub returns : goal.returns
returns c =
    let first = c.args.first in
    let place = c.args.place in
    moved_up c.args.slots.now c.rotate_right.new.self first place (first + place + 1 - first)
    (length (take (first + place + 1 - first) (drop first c.args.slots.now)) - 1) c.requires (omega arith)
    (omega (
      arith,
      length-take-le (first + place + 1 - first) (drop first c.args.slots.now) (omega (arith, length-drop first c.args.slots.now)),
      length-drop
          first c.args.slots.now,
    )) c.rotate_right.ensures.after
