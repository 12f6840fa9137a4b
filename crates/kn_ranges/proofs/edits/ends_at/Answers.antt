use Rattle.std.proofs.Common.{◌-◌, arith}
use Rattle.kn_base.proofs.Apart.{apart_at_index}
use Rattle.kn_ranges.proofs.edits.ends_at.Goals as goal

pub end-requires : goal.end-requires
end-requires c =
    let lies = apart_at_index 0 _ c.args.spans.now (c.args.place - 1) (record { start = 0; len = 0 }) c.requires.list (omega arith) in
    lies.2
