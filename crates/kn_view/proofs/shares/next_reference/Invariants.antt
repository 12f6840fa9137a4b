use Rattle.std.proofs.Common.{◌≡◌, ◌-◌}
use Rattle.kn_graph.specs.Ground.{Ground}
use Rattle.kn_rule.specs.Decoding.{header_of}
use Rattle.kn_rule.specs.MarkedHeap.{next_ref}
use Rattle.kn_view.proofs.shares.next_reference.Given as goal

-- the first one from the field reached on is the first of all, and the length is that of the header
abbrev pub invariant-loop-field : goal.invariant-loop-field
invariant-loop-field l = ((z : Ground) → z.layouts ≡ l.layouts → next_ref z l.header l.field ≡ next_ref z l.header l.from)
    × (l.length ≡ (header_of l.header).length)

abbrev pub decreases-loop-field : goal.decreases-loop-field
decreases-loop-field l = l.length - l.field
