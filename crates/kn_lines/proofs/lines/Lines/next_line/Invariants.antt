use Rattle.std.proofs.Common.{◌≡◌, ◌+◌, ◌^◌, ◌<◌, length}
use Rattle.kn_lines.specs.Lines.{unread}
use Rattle.kn_lines.proofs.lines.Lines.next_line.Given as goal

abbrev pub invariant-loop-self : goal.invariant-loop-self
invariant-loop-self l = record {
  left : l.fn.self.left ≡ (unread l.self-inside.number l.self-inside.rest.now).left;
  end : l.fn.self.end ≡ (unread l.self-inside.number l.self-inside.rest.now).end;
  small : l.self-inside.number + length l.self-inside.rest.now < 2 ^ 32;
}

abbrev pub decreases-loop-self : goal.decreases-loop-self
decreases-loop-self l = length l.self-inside.rest.now
