use Rattle.std.proofs.Common.{◌≡◌, ◌||◌, drop}
use Rattle.kn_lines.specs.Lines.{has_odd_byte}
use Rattle.kn_lines.proofs.lines.has_odd.Given as goal

abbrev pub invariant-loop-byte : goal.invariant-loop-byte
invariant-loop-byte l = (l.odd || has_odd_byte (drop l.byte-index l.text)) ≡ has_odd_byte l.text
