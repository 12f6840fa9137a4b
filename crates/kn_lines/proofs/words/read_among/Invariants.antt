use Rattle.std.proofs.Common.{◌≡◌, drop}
use Rattle.kn_lines.specs.Built.{call_among}
use Rattle.kn_lines.proofs.words.read_among.Given as goal

abbrev pub invariant-loop-call : goal.invariant-loop-call
invariant-loop-call l = call_among (drop l.call-index l.calls) l.word ≡ call_among l.calls l.word
