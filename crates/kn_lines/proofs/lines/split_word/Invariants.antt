use Rattle.std.proofs.Common.{◌≡◌, length}
use Rattle.kn_lines.specs.Lines.{line_words}
use Rattle.kn_lines.proofs.lines.split_word.Given as goal

abbrev pub invariant-loop-rest : goal.invariant-loop-rest
invariant-loop-rest l = line_words l.line ≡ line_words l.rest

abbrev pub decreases-loop-rest : goal.decreases-loop-rest
decreases-loop-rest l = length l.rest
