use Rattle.std.proofs.Common.{◌≡◌, length}
use Rattle.kn_lines.specs.Lines.{unread}
use Rattle.kn_script.specs.Progress.{start}
use Rattle.kn_script.specs.Grammar.{Behind}
use Rattle.kn_script.specs.Good.{IsGoodProgress}
use Rattle.kn_script.proofs.parser.read_script.Given as goal

abbrev pub invariant-loop-line : goal.invariant-loop-line
invariant-loop-line l = record {
  read : Behind (start l.built) (unread 1 l.bytes).left (unread 1 l.bytes).end l.progress l.lines.left;
  end : l.lines.end ≡ (unread 1 l.bytes).end;
  good : IsGoodProgress l.progress;
}

abbrev pub decreases-loop-line : goal.decreases-loop-line
decreases-loop-line l = length l.lines.left
