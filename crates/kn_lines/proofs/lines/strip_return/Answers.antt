use Rattle.std.proofs.Common.{◌-◌, length, arith}
use Rattle.kn_lines.proofs.PieceLemmas.{without_return-at, without_return-without, without_return-none}
use Rattle.kn_lines.proofs.lines.strip_return.Goals as goal
use Rattle.kn_lines.proofs.lines.strip_return.Goals.{else-end-gt0-via-then-end-gt0+else-line-end-eq13, else-end-gt0-via-else-end-gt0}

pub returns-then-line-end-eq13 : goal.returns-then-line-end-eq13
returns-then-line-end-eq13 c =
    let line = c.args.line.now in
    without_return-at line (length line - 1) (omega arith) c.if-line-end-eq13.true

pub returns-else-end-gt0 : goal.returns-else-end-gt0
returns-else-end-gt0 c =
    let line = c.args.line.now in
    elim c.else-end-gt0.branch [
      | else-end-gt0-via-then-end-gt0+else-line-end-eq13 w ↦
          without_return-without line (length line - 1) (omega arith) w.if-line-end-eq13.false
      | else-end-gt0-via-else-end-gt0 w ↦ without_return-none line (omega arith)
    ]
