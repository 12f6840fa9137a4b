use Rattle.std.proofs.Common.{arith}
use Rattle.kn_lines.proofs.PieceLemmas.{line_words-few}
use Rattle.kn_lines.proofs.lines.Line.arguments.Goals as goal

pub returns-clause-few : goal.returns-clause-few
returns-clause-few c = omega (arith, line_words-few c.self.inside.rest.now)
