use Rattle.std.proofs.Common.{arith}
use Rattle.kn_schedule.specs.Asks.{standing_of}
use Rattle.kn_schedule.proofs.Passed.{passed_from}
use Rattle.kn_schedule.proofs.asking.Asking.first_ask.Goals as goal

pub returns : goal.returns
returns c = passed_from (standing_of c.args.ended.now c.args.answered.now c.args.code) c.args.self.now c.requires.actors.some
    (λ ask behind near within. c.loop-ask.invariant ask behind
    (omega (arith, c.loop-ask-test.false, c.min-end.ensures, c.saturating_add.ensures, c.from.ensures, near, within)))
