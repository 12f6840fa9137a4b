use Rattle.std.proofs.Common.{true, false, refl, ◌∙◌}
use Rattle.kn_trace.proofs.Flags.{is_over_is}
use Rattle.kn_trace.proofs.Turning.{made_collection}
use Rattle.kn_trace.proofs.actors.collect_on.Goals as goal
use Rattle.kn_trace.proofs.actors.collect_on.Goals.{in-Done, in_default}

pub returns-clause-made : goal.returns-clause-made
returns-clause-made c = made_collection c.args.board c.into_board.result c.args.by c.args.collector.now c.turn-reply.new.self c.at-seat.result
    c.turn-reply.new.steps c.turn-reply.result c.at-seat.ensures.by c.at-seat.ensures.board c.into_board.ensures c.rule_holds.ensures
    c.turn-reply.ensures.turned c.turn-reply.ensures.one c.turn-reply.ensures.agrees

pub returns-clause-ended : goal.returns-clause-ended
returns-clause-ended c =
    let stage = c.turn-reply.new.self.stage in
    let done = c.turn-reply.ensures.done in
    elim c.match-matches.branch [
      | in-Done w ↦ w.matches-is ∙ is_over_is true stage (λ _. done.0 w.in-Done.is) (λ _. refl)
      | in_default w ↦ w.matches-is ∙ is_over_is false stage (λ e. absurd (cc)) (λ h. absurd (w.in_default.not-Done (done.1 h)))
    ]
