use Rattle.std.proofs.Common.{true, false, refl, ◌∙◌}
use Rattle.kn_trace.proofs.Flags.{is_end_is}
use Rattle.kn_trace.proofs.Turning.{made_turn, seat_agrees}
use Rattle.kn_trace.proofs.actors.turn_on.Goals as goal
use Rattle.kn_trace.proofs.actors.turn_on.Goals.{in-Done, in_default}

pub returns-clause-made : goal.returns-clause-made
returns-clause-made c = made_turn c.args.board c.into_board.result c.args.thread c.args.mutator.now c.turn-reply.new.self c.at-seat.result
    c.turn-reply.new.steps c.turn-reply.result c.at-seat.ensures.by c.at-seat.ensures.board c.into_board.ensures c.rule_holds.ensures
    c.turn-reply.ensures.turned c.turn-reply.ensures.one c.turn-reply.ensures.agrees c.turn-reply.ensures.unswept

pub turn-reply-requires : goal.turn-reply-requires
turn-reply-requires c = record {
  agrees = seat_agrees c.args.board c.args.thread c.args.mutator.now c.at-seat.result c.at-seat.ensures.by c.at-seat.ensures.board c.requires.agrees;
  going = c.requires.going;
}

pub returns-clause-ended : goal.returns-clause-ended
returns-clause-ended c =
    let task = c.turn-reply.new.self.task in
    let done = c.turn-reply.ensures.done in
    elim c.match-matches.branch [
      | in-Done w ↦ w.matches-is ∙ is_end_is true task (λ _. done.0 w.in-Done.is) (λ _. refl)
      | in_default w ↦ w.matches-is ∙ is_end_is false task (λ e. absurd (cc)) (λ h. absurd (w.in_default.not-Done (done.1 h)))
    ]
