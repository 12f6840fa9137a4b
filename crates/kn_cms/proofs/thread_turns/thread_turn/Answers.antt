use Rattle.std.proofs.Common.{is_some, ap, sym, ◌∙◌}
use Rattle.kn_cms.proofs.ThreadTurns.{ended_moves, ends_moves, goes_on_moves}
use Rattle.kn_cms.proofs.thread_turns.thread_turn.Goals as goal

pub returns-in_default-clause-moves : goal.returns-in_default-clause-moves
returns-in_default-clause-moves c = ended_moves c.args.lists.now c.args.thread c.requires.near (sym c.next_call.ensures ∙ c.in_default.is)

pub returns-then-is_some-clause-moves : goal.returns-then-is_some-clause-moves
returns-then-is_some-clause-moves c = goes_on_moves c.args.lists.now c.step.new.lists c.args.thread c.requires.near c.step.ensures.moves
    (ap is_some (sym c.next_call-2.ensures) ∙ (sym c.is_some.ensures ∙ c.if-is_some.true))

pub returns-else-is_some-clause-moves : goal.returns-else-is_some-clause-moves
returns-else-is_some-clause-moves c = ends_moves c.args.lists.now c.step.new.lists c.args.thread c.requires.near c.step.ensures.moves
    (ap is_some (sym c.next_call-2.ensures) ∙ (sym c.is_some.ensures ∙ c.if-is_some.false))
