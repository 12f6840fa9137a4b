use Rattle.std.proofs.Common.{◌-◌, ◌^◌, ◌<◌, length, slice_index, ap, sym, subst, ◌∙◌}
use Rattle.kn_cms.specs.Stands.{HasRoom}
use Rattle.kn_cms_lists.specs.Kept.{Kept, answered_lists}
use Rattle.kn_cms.specs.Moves.{ThreadMoves}
use Rattle.kn_cms.proofs.NextCalls.{entry_room, few_made}
use Rattle.kn_cms.proofs.CallTurns.{whole_moves, whole_room}
use Rattle.kn_cms.proofs.thread_turns.whole_call.Goals as goal

pub answer-requires-clause-room : goal.answer-requires-clause-room
answer-requires-clause-room c = let at = c.requires.at in
    subst (λ (k : Kept). length k.history.list < k.history.room) (sym c.carry_out.ensures)
    (entry_room c.args.lists.now at.core.room c.args.thread at.near c.args.call.now at.next)

pub answer-requires-clause-few : goal.answer-requires-clause-few
answer-requires-clause-few c = let at = c.requires.at in
    subst (λ (k : Kept). slice_index k.made c.args.thread < 2 ^ 32 - 1) (sym c.carry_out.ensures)
    (few_made c.args.lists.now at.core.room c.args.thread at.near c.args.call.now at.next)

pub returns-clause-moves : goal.returns-clause-moves
returns-clause-moves c =
    let k = c.args.lists.now in let plan = c.plan_call-plan.result in
    subst (ThreadMoves k c.args.thread) (sym (c.answer.ensures
    ∙ ap (λ x. answered_lists x c.args.thread c.args.call.now plan.reply 0) c.carry_out.ensures))
    (whole_moves k c.args.thread c.args.call.now c.requires.at c.requires.free c.requires.whole plan c.plan_call-plan.ensures.is c.plan_call-plan.ensures.fits)

pub returns-clause-room : goal.returns-clause-room
returns-clause-room c =
    let k = c.args.lists.now in let plan = c.plan_call-plan.result in
    subst HasRoom (sym (c.answer.ensures ∙ ap (λ x. answered_lists x c.args.thread c.args.call.now plan.reply 0) c.carry_out.ensures))
    (whole_room k c.args.thread c.args.call.now c.requires.at c.requires.free c.requires.whole plan c.plan_call-plan.ensures.is c.plan_call-plan.ensures.fits)
