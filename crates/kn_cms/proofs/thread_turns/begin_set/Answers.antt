use Rattle.std.proofs.Common.{sym, subst}
use Rattle.kn_cms.specs.Stands.{HasRoom}
use Rattle.kn_cms_lists.specs.Kept.{answered_lists}
use Rattle.kn_cms.specs.Moves.{IsAt, ThreadMoves}
use Rattle.kn_cms.proofs.NextCalls.{entry_room, few_made}
use Rattle.kn_cms.proofs.CallTurns.{refusal_moves, same_room}
use Rattle.kn_cms.proofs.SetTurns.{load_moves}
use Rattle.kn_cms.proofs.thread_turns.begin_set.Goals as goal

pub answer-requires-clause-room : goal.answer-requires-clause-room
answer-requires-clause-room c = let at = c.requires.at in entry_room c.args.lists.now at.core.room c.args.thread at.near c.args.call.now at.next

pub answer-requires-clause-few : goal.answer-requires-clause-few
answer-requires-clause-few c = let at = c.requires.at in few_made c.args.lists.now at.core.room c.args.thread at.near c.args.call.now at.next

pub returns-in-Ok-clause-moves : goal.returns-in-Ok-clause-moves
returns-in-Ok-clause-moves c = let k = c.args.lists.now in
    let at = subst (λ x. IsAt k c.args.thread x) c.requires.set c.requires.at in
    subst (ThreadMoves k c.args.thread) (sym c.load.ensures)
    (load_moves k c.args.thread c.args.s c.args.field c.args.r at c.requires.free c.in-Ok.n c.in-Ok.ensures.object c.in-Ok.ensures.kind)

pub returns-in-Err-clause-moves : goal.returns-in-Err-clause-moves
returns-in-Err-clause-moves c = let k = c.args.lists.now in
    let at = subst (λ x. IsAt k c.args.thread x) c.requires.set c.requires.at in
    subst (ThreadMoves k c.args.thread) (sym c.answer.ensures)
    (subst (λ x. ThreadMoves k c.args.thread (answered_lists k c.args.thread x c.in-Err.reply 0)) (sym c.requires.set)
    (refusal_moves k c.args.thread c.args.s c.args.field c.args.r at c.requires.free c.in-Err.reply c.in-Err.ensures.object))

pub returns-in-Err-clause-room : goal.returns-in-Err-clause-room
returns-in-Err-clause-room c = subst HasRoom (sym c.answer.ensures)
    (same_room c.args.lists.now c.args.thread c.args.call.now c.requires.at c.in-Err.reply 0)
