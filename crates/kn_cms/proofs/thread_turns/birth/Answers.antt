use Rattle.std.proofs.Common.{◌≡◌, ◌+◌, ◌-◌, ◌^◌, ◌<◌, ◌≤◌, Option, Some, length, slice_index, ap, sym, subst, ◌∙◌, arith}
use Rattle.kn_base.specs.Sizes.{word_count}
use Rattle.kn_layout.specs.Layouts.{cell_size}
use Rattle.kn_graph.specs.declared.calls.Reply.TheVariants as replies
use Rattle.kn_graph.specs.Graph.{length_for}
use Rattle.kn_cms_rule.specs.Words.{one_framed}
use Rattle.kn_cms_rule.specs.Calls.{Birth, birth_of}
use Rattle.kn_cms.specs.Stands.{HasRoom}
use Rattle.kn_cms_lists.specs.Kept.{Kept, answered_lists, born_lists}
use Rattle.kn_cms.specs.Moves.{ThreadMoves}
use Rattle.kn_cms.proofs.NextCalls.{entry_room, few_made, object_room}
use Rattle.kn_cms.proofs.BirthTurns.{birth_moves, birth_room}
use Rattle.kn_cms.proofs.CallTurns.{full_moves, no_room, same_room}
use Rattle.kn_cms_rule.proofs.Histories.{true_not_false}
use Rattle.kn_cms.proofs.thread_turns.birth.Goals as goal

pub bear-address-requires-clause-room : goal.bear-address-requires-clause-room
bear-address-requires-clause-room c = let at = c.requires.at in
    let few = object_room c.args.lists.now at.core.room c.args.thread at.near c.args.call.now at.next in let all = at.core.room.objects in
    omega (arith, few, all)

pub bear-address-requires-clause-words : goal.bear-address-requires-clause-words
bear-address-requires-clause-words c = c.has_room.ensures.small c.if-has_room.true

pub bear-address-requires-clause-colour : goal.bear-address-requires-clause-colour
bear-address-requires-clause-colour c = let at = c.requires.at in
    let few = object_room c.args.lists.now at.core.room c.args.thread at.near c.args.call.now at.next in let all = at.core.room.colours in
    omega (arith, few, all)

pub answer-requires-clause-room : goal.answer-requires-clause-room
answer-requires-clause-room c = let at = c.requires.at in
    subst (λ (k : Kept). length k.history.list < k.history.room) (sym c.bear-address.ensures.after)
    (entry_room c.args.lists.now at.core.room c.args.thread at.near c.args.call.now at.next)

pub answer-requires-clause-few : goal.answer-requires-clause-few
answer-requires-clause-few c = let at = c.requires.at in
    subst (λ (k : Kept). slice_index k.made c.args.thread < 2 ^ 32 - 1) (sym c.bear-address.ensures.after)
    (few_made c.args.lists.now at.core.room c.args.thread at.near c.args.call.now at.next)

pub answer-requires-else-has_room-clause-room : goal.answer-requires-else-has_room-clause-room
answer-requires-else-has_room-clause-room c = let at = c.requires.at in
    entry_room c.args.lists.now at.core.room c.args.thread at.near c.args.call.now at.next

pub answer-requires-else-has_room-clause-few : goal.answer-requires-else-has_room-clause-few
answer-requires-else-has_room-clause-few c = let at = c.requires.at in
    few_made c.args.lists.now at.core.room c.args.thread at.near c.args.call.now at.next

pub returns-then-has_room : goal.returns-then-has_room
returns-then-has_room c =
    let k = c.args.lists.now in let fields = c.length_for-fields.result in
    let asks : birth_of (one_framed k.ground) c.args.call.now ≡ Some (record { local = c.args.r; layout = c.args.layout; fields = fields }) =
    c.requires.asks ∙ ap {B = Option Birth} (λ n. Some (record { local = c.args.r; layout = c.args.layout; fields = n }))
    (ap (λ (k : Kept). length_for k.ground c.args.layout c.args.elements) (sym c.lists.view_is) ∙ sym c.length_for-fields.ensures.is) in
    let e : c.answer.new.self ≡ answered_lists (born_lists k c.args.thread c.args.r c.args.layout fields) c.args.thread c.args.call.now replies.Ok
    (1 + k.cells.taken) =
    c.answer.ensures ∙ (ap (λ x. answered_lists x c.args.thread c.args.call.now replies.Ok c.bear-address.result) c.bear-address.ensures.after
    ∙ ap (λ a. answered_lists (born_lists k c.args.thread c.args.r c.args.layout fields) c.args.thread c.args.call.now replies.Ok a)
    c.bear-address.ensures.address) in
    let fits = c.has_room.ensures.is.0 c.if-has_room.true in
    record {
      moves = subst (ThreadMoves k c.args.thread) (sym e)
          (birth_moves k c.args.thread c.args.call.now c.requires.at c.requires.free c.args.r c.args.layout fields asks c.requires.local fits);
      room = subst HasRoom (sym e)
          (birth_room k c.args.thread c.args.call.now c.requires.at c.requires.free c.args.r c.args.layout fields asks c.requires.local fits);
    }

pub returns-else-has_room-clause-moves : goal.returns-else-has_room-clause-moves
returns-else-has_room-clause-moves c =
    let k = c.args.lists.now in
    let same = c.length_for-fields.ensures.is ∙ ap (λ (k : Kept). length_for k.ground c.args.layout c.args.elements) c.lists.view_is in
    subst (ThreadMoves k c.args.thread) (sym c.answer-else-has_room.ensures)
    (full_moves k c.args.thread c.args.call.now c.requires.at c.requires.free
    (record { local = c.args.r; layout = c.args.layout; fields = length_for k.ground c.args.layout c.args.elements }) c.requires.asks
    (λ s h. no_room k s h (length_for k.ground c.args.layout c.args.elements)
    (λ fits. true_not_false c.has_room.result (c.has_room.ensures.is.1
    (subst (λ n. k.cells.taken + cell_size n ≤ word_count k.ground.sizes) (sym same) fits)) c.if-has_room.false)))

pub returns-else-has_room-clause-room : goal.returns-else-has_room-clause-room
returns-else-has_room-clause-room c = subst HasRoom (sym c.answer-else-has_room.ensures)
    (same_room c.args.lists.now c.args.thread c.args.call.now c.requires.at replies.Full 0)
