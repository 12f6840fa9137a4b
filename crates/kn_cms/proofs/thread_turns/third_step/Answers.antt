use Rattle.std.proofs.Common.{◌≡◌, length, slice_get, ap, sym, subst, ◌∙◌, arith}
use Rattle.kn_graph.specs.declared.calls.Call.TheVariants.{Set}
use Rattle.kn_graph.specs.declared.calls.Reply.TheVariants as replies
use Rattle.kn_cms.specs.Stands.{HasRoom}
use Rattle.kn_cms_lists.specs.Kept.{Kept, answered_lists, kept_local, with_kept_point}
use Rattle.kn_cms.specs.Moves.{IsAt, ThreadMoves}
use Rattle.kn_cms.proofs.NextCalls.{entry_room, few_made}
use Rattle.kn_cms.proofs.SetTurns.{is_set, object_born, place_near, store_moves, store_room}
use Rattle.kn_cms.proofs.thread_turns.third_step.Goals as goal

pub at-cell-requires : goal.at-cell-requires
at-cell-requires c = let k = c.args.lists.now in let at = c.requires.at in
    let born = object_born k c.args.thread c.args.call.now at c.args.n c.args.field c.requires.shaded at.core.state at.core.stands in
    let all = at.core.stands.cells.born in
    let same = ap (λ (k : Kept). length k.cells.cells) c.lists.view_is in omega (arith, born, all, same)

pub store-requires-clause-room : goal.store-requires-clause-room
store-requires-clause-room c = let at = c.requires.at in entry_room c.args.lists.now at.core.room c.args.thread at.near c.args.call.now at.next

pub store-requires-clause-few : goal.store-requires-clause-few
store-requires-clause-few c = let at = c.requires.at in few_made c.args.lists.now at.core.room c.args.thread at.near c.args.call.now at.next

pub store-requires-clause-place : goal.store-requires-clause-place
store-requires-clause-place c = let k = c.args.lists.now in
    place_near k c.args.thread c.args.call.now c.requires.at c.args.n c.args.field c.requires.shaded c.at-cell.result
    (ap (λ (k : Kept). slice_get k.cells.cells c.args.n) (sym c.lists.view_is) ∙ c.at-cell.ensures)

pub unreachable-requires : goal.unreachable-requires
unreachable-requires c = let at = c.requires.at in
    c.in_default.not-Set _ _ _ (is_set c.args.lists.now c.args.thread c.args.call.now at c.args.n c.args.field c.requires.shaded at.core.state at.core.stands)

pub returns-clause-moves : goal.returns-clause-moves
returns-clause-moves c =
    let k = c.args.lists.now in let at = c.requires.at in
    let mine = is_set k c.args.thread c.args.call.now at c.args.n c.args.field c.requires.shaded at.core.state at.core.stands in
    let e : c.args.call.now ≡ Set c.in-Set.field-0 c.args.field c.in-Set.r = (let is = c.in-Set.is in cc) in
    subst (ThreadMoves k c.args.thread) (sym (c.store.ensures
    ∙ ap (λ v. answered_lists (with_kept_point k c.at-cell.result c.args.field v) c.args.thread c.args.call.now replies.Ok 0) c.local-value.ensures))
    (subst (λ x. ThreadMoves k c.args.thread
    (answered_lists (with_kept_point k c.at-cell.result c.args.field (kept_local k c.args.thread c.in-Set.r)) c.args.thread x replies.Ok 0)) (sym e)
    (store_moves k c.args.thread c.in-Set.field-0 c.args.field c.in-Set.r (subst (IsAt k c.args.thread) e at) c.args.n c.requires.shaded c.at-cell.result
    (ap (λ (k : Kept). slice_get k.cells.cells c.args.n) (sym c.lists.view_is) ∙ c.at-cell.ensures)))

pub returns-clause-room : goal.returns-clause-room
returns-clause-room c =
    let k = c.args.lists.now in let at = c.requires.at in
    subst HasRoom (sym (c.store.ensures
    ∙ ap (λ v. answered_lists (with_kept_point k c.at-cell.result c.args.field v) c.args.thread c.args.call.now replies.Ok 0) c.local-value.ensures))
    (store_room k c.args.thread c.args.call.now at c.args.field c.at-cell.result (kept_local k c.args.thread c.in-Set.r))
