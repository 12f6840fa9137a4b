use Rattle.std.proofs.Common.{◌≡◌, ℕ, slice_index_or, length, refl, sym, ap, subst, ◌∙◌, arith}
use Rattle.kn_lines.specs.declared.orders.Actor.TheVariants.{Collector}
use Rattle.kn_cms_rule.specs.declared.stages.CmsTurn.TheVariants.{Moved}
use Rattle.kn_cms_rule.specs.declared.stages.Doing.TheVariants.{Free}
use Rattle.kn_cms_rule.specs.declared.stages.Stage.TheVariants.{Marking}
use Rattle.kn_cms.specs.Stands.{HasRoom}
use Rattle.kn_cms_lists.specs.Kept.{Kept, snapshot_lists}
use Rattle.kn_cms.specs.Moves.{IsFirstBusy, TurnMoves}
use Rattle.kn_cms.proofs.CollectorTurns.{globals_below, locals_below, snapshot_moves, snapshot_room, turn_of_step, waits_moves}
use Rattle.kn_cms.proofs.collector_turns.wait_or_snapshot.Goals as goal

pub first_busy-requires : goal.first_busy-requires
first_busy-requires c =
    let same = ap length (c.deref.ensures.value ∙ ap (λ (k : Kept). k.doing) c.lists.view_is) in
    let long = c.requires.core.room.doing in let few = c.requires.core.room.threads in omega (arith, same, long, few)

pub take_snapshot-requires-clause-locals : goal.take_snapshot-requires-clause-locals
take_snapshot-requires-clause-locals c = locals_below c.args.lists.now c.requires.core

pub take_snapshot-requires-clause-globals : goal.take_snapshot-requires-clause-globals
take_snapshot-requires-clause-globals c = globals_below c.args.lists.now c.requires.core

pub returns-in-Some-clause-moves : goal.returns-in-Some-clause-moves
returns-in-Some-clause-moves c = let k = c.args.lists.now in
    waits_moves k c.in-Some.thread c.requires.core.room c.requires.waits
    (subst (λ l. IsFirstBusy l c.in-Some.thread) (c.deref.ensures.value ∙ ap (λ (k : Kept). k.doing) c.lists.view_is) c.in-Some.ensures.first)

pub returns-in-None-clause-moves : goal.returns-in-None-clause-moves
returns-in-None-clause-moves c = let k = c.args.lists.now in
    let free = subst (λ l. (j : ℕ) → slice_index_or l j Free ≡ Free) (c.deref.ensures.value ∙ ap (λ (k : Kept). k.doing) c.lists.view_is)
    (c.first_busy.ensures.none c.in-None.is) in
    subst (TurnMoves k Collector Moved) (sym c.take_snapshot.ensures)
    (turn_of_step k (snapshot_lists k) Marking refl (snapshot_moves k c.requires.core c.requires.waits free))

pub returns-in-None-clause-room : goal.returns-in-None-clause-room
returns-in-None-clause-room c = let k = c.args.lists.now in
    subst HasRoom (sym c.take_snapshot.ensures) (snapshot_room k c.requires.core c.requires.waits)
