use Rattle.std.proofs.Common.{sym, subst}
use Rattle.kn_cms.specs.Moves.{CollectorMoves}
use Rattle.kn_cms.proofs.CollectorTurns.{blacken_moves, look_moves, value_near}
use Rattle.kn_cms.proofs.collector_turns.look_on.Goals as goal

pub look-requires-clause-object : goal.look-requires-clause-object
look-requires-clause-object c = let core = c.requires.core in
    value_near c.args.lists.now core.room c.args.n c.args.from c.requires.begun core.state core.stands c.in-Some.field

pub returns-in-Some-clause-moves : goal.returns-in-Some-clause-moves
returns-in-Some-clause-moves c = let k = c.args.lists.now in
    subst (CollectorMoves k) (sym c.look.ensures)
    (look_moves k c.requires.core.room c.args.n c.args.from c.requires.begun c.in-Some.field c.in-Some.ensures.next)

pub returns-in-None-clause-moves : goal.returns-in-None-clause-moves
returns-in-None-clause-moves c = let k = c.args.lists.now in
    subst (CollectorMoves k) (sym c.blacken.ensures)
    (blacken_moves k c.requires.core.room c.args.n c.args.from c.requires.begun (c.next_ref.ensures.none c.in-None.is))
