use Rattle.std.proofs.Common.{sym, subst}
use Rattle.kn_cms.specs.Moves.{ThreadMoves}
use Rattle.kn_cms.proofs.SetTurns.{loaded_near, shade_moves}
use Rattle.kn_cms.proofs.thread_turns.second_step.Goals as goal

pub shade_loaded-requires-clause-object : goal.shade_loaded-requires-clause-object
shade_loaded-requires-clause-object c =
    loaded_near c.args.lists.now c.args.thread c.args.call.now c.requires.at c.args.n c.args.field c.args.value c.requires.loaded

pub returns-clause-moves : goal.returns-clause-moves
returns-clause-moves c = subst (ThreadMoves c.args.lists.now c.args.thread) (sym c.shade_loaded.ensures)
    (shade_moves c.args.lists.now c.args.thread c.args.call.now c.requires.at c.args.n c.args.field c.args.value c.requires.loaded)
