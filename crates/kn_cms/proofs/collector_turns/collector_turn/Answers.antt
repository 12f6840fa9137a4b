use Rattle.std.proofs.Common.{ap, sym, ◌∙◌}
use Rattle.kn_cms_lists.specs.Kept.{Kept}
use Rattle.kn_cms.proofs.CollectorTurns.{rests_moves, turn_goes_on}
use Rattle.kn_cms.proofs.collector_turns.collector_turn.Goals as goal

pub returns-in-Looking-clause-moves : goal.returns-in-Looking-clause-moves
returns-in-Looking-clause-moves c = turn_goes_on c.args.lists.now c.look_on.new.lists c.look_on.ensures.goes_on c.look_on.ensures.moves

pub returns-in-Finished-clause-moves : goal.returns-in-Finished-clause-moves
returns-in-Finished-clause-moves c = rests_moves c.args.lists.now (ap (λ (k : Kept). k.stage) (sym c.lists.view_is) ∙ c.in-Finished.is)
