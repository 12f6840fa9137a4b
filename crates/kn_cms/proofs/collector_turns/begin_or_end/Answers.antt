use Rattle.std.proofs.Common.{◌≡◌, ◌≢◌, ℕ, ◌<◌, slice_index_or, refl, sym, subst}
use Rattle.kn_lines.specs.declared.orders.Actor.TheVariants.{Collector}
use Rattle.kn_cms_rule.specs.declared.stages.CmsTurn.TheVariants.{Moved, Done}
use Rattle.kn_cms_rule.specs.declared.stages.Colour.TheVariants.{White, Gray}
use Rattle.kn_cms_rule.specs.declared.stages.Stage.TheVariants.{Finished, Looking}
use Rattle.kn_cms_lists.specs.Kept.{Kept}
use Rattle.kn_cms.specs.Moves.{TurnMoves}
use Rattle.kn_cms.proofs.CollectorTurns.{begin_moves, end_moves, turn_of_step}
use Rattle.kn_cms.proofs.collector_turns.begin_or_end.Goals as goal

pub returns-in-Some-clause-moves : goal.returns-in-Some-clause-moves
returns-in-Some-clause-moves c =
    let k = c.args.lists.now in
    let n = c.in-Some.n in
    let gray = subst (λ (k : Kept). slice_index_or k.colours n White ≡ Gray) c.lists.view_is c.in-Some.ensures.gray in
    let least = subst (λ (k : Kept). (m : ℕ) → m < n → slice_index_or k.colours m White ≢ Gray) c.lists.view_is c.in-Some.ensures.least in
    let e : c.begin.new.self ≡ record k { stage = Looking n 0 } = cc in
    subst (TurnMoves k Collector Moved) (sym e) (turn_of_step k (record k { stage = Looking n 0 }) (Looking n 0) refl
    (begin_moves k c.requires.marks n gray least))

pub returns-in-None-clause-moves : goal.returns-in-None-clause-moves
returns-in-None-clause-moves c =
    let k = c.args.lists.now in
    let none = subst (λ (k : Kept). (m : ℕ) → slice_index_or k.colours m White ≢ Gray) c.lists.view_is (c.least_gray.ensures.none c.in-None.is) in
    let e : c.end.new.self ≡ record k { stage = Finished } = cc in
    subst (TurnMoves k Collector Done) (sym e) (turn_of_step k (record k { stage = Finished }) Finished refl (end_moves k c.requires.marks none))
