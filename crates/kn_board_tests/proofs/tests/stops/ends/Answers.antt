use Rattle.std.proofs.Common.{ap, ◌∙◌}
use Rattle.kn_base.specs.declared.places.Place.TheVariants.{State}
use Rattle.kn_graph.specs.Ground.{Ground}
use Rattle.kn_rule.specs.declared.steps.Action.TheVariants.{Stores}
use Rattle.kn_rule.specs.declared.steps.Kind.TheVariants.{K2}
use Rattle.kn_rule.specs.Steps.{Step, does}
use Rattle.kn_board_tests.proofs.Stepping.{allowed, mutator_steps}
use Rattle.kn_board_tests.proofs.tests.stops.ends.Goals as goal

pub store-requires : goal.store-requires
store-requires c =
    allowed c.args.board 0 c.at-seat.result c.at-seat.ensures.by c.at-seat.ensures.board (does K2 (State 0) (Stores 2)) c.requires.may

pub returns : goal.returns
returns c =
    let h = c.store.ensures in
    let d : Step = does K2 (State 0) (Stores 2) in
    let t = mutator_steps c.turn_laws.ensures.others c.turn_laws.ensures.heap c.args.board c.rule_holds.ensures c.requires.threads c.at-seat.result
    c.at-seat.ensures.by c.at-seat.ensures.board d h.0 c.store.new.self c.into_board.result c.into_board.ensures h.1 h.2 in
    record { threads = ap (λ (z : Ground). z.sizes.threads) t.1 ∙ c.requires.threads; collector = t.2 }
