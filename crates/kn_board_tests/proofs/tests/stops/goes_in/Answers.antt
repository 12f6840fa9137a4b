use Rattle.std.proofs.Common.{refl}
use Rattle.kn_base.specs.declared.places.Place.TheVariants.{State}
use Rattle.kn_rule.specs.declared.steps.Action.TheVariants.{Stores}
use Rattle.kn_rule.specs.declared.steps.Kind.TheVariants.{K2}
use Rattle.kn_rule.specs.Steps.{Step, does}
use Rattle.kn_board_tests.proofs.Stepping.{allowed, mutator_steps}
use Rattle.kn_board_tests.proofs.Standing.{goes_in, may_go_in}
use Rattle.kn_board_tests.proofs.tests.stops.goes_in.Goals as goal

pub store-requires : goal.store-requires
store-requires c =
    let w = c.args.board in
    allowed w 0 c.at-seat.result c.at-seat.ensures.by c.at-seat.ensures.board (does K2 (State 0) (Stores 1)) (may_go_in w w refl c.requires)

pub returns : goal.returns
returns c =
    let w = c.args.board in
    let h = c.store.ensures in
    let d : Step = does K2 (State 0) (Stores 1) in
    let t = mutator_steps c.turn_laws.ensures.others c.turn_laws.ensures.heap w c.rule_holds.ensures c.requires.threads c.at-seat.result
    c.at-seat.ensures.by c.at-seat.ensures.board d h.0 c.store.new.self c.into_board.result c.into_board.ensures h.1 h.2 in
    record { stands = goes_in w c.into_board.result t.1 c.requires h.0 t.0; collector = t.2 }
