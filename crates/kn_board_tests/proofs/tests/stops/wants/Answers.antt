use Rattle.std.proofs.Common.{refl}
use Rattle.kn_base.specs.declared.places.Place.TheVariants.{Want}
use Rattle.kn_rule.specs.declared.steps.Action.TheVariants.{Raises}
use Rattle.kn_rule.specs.declared.steps.Kind.TheVariants.{K13}
use Rattle.kn_rule.specs.Steps.{Found, Step, does, found}
use Rattle.kn_board_tests.proofs.Stepping.{allowed, mutator_steps}
use Rattle.kn_board_tests.proofs.Standing.{may_raise, raises}
use Rattle.kn_board_tests.proofs.tests.stops.wants.Goals as goal

pub raise-requires : goal.raise-requires
raise-requires c =
    let w = c.args.board in
    allowed w 0 c.at-seat.result c.at-seat.ensures.by c.at-seat.ensures.board (does K13 Want (Raises 1)) (may_raise w w refl c.requires)

pub returns : goal.returns
returns c =
    let w = c.args.board in
    let h = c.raise.ensures in
    let d : Step = does K13 Want (Raises 1) in
    let f : Found = found c.raise.result h.0 in
    let t = mutator_steps c.turn_laws.ensures.others c.turn_laws.ensures.heap w c.rule_holds.ensures c.requires.threads c.at-seat.result
    c.at-seat.ensures.by c.at-seat.ensures.board d f c.raise.new.self c.into_board.result c.into_board.ensures h.1 h.2 in
    record { stands = raises w c.into_board.result t.1 c.requires f t.0; collector = t.2 }
