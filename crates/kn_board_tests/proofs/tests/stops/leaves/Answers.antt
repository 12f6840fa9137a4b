use Rattle.std.proofs.Common.{None, refl}
use Rattle.kn_base.specs.declared.places.Place.TheVariants.{Phase}
use Rattle.kn_rule.specs.declared.steps.Action.TheVariants.{LoadsFor}
use Rattle.kn_rule.specs.declared.steps.Kind.TheVariants.{K1}
use Rattle.kn_rule.specs.Steps.{Found, Step, does, found}
use Rattle.kn_board_tests.proofs.Stepping.{allowed, mutator_steps}
use Rattle.kn_board_tests.proofs.Standing.{leaves, may_wait}
use Rattle.kn_board_tests.proofs.tests.stops.leaves.Goals as goal

pub poll-word-requires : goal.poll-word-requires
poll-word-requires c =
    let w = c.args.board in
    allowed w 0 c.at-seat.result c.at-seat.ensures.by c.at-seat.ensures.board (does K1 Phase (LoadsFor None)) (may_wait w w refl c.requires)

pub returns : goal.returns
returns c =
    let w = c.args.board in
    let h = c.poll-word.ensures in
    let d : Step = does K1 Phase (LoadsFor None) in
    let f : Found = found c.poll-word.result h.0 in
    let t = mutator_steps c.turn_laws.ensures.others c.turn_laws.ensures.heap w c.rule_holds.ensures c.requires.threads c.at-seat.result
    c.at-seat.ensures.by c.at-seat.ensures.board d f c.poll-word.new.self c.into_board.result c.into_board.ensures h.1 h.2 in
    record { stands = λ e. leaves w c.into_board.result t.1 c.requires c.poll-word.result h.0 e t.0; collector = t.2 }
