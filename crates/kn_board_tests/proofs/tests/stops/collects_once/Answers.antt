use Rattle.std.proofs.Common.{ap, ◌∙◌}
use Rattle.kn_graph.specs.Ground.{Ground}
use Rattle.kn_board_tests.proofs.Stepping.{collector_turns, seat_agrees}
use Rattle.kn_board_tests.proofs.Standing.{stands_still}
use Rattle.kn_board_tests.proofs.tests.stops.collects_once.Goals as goal

pub turn-turn-requires-clause-agrees : goal.turn-turn-requires-clause-agrees
turn-turn-requires-clause-agrees c = λ _.
    seat_agrees c.args.board c.at-seat.result c.at-seat.ensures.by c.at-seat.ensures.board c.args.collector.now c.requires.agrees

pub returns : goal.returns
returns c =
    let w = c.args.board in
    let w' = c.into_board.result in
    let t = collector_turns c.turn_laws.ensures.others c.turn_laws.ensures.heap w c.rule_holds.ensures c.requires.threads c.at-seat.result
    c.at-seat.ensures.by c.at-seat.ensures.board c.turn-turn.new.steps w' c.into_board.ensures c.turn-turn.ensures.one c.turn-turn.new.self
    c.turn-turn.ensures.agrees in
    record {
      threads = ap (λ (z : Ground). z.sizes.threads) t.1 ∙ c.requires.threads;
      agrees = t.0;
      mutator = λ at target calls m. stands_still at target calls w w' t.1 t.2 m;
    }
