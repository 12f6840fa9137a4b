use Rattle.std.proofs.Common.{◌≡◌, Option, slice_index, subst, arith}
use Rattle.std.specs.Prelude.{IfSome}
use Rattle.kn_script.specs.Scripts.{Scripted}
use Rattle.kn_board_tests.proofs.tests.stops.a_collector_stops_a_mutator_and_stores_mark.Goals as goal

pub goes_in-board-requires : goal.goes_in-board-requires
goes_in-board-requires g c =
    let given = subst (λ (o : Option Scripted). IfSome o (λ s. slice_index s.sizes.calls 0 ≡ 1)) c.expect-script.ensures c.of_one.ensures.calls in
    c.in_ok-board.ensures.stands given

pub collects-board-requires-clause-agrees : goal.collects-board-requires-clause-agrees
collects-board-requires-clause-agrees g c = c.begins-board.ensures.collector _ (c.goes_in-board.ensures.collector _ c.in_ok-board.ensures.agrees)

pub wants-board-requires : goal.wants-board-requires
wants-board-requires g c =
    let idle : c.begins-board.result.1 ≡ 0 = omega arith in
    c.collects-board.ensures.mutator _ _ _ (c.begins-board.ensures.stands idle)

pub collects-board-requires-2-clause-agrees : goal.collects-board-requires-2-clause-agrees
collects-board-requires-2-clause-agrees g c = c.wants-board.ensures.collector _ c.collects-board.ensures.agrees

pub leaves-board-requires : goal.leaves-board-requires
leaves-board-requires g c = c.collects-board-2.ensures.mutator _ _ _ c.wants-board.ensures.stands

pub collects-board-requires-3-clause-agrees : goal.collects-board-requires-3-clause-agrees
collects-board-requires-3-clause-agrees g c = c.leaves-board.ensures.collector _ c.collects-board-2.ensures.agrees

pub goes_out-board-requires : goal.goes_out-board-requires
goes_out-board-requires g c =
    let stop : c.leaves-board.result.1 ≡ 9 = omega arith in
    c.collects-board-3.ensures.mutator _ _ _ (c.leaves-board.ensures.stands stop)

pub collects-board-requires-4-clause-agrees : goal.collects-board-requires-4-clause-agrees
collects-board-requires-4-clause-agrees g c = c.goes_out-board.ensures.collector _ c.collects-board-3.ensures.agrees

pub collects-board-requires-2-clause-threads : goal.collects-board-requires-2-clause-threads
collects-board-requires-2-clause-threads g c = c.wants-board.ensures.stands.threads

pub collects-board-requires-3-clause-threads : goal.collects-board-requires-3-clause-threads
collects-board-requires-3-clause-threads g c =
    let stop : c.leaves-board.result.1 ≡ 9 = omega arith in
    (c.leaves-board.ensures.stands stop).threads

pub collects-board-requires-4-clause-threads : goal.collects-board-requires-4-clause-threads
collects-board-requires-4-clause-threads g c = c.goes_out-board.ensures.stands.threads
