use Rattle.std.proofs.Common.{◌≡◌, Option, slice_index, subst}
use Rattle.std.specs.Prelude.{IfSome}
use Rattle.kn_script.specs.Scripts.{Scripted}
use Rattle.kn_board_tests.proofs.tests.stops.a_collector_ends_behind_the_mutators.Goals as goal

pub ends-board-requires-clause-may : goal.ends-board-requires-clause-may
ends-board-requires-clause-may g c =
    let none = subst (λ (o : Option Scripted). IfSome o (λ s. slice_index s.sizes.calls 0 ≡ 0)) c.expect-script.ensures c.of_one.ensures.calls in
    c.in_ok-board.ensures.may_end none

pub collects-board-requires-clause-agrees : goal.collects-board-requires-clause-agrees
collects-board-requires-clause-agrees g c = c.ends-board.ensures.collector _ c.in_ok-board.ensures.agrees
