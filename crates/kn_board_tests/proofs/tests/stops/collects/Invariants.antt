use Rattle.std.proofs.Common.{◌≡◌, ℕ, Option}
use Rattle.kn_rule.specs.declared.positions.Position.{Position}
use Rattle.kn_board.specs.World.{stand_at}
use Rattle.kn_collector.specs.Agree.{Agrees}
use Rattle.kn_board_tests.specs.Stands.{MutatorAt}
use Rattle.kn_board_tests.proofs.tests.stops.collects.Given as goal

abbrev pub invariant-loop-wanted : goal.invariant-loop-wanted
invariant-loop-wanted l = record {
  threads : l.board.heap.sizes.threads ≡ 1;
  agrees : Agrees l.collector (stand_at 1 l.board);
  mutator : (at : Position) (target : Option ℕ) (calls : ℕ) → MutatorAt at target calls l.fn.board → MutatorAt at target calls l.board;
}
