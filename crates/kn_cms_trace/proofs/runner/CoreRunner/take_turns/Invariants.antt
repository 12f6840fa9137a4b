use Rattle.kn_cms_trace.specs.CoreRuns.{CoreRun, CoreTurns}
use Rattle.kn_cms_trace.specs.Runners.{IsRunnerOf, KeepsScript}
use Rattle.kn_cms_trace.proofs.runner.CoreRunner.take_turns.Given as goal

abbrev pub invariant-loop-turn : goal.invariant-loop-turn
invariant-loop-turn l = record {
  keeps : KeepsScript l.fn.self.core l.self.core;
  runs : (r : CoreRun) → IsRunnerOf l.fn.self r → (last : CoreRun) × IsRunnerOf l.self last × CoreTurns l.fn.self.core.ground l._turn r last;
}
