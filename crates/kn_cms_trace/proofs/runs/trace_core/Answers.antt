use Rattle.std.proofs.Common.{Bool, sym, subst}
use Rattle.kn_script.specs.Scripts.{Scripted}
use Rattle.kn_cms_lists.specs.Kept.{Kept}
use Rattle.kn_cms_trace.specs.CoreRuns.{IsCoreRunOf, core_start}
use Rattle.kn_cms_trace.specs.Runners.{RanCore, TakesTurns}
use Rattle.kn_cms_trace.proofs.Fallen.{enough}
use Rattle.kn_cms_trace.proofs.Turned.{ran}
use Rattle.kn_cms_trace.proofs.runs.trace_core.Goals as goal

pub returns-clause-run : goal.returns-clause-run
returns-clause-run c =
    let script = c.args.script.now in
    let runner = c.in_ok-runner.runner in
    let takes = subst (λ (x : Scripted). TakesTurns x.turns runner c.take_turns.new.self (core_start script)) c.script.view_is
    (c.take_turns.ensures.takes (core_start script) c.in_ok-runner.ensures.start) in
    subst (λ (k : Kept). RanCore script c.is_going_on-is_spent.result k) (sym c.into_core.ensures)
    (ran script runner c.take_turns.new.self c.in_ok-runner.ensures.of_script c.take_turns.ensures.keeps takes
    c.is_going_on-is_spent.result c.is_going_on-is_spent.ensures)

pub returns-clause-spent_below : goal.returns-clause-spent_below
returns-clause-spent_below c spent =
    let script = c.args.script.now in
    let runner = c.in_ok-runner.runner in
    let takes = subst (λ (x : Scripted). TakesTurns x.turns runner c.take_turns.new.self (core_start script)) c.script.view_is
    (c.take_turns.ensures.takes (core_start script) c.in_ok-runner.ensures.start) in
    let traced = ran script runner c.take_turns.new.self c.in_ok-runner.ensures.of_script c.take_turns.ensures.keeps takes
    c.is_going_on-is_spent.result c.is_going_on-is_spent.ensures in
    enough script c.requires.good c.requires.calls traced.last (subst (λ (b : Bool). IsCoreRunOf script b traced.last) spent traced.run)
