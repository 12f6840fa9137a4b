use Rattle.std.proofs.Common.{◌+◌, ◌^◌, ◌<◌, List, length, sum_by, ap, sym, subst}
use Rattle.kn_graph.specs.declared.entries.Entry.{Entry}
use Rattle.kn_graph.specs.Logs.{LogsFit}
use Rattle.kn_script.specs.Scripts.{Scripted}
use Rattle.kn_trace.specs.Between.{TakesAll, trace_of}
use Rattle.kn_trace.proofs.Ends.{complete, few, fit, ground_is, legal, partial}
use Rattle.kn_trace.proofs.Starting.{ended_where, has_run}
use Rattle.kn_trace.proofs.runs.trace.Goals as goal

pub returns : goal.returns
returns c =
    let now = c.args.script.now in
    let good = c.requires.good in
    let first = trace_of c.in_ok-opened.opened.board c.in_ok-opened.opened.actors in
    let last = trace_of c.take_turns-board.result c.take_turns-board.new.self in
    let start = c.in_ok-opened.ensures.start in
    let taken = c.take_turns-board.ensures in
    let takes = subst (λ n. TakesAll n first last) (ap (λ (x : Scripted). x.turns) c.script.view_is) taken.takes in
    let sound = c.rule_holds.ensures in
    let is_spent = c.is_going_on-is_spent.result in
    let is = c.is_going_on-is_spent.ensures in
    record {
      heap = ground_is now good first last start taken.stays sound taken.holds;
      run = has_run now is_spent first last start takes is;
      legal = legal now good first last start taken.stays sound taken.holds;
      logs = subst (λ (logs : List (List Entry)). LogsFit (now.sizes.threads + 2) logs last.board.history) (sym c.in_ok-logs.ensures)
          (fit now good first last start taken.stays sound taken.holds);
      complete = λ is_over. complete now good first last start taken.stays sound taken.holds (ended_where is_spent last.mutators last.collector is is_over);
      partial = partial now good first last start taken.stays sound taken.holds;
      few = subst (λ (logs : List (List Entry)). sum_by (λ (log : List Entry). length log) logs < 2 ^ 32) (sym c.in_ok-logs.ensures)
          (few now good first last start taken.stays sound taken.holds);
    }
