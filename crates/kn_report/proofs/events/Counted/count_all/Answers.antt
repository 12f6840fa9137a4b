use Rattle.std.proofs.Common.{arith, ap, length, ◌≤◌}
use Rattle.std.proofs.lemmas.List.Sums.{count_by-le-length, sum_by_more_le_part}
use Rattle.kn_graph.specs.declared.entries.Entry.{Entry}
use Rattle.std.specs.Prelude.{List}
use Rattle.kn_report.specs.Reports.{is_of, count_in}
use Rattle.kn_report.proofs.events.Counted.count_all.Goals as goal

-- the count so far and the next log's entries are at most the entries of all logs
pub overflow_add-count : goal.overflow_add-count
overflow_add-count c =
    let few = λ (log : List Entry). count_by-le-length (λ (e : Entry). is_of c.args.self e.what) log in
    let all = sum_by_more_le_part (count_in c.args.self) (λ (log : List Entry). length log) c.args.logs.now c.loop-log.log-index c.log-item.result
    c.loop-log-test.true few in
    let next : length c.as_slice.result.now ≤ length c.log-item.result = omega (arith, ap (λ (log : List Entry). length log) c.as_slice.ensures) in
    let here = ap (λ (log : List Entry). length log) c.log-item.is in
    omega (arith, all, next, here, few c.as_slice.result.now, c.requires, c.count.ensures, c.loop-log.invariant)
