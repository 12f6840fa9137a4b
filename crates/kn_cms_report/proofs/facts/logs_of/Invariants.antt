use Rattle.std.proofs.Common.{◌≡◌, ◌<◌, ℕ, [], length, slice_index_or}
use Rattle.kn_graph.specs.Logs.{log_of}
use Rattle.kn_cms_report.proofs.facts.logs_of.Given as goal

abbrev pub invariant-loop-thread : goal.invariant-loop-thread
invariant-loop-thread l = record {
  count : length l.logs.items ≡ l.thread;
  each : (by : ℕ) → by < l.thread → slice_index_or l.logs.items by [] ≡ log_of by l.history;
}
