use Rattle.kn_graph.proofs.PublicLaws.{entered_is_below, births_extend, logs_extend, calls_extend, replies_extend, entered_is_last, epochs_are_past}
use Rattle.kn_graph.proofs.laws.log_laws.Goals as goal

pub returns : goal.returns
returns c = record {
  log = logs_extend;
  calls = calls_extend;
  replies = replies_extend;
  births = births_extend;
  last = entered_is_last;
  below = entered_is_below;
  past = epochs_are_past;
}
