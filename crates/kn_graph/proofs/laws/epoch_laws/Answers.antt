use Rattle.kn_graph.proofs.PublicLaws.{weak_reads_answer, only_pauses_condemn, condemned_was_unreachable, gone_is_condemned}
use Rattle.kn_graph.proofs.PublicLaws.{epochs_collect, object_finalized_once}
use Rattle.kn_graph.proofs.laws.epoch_laws.Goals as goal

pub returns : goal.returns
returns c = record {
  pauses = only_pauses_condemn;
  condemned = condemned_was_unreachable;
  weak = weak_reads_answer;
  gone = gone_is_condemned;
  collected = epochs_collect;
  once = object_finalized_once;
}
