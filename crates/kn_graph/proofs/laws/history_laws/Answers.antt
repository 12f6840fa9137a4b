use Rattle.kn_graph.proofs.PublicLaws.{entries_extend, histories_split, entries_lead_to_one, histories_lead_to_one}
use Rattle.kn_graph.proofs.laws.history_laws.Goals as goal

pub returns : goal.returns
returns c = record {
  extended = entries_extend;
  split = histories_split;
  one_next = entries_lead_to_one;
  one_end = histories_lead_to_one;
}
