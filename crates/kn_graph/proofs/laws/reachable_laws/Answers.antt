use Rattle.kn_graph.proofs.PublicLaws.{reachable_is_alive, held_is_alive}
use Rattle.kn_graph.proofs.laws.reachable_laws.Goals as goal

pub returns : goal.returns
returns c = record {
  reachable = reachable_is_alive;
  held = held_is_alive;
}
