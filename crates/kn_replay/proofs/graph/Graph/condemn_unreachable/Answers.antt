use Rattle.kn_objects.specs.Replay.{graph_of}
use Rattle.kn_replay.proofs.Pausing.{condemns_unmarked}
use Rattle.kn_replay.proofs.graph.Graph.condemn_unreachable.Goals as goal

pub returns-clause-condemns : goal.returns-clause-condemns
returns-clause-condemns c = condemns_unmarked (graph_of c.args.self.now) c.reachable.new.marks c.reachable.ensures.marked
