use Rattle.std.proofs.Common.{◌↔◌, IsTrue, Option, subst}
use Rattle.kn_objects.specs.declared.objects.KeptObject.{KeptObject}
use Rattle.kn_graph.specs.Collections.{IsSettled}
use Rattle.kn_objects.specs.Replay.{object_of}
use Rattle.kn_replay.proofs.graph.Graph.is_settled.Goals as goal

pub returns-in-Some : goal.returns-in-Some
returns-in-Some c =
    let r = c.args.self.now in
    subst (λ (k : Option KeptObject). IsTrue c.is_settled.result ↔ IsSettled c.args.epoch (object_of r.points r.numbers k)) c.in-Some.ensures
    (c.is_settled.ensures r.points r.numbers)
