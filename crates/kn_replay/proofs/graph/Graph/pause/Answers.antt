use Rattle.std.proofs.Common.{◌≡◌, ℕ, Bool, refl, ◌∙◌}
use Rattle.kn_graph.specs.Graph.{Graph}
use Rattle.kn_graph.specs.Collections.{with_condemned}
use Rattle.kn_objects.specs.Replay.{graph_of}
use Rattle.kn_replay.specs.Seen.{condemned_by}
use Rattle.kn_replay.proofs.Pausing.{entered_known}
use Rattle.kn_replay.proofs.graph.Graph.pause.Goals as goal

pub returns-clause-applied : goal.returns-clause-applied
returns-clause-applied c =
    let g : Graph = graph_of c.args.self.now in
    let flag : ℕ → Bool = condemned_by c.condemn_unreachable.new.marks g in
    let may = c.may_pause.ensures.0 c.if-not-may_pause.false in
    let paused : Graph = record (with_condemned g flag) { paused = c.args.epoch } in
    let after : graph_of c.begin.new.self ≡ paused = c.begin.ensures.after
    ∙ (λ t. record (c.condemn_unreachable.ensures.after t) { paused = c.args.epoch }) in
    record {
      graph = paused;
      event = rw c.requires (
        may.0,
        record {
          next = may.1;
          last_done = may.2;
          flag = flag;
          condemns = c.condemn_unreachable.ensures.condemns;
          after = refl;
        },
      );
      after = entered_known paused (graph_of c.begin.new.self) (graph_of c.enter.new.self) c.args.entry.now.by.0 c.args.entry.now.epoch
          after c.enter.ensures.after;
    }
