use Rattle.std.proofs.Common.{◌≡◌, ap, ◌∙◌}
use Rattle.kn_graph.specs.Graph.{Graph, with_entered}
use Rattle.kn_objects.specs.Replay.{Replay, graph_of}
use Rattle.kn_replay.specs.ChangesMade.{changed}
use Rattle.kn_replay.proofs.Answering.{answered_as}
use Rattle.kn_replay.proofs.graph.Graph.answer.Goals as goal

pub returns-clause-answers : goal.returns-clause-answers
returns-clause-answers c =
    let g : Graph = graph_of c.args.self.now in
    let paused : c.self.inside.paused ≡ c.args.self.now.paused = ap (λ (r : Replay). r.paused) c.self.view_is in
    let entered : graph_of c.enter.new.self ≡ with_entered (changed c.args.by.0 c.plan-plan.result.change g) c.args.by.0 g.paused =
    c.enter.ensures.after ∙ (λ t. with_entered (c.in_ok-carry_out.ensures.after t) c.args.by.0 (paused t)) in
    answered_as c.args.self.now.ground c.args.by.0 c.args.call.now c.args.address c.args.seen.now g c.plan-plan.result.reply
    (changed c.args.by.0 c.plan-plan.result.change g) (graph_of c.enter.new.self)
    c.requires.thread c.requires.range c.requires.seen c.plan-plan.ensures.is entered
