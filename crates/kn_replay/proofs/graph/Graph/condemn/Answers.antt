use Rattle.kn_replay.proofs.Pausing.{condemned_after, condemned_fits}
use Rattle.kn_replay.proofs.graph.Graph.condemn.Goals as goal

pub invariant_of-self : goal.invariant_of-self
invariant_of-self c =
    let g = c.self.inside in
    condemned_fits g.ground g.objects g.holders g.paused g.done g.entered.items _ c.self.invariant
    c.condemn.new.self c.args.marks.now c.condemn.ensures.after c.condemn.ensures.born c.condemn.ensures.words

pub returns-clause-after : goal.returns-clause-after
returns-clause-after c =
    let g = c.self.inside in
    rw (← c.self.view_is)
    (condemned_after g.ground g.objects g.holders g.paused g.done g.entered.items _ c.self.invariant
    c.condemn.new.self c.args.marks.now c.condemn.ensures.after c.condemn.ensures.born c.condemn.ensures.words)
