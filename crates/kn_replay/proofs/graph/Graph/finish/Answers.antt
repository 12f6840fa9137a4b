use Rattle.std.proofs.Common.{refl}
use Rattle.kn_replay.proofs.Changed.{finish_stands}
use Rattle.kn_replay.proofs.graph.Graph.finish.Goals as goal

pub invariant_of-self : goal.invariant_of-self
invariant_of-self c =
    let g = c.self.inside in
    (finish_stands g.ground g.objects g.holders g.paused g.done g.entered.items _ c.self.invariant
    c.args.thread c.args.epoch).together

pub returns : goal.returns
returns c = rw (← c.self.view_is) (record { after = refl; ground = refl })
