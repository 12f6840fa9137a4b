use Rattle.std.proofs.Common.{refl}
use Rattle.kn_replay.proofs.Changed.{weak_stands}
use Rattle.kn_replay.proofs.graph.Graph.hold_weak.Goals as goal

pub invariant_of-self : goal.invariant_of-self
invariant_of-self c =
    let g = c.self.inside in
    (weak_stands g.ground g.objects g.holders g.paused g.done g.entered.items _ c.self.invariant
    c.args.thread c.args.w c.args.n c.set_weak.new.self c.set_weak.ensures (rw (← c.self.view_is) at c.requires)).together

pub returns : goal.returns
returns c =
    let g = c.self.inside in
    rw (← c.self.view_is) (record {
      after = (weak_stands g.ground g.objects g.holders g.paused g.done g.entered.items _ c.self.invariant
          c.args.thread c.args.w c.args.n c.set_weak.new.self c.set_weak.ensures (rw (← c.self.view_is) at c.requires)).after;
      ground = refl;
    })
