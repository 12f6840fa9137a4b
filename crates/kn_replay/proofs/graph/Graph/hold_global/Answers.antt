use Rattle.std.proofs.Common.{refl}
use Rattle.kn_replay.proofs.Changed.{global_stands}
use Rattle.kn_replay.proofs.graph.Graph.hold_global.Goals as goal

pub invariant_of-self : goal.invariant_of-self
invariant_of-self c =
    let g = c.self.inside in
    (global_stands g.ground g.objects g.holders g.paused g.done g.entered.items _ c.self.invariant
    c.args.thread c.args.i c.args.value c.set_global.new.self c.set_global.ensures (rw (← c.self.view_is) at c.requires)).together

pub returns : goal.returns
returns c =
    let g = c.self.inside in
    rw (← c.self.view_is) (record {
      after = (global_stands g.ground g.objects g.holders g.paused g.done g.entered.items _ c.self.invariant
          c.args.thread c.args.i c.args.value c.set_global.new.self c.set_global.ensures (rw (← c.self.view_is) at c.requires)).after;
      ground = refl;
    })
