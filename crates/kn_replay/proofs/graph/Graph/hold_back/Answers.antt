use Rattle.std.proofs.Common.{refl}
use Rattle.kn_replay.proofs.Changed.{back_stands}
use Rattle.kn_replay.proofs.graph.Graph.hold_back.Goals as goal

pub invariant_of-self : goal.invariant_of-self
invariant_of-self c =
    let g = c.self.inside in
    (back_stands g.ground g.objects g.holders g.paused g.done g.entered.items _ c.self.invariant
    c.args.thread c.args.b c.args.n c.set_back.new.self c.set_back.ensures (rw (← c.self.view_is) at c.requires)).together

pub returns : goal.returns
returns c =
    let g = c.self.inside in
    rw (← c.self.view_is) (record {
      after = (back_stands g.ground g.objects g.holders g.paused g.done g.entered.items _ c.self.invariant
          c.args.thread c.args.b c.args.n c.set_back.new.self c.set_back.ensures (rw (← c.self.view_is) at c.requires)).after;
      ground = refl;
    })
