use Rattle.std.proofs.Common.{◌≡◌, ◌+◌, length, refl, arith}
use Rattle.kn_objects.proofs.Frames.{frame_within}
use Rattle.kn_replay.proofs.Changed.{birth_stands}
use Rattle.kn_replay.proofs.graph.Graph.bear.Goals as goal

pub bear-requires-clause-within : goal.bear-requires-clause-within
bear-requires-clause-within c =
    let fit = rw (← c.self.view_is) at c.requires.fit in
    let frame = fit.2.in_frame in
    let within = frame_within c.self.inside.ground.sizes frame.frame frame.words frame.is_for_cells frame.is_frame in
    omega (arith, within, frame.inside.1, c.self.invariant.words)

pub invariant_of-self-2 : goal.invariant_of-self-2
invariant_of-self-2 c =
    let g = c.self.inside in
    let places : length c.add_place.new.work.items ≡ length g.work.items + 1 =
    omega (arith, c.add_place.ensures, c.reserve.ensures.len) in
    rw places
    (birth_stands g.ground g.objects g.holders g.paused g.done g.entered.items _ c.self.invariant
    c.args.thread c.args.r c.args.new c.bear.new.self c.set_local.new.self (rw c.born-n.ensures at c.set_local.ensures)
    (rw (← c.self.view_is) at c.requires.fit)
    c.in_ok-bear.ensures.after c.in_ok-bear.ensures.born c.in_ok-bear.ensures.words).together

pub returns : goal.returns
returns c =
    let g = c.self.inside in
    rw (← c.self.view_is) (record {
      after = (birth_stands g.ground g.objects g.holders g.paused g.done g.entered.items _ c.self.invariant
          c.args.thread c.args.r c.args.new c.bear.new.self c.set_local.new.self (rw c.born-n.ensures at c.set_local.ensures)
          (rw (← c.self.view_is) at c.requires.fit)
          c.in_ok-bear.ensures.after c.in_ok-bear.ensures.born c.in_ok-bear.ensures.words).after;
      ground = refl;
    })
