use Rattle.std.proofs.Common.{true, refl}
use Rattle.kn_replay.specs.declared.changes.Change.TheVariants.{Queue}
use Rattle.kn_objects.specs.Kept.{nth_object}
use Rattle.kn_replay.proofs.Changed.{object_stands}
use Rattle.kn_replay.proofs.graph.Graph.queue.Goals as goal

pub invariant_of-self : goal.invariant_of-self
invariant_of-self c =
    let g = c.self.inside in
    (object_stands g.ground g.objects g.holders g.paused g.done g.entered.items _ c.self.invariant
    c.args.thread (Queue c.args.n) c.args.n (record (nth_object g.objects c.args.n) { queued = true }) c.queue.new.self
    (rw (← c.self.view_is) at c.requires) refl c.queue.ensures.after c.queue.ensures.born c.queue.ensures.words).together

pub returns : goal.returns
returns c =
    let g = c.self.inside in
    rw (← c.self.view_is) (record {
      after = (object_stands g.ground g.objects g.holders g.paused g.done g.entered.items _ c.self.invariant
          c.args.thread (Queue c.args.n) c.args.n (record (nth_object g.objects c.args.n) { queued = true }) c.queue.new.self
          (rw (← c.self.view_is) at c.requires) refl c.queue.ensures.after c.queue.ensures.born c.queue.ensures.words).after;
      ground = refl;
    })
