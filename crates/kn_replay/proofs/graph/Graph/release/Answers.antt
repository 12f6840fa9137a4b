use Rattle.std.proofs.Common.{true, refl}
use Rattle.kn_replay.specs.declared.changes.Change.TheVariants.{Release}
use Rattle.kn_objects.specs.Kept.{nth_object}
use Rattle.kn_replay.proofs.Changed.{object_stands}
use Rattle.kn_replay.proofs.graph.Graph.release.Goals as goal

pub invariant_of-self : goal.invariant_of-self
invariant_of-self c =
    let g = c.self.inside in
    (object_stands g.ground g.objects g.holders g.paused g.done g.entered.items _ c.self.invariant
    c.args.thread (Release c.args.n) c.args.n (record (nth_object g.objects c.args.n) { released = true }) c.release.new.self
    (rw (← c.self.view_is) at c.requires) refl c.release.ensures.after c.release.ensures.born c.release.ensures.words).together

pub returns : goal.returns
returns c =
    let g = c.self.inside in
    rw (← c.self.view_is) (record {
      after = (object_stands g.ground g.objects g.holders g.paused g.done g.entered.items _ c.self.invariant
          c.args.thread (Release c.args.n) c.args.n (record (nth_object g.objects c.args.n) { released = true }) c.release.new.self
          (rw (← c.self.view_is) at c.requires) refl c.release.ensures.after c.release.ensures.born c.release.ensures.words).after;
      ground = refl;
    })
