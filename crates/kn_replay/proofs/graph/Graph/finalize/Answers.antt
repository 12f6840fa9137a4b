use Rattle.std.proofs.Common.{Some, refl}
use Rattle.kn_replay.specs.declared.changes.Change.TheVariants.{Finalize}
use Rattle.kn_objects.specs.Kept.{nth_object}
use Rattle.kn_replay.proofs.Changed.{object_stands}
use Rattle.kn_replay.proofs.graph.Graph.finalize.Goals as goal

pub invariant_of-self : goal.invariant_of-self
invariant_of-self c =
    let g = c.self.inside in
    (object_stands g.ground g.objects g.holders g.paused g.done g.entered.items _ c.self.invariant
    c.args.thread (Finalize c.args.n) c.args.n (record (nth_object g.objects c.args.n) { finalized = Some g.paused })
    c.finalize.new.self
    (rw (← c.self.view_is) at c.requires) refl c.finalize.ensures.after c.finalize.ensures.born c.finalize.ensures.words).together

pub returns : goal.returns
returns c =
    let g = c.self.inside in
    rw (← c.self.view_is) (record {
      after = (object_stands g.ground g.objects g.holders g.paused g.done g.entered.items _ c.self.invariant
          c.args.thread (Finalize c.args.n) c.args.n (record (nth_object g.objects c.args.n) { finalized = Some g.paused })
          c.finalize.new.self
          (rw (← c.self.view_is) at c.requires) refl c.finalize.ensures.after c.finalize.ensures.born c.finalize.ensures.words).after;
      ground = refl;
    })
