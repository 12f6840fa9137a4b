use Rattle.std.proofs.Common.{length, refl, ap}
use Rattle.kn_base.specs.Functions.{upd}
use Rattle.kn_replay.specs.declared.changes.Change.TheVariants.{Points}
use Rattle.kn_objects.specs.Kept.{nth_object}
use Rattle.kn_replay.proofs.Changed.{object_stands}
use Rattle.kn_replay.proofs.graph.Graph.set_points.Goals as goal

pub invariant_of-self : goal.invariant_of-self
invariant_of-self c =
    let g = c.self.inside in
    (object_stands g.ground g.objects g.holders g.paused g.done g.entered.items _ c.self.invariant
    c.args.thread (Points c.args.n c.args.field c.args.value) c.args.n
    (record (nth_object g.objects c.args.n) { points = upd (nth_object g.objects c.args.n).points c.args.field c.args.value })
    c.set_points.new.self
    (rw (← c.self.view_is) at c.requires) refl c.set_points.ensures.after (ap length c.set_points.ensures.kept) c.set_points.ensures.words).together

pub returns : goal.returns
returns c =
    let g = c.self.inside in
    rw (← c.self.view_is) (record {
      after = (object_stands g.ground g.objects g.holders g.paused g.done g.entered.items _ c.self.invariant
          c.args.thread (Points c.args.n c.args.field c.args.value) c.args.n
          (record (nth_object g.objects c.args.n) {
            points = upd (nth_object g.objects c.args.n).points c.args.field c.args.value;
          })
          c.set_points.new.self
          (rw (← c.self.view_is) at c.requires) refl c.set_points.ensures.after
          (ap length c.set_points.ensures.kept) c.set_points.ensures.words).after;
      ground = refl;
    })
