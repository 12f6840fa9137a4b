use Rattle.std.proofs.Common.{length, refl, ap}
use Rattle.kn_base.specs.Functions.{upd}
use Rattle.kn_replay.specs.declared.changes.Change.TheVariants.{Number}
use Rattle.kn_objects.specs.Kept.{nth_object}
use Rattle.kn_replay.proofs.Changed.{object_stands}
use Rattle.kn_replay.proofs.graph.Graph.set_number.Goals as goal

pub invariant_of-self : goal.invariant_of-self
invariant_of-self c =
    let g = c.self.inside in
    (object_stands g.ground g.objects g.holders g.paused g.done g.entered.items _ c.self.invariant
    c.args.thread (Number c.args.n c.args.field c.args.value) c.args.n
    (record (nth_object g.objects c.args.n) { number = upd (nth_object g.objects c.args.n).number c.args.field c.args.value })
    c.set_number.new.self
    (rw (← c.self.view_is) at c.requires) refl c.set_number.ensures.after (ap length c.set_number.ensures.kept) c.set_number.ensures.words).together

pub returns : goal.returns
returns c =
    let g = c.self.inside in
    rw (← c.self.view_is) (record {
      after = (object_stands g.ground g.objects g.holders g.paused g.done g.entered.items _ c.self.invariant
          c.args.thread (Number c.args.n c.args.field c.args.value) c.args.n
          (record (nth_object g.objects c.args.n) {
            number = upd (nth_object g.objects c.args.n).number c.args.field c.args.value;
          })
          c.set_number.new.self
          (rw (← c.self.view_is) at c.requires) refl c.set_number.ensures.after
          (ap length c.set_number.ensures.kept) c.set_number.ensures.words).after;
      ground = refl;
    })
