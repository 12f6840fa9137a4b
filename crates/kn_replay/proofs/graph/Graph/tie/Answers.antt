use Rattle.std.proofs.Common.{Some, refl}
use Rattle.kn_replay.specs.declared.changes.Change.TheVariants.{Tie}
use Rattle.kn_objects.specs.Kept.{nth_object}
use Rattle.kn_replay.proofs.Changed.{object_stands}
use Rattle.kn_replay.proofs.graph.Graph.tie.Goals as goal

pub invariant_of-self : goal.invariant_of-self
invariant_of-self c =
    let g = c.self.inside in
    (object_stands g.ground g.objects g.holders g.paused g.done g.entered.items _ c.self.invariant
    c.args.thread (Tie c.args.n c.args.cleaner c.args.number) c.args.n
    (record (nth_object g.objects c.args.n) { tie = Some (c.args.cleaner, c.args.number) }) c.tie.new.self
    (rw (← c.self.view_is) at c.requires) refl c.tie.ensures.after c.tie.ensures.born c.tie.ensures.words).together

pub returns : goal.returns
returns c =
    let g = c.self.inside in
    rw (← c.self.view_is) (record {
      after = (object_stands g.ground g.objects g.holders g.paused g.done g.entered.items _ c.self.invariant
          c.args.thread (Tie c.args.n c.args.cleaner c.args.number) c.args.n
          (record (nth_object g.objects c.args.n) { tie = Some (c.args.cleaner, c.args.number) }) c.tie.new.self
          (rw (← c.self.view_is) at c.requires) refl c.tie.ensures.after c.tie.ensures.born c.tie.ensures.words).after;
      ground = refl;
    })
