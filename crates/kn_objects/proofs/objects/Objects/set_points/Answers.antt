use Rattle.std.proofs.Common.{length, arith}
use Rattle.kn_objects.specs.Kept.{AreLaid, field_spans}
use Rattle.kn_objects.proofs.Fields.{field_within, nth_points}
use Rattle.kn_objects.proofs.Kept.{found}
use Rattle.kn_objects.proofs.objects.Objects.set_points.Goals as goal

pub index_mut-requires : goal.index_mut-requires
index_mut-requires c =
    let o = c.self.inside in
    let known = found o.kept.items o.points.items o.numbers.items c.args.n c.args.field c.index.result.now
    (rw (← c.self.view_is) at c.requires) c.index.ensures in
    omega (arith, field_within o.kept.items _ c.args.n c.args.field c.index.result.now c.self.invariant.laid known.0 known.1, c.self.invariant.both)

pub overflow_add-place : goal.overflow_add-place
overflow_add-place c =
    let o = c.self.inside in
    let known = found o.kept.items o.points.items o.numbers.items c.args.n c.args.field c.index.result.now
    (rw (← c.self.view_is) at c.requires) c.index.ensures in
    omega (arith, field_within o.kept.items _ c.args.n c.args.field c.index.result.now c.self.invariant.laid known.0 known.1, c.self.invariant.both)

pub returns-clause-after : goal.returns-clause-after
returns-clause-after c =
    let o = c.self.inside in
    let known = found o.kept.items o.points.items o.numbers.items c.args.n c.args.field c.index.result.now
    (rw (← c.self.view_is) at c.requires) c.index.ensures in
    let laid : AreLaid (field_spans o.kept.items) (length o.points.items) = c.self.invariant.laid in
    rw (← c.self.view_is)
    (nth_points o.kept.items o.points.items o.numbers.items c.args.n c.args.field c.index.result.now c.args.value laid known.0 known.1)
