use Rattle.std.proofs.Common.{◌≡◌, length, arith}
use Rattle.kn_objects.proofs.Kept.{kept_condemned, nth_condemned}
use Rattle.kn_objects.proofs.objects.Objects.condemn.Goals as goal

pub invariant_of-self : goal.invariant_of-self
invariant_of-self c =
    let o = c.self.inside in
    let same : length c.condemn_unmarked.new.kept.items ≡ length o.kept.items = omega (arith, c.condemn_unmarked.ensures.len) in
    kept_condemned o.kept.items c.condemn_unmarked.new.kept.items c.args.marks.now c.condemn_unmarked.ensures.each _ _
    o.owners.items same c.self.invariant

pub returns-clause-after : goal.returns-clause-after
returns-clause-after c =
    let o = c.self.inside in
    rw (← c.self.view_is)
    (nth_condemned o.kept.items c.condemn_unmarked.new.kept.items c.args.marks.now c.condemn_unmarked.ensures.each o.points.items o.numbers.items)
