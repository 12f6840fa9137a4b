use Rattle.std.proofs.Common.{Some, refl, ap}
use Rattle.std.specs.Option.{option_map}
use Rattle.std.proofs.lemmas.Option.{slice_get_read}
use Rattle.kn_objects.specs.Kept.{cell_of, span_of_fields}
use Rattle.kn_objects.proofs.Fields.{nth_replaced}
use Rattle.kn_objects.proofs.Kept.{kept_replaced}
use Rattle.kn_objects.proofs.objects.Objects.tie.Goals as goal

pub invariant_of-self : goal.invariant_of-self
invariant_of-self c =
    let o = c.self.inside in
    let object = c.index-object.result.now in
    let born = rw (← c.self.view_is) at c.requires in
    let at_n = slice_get_read o.kept.items _ c.args.n object refl born c.index-object.ensures in
    kept_replaced o.kept.items _ _ o.owners.items c.args.n (record object { tie = Some (c.args.cleaner, c.args.number) }) born
    (ap (option_map span_of_fields) at_n) (ap cell_of at_n) c.self.invariant

pub returns-clause-after : goal.returns-clause-after
returns-clause-after c =
    let o = c.self.inside in
    let object = c.index-object.result.now in
    let born = rw (← c.self.view_is) at c.requires in
    let at_n = slice_get_read o.kept.items _ c.args.n object refl born c.index-object.ensures in
    rw (← c.self.view_is, at_n) (nth_replaced o.kept.items o.points.items o.numbers.items c.args.n
    (record object { tie = Some (c.args.cleaner, c.args.number) }) born)
