use Rattle.std.proofs.Common.{◌≡◌, Some, slice_get, ap, sym, ◌∙◌, arith}
use Rattle.kn_objects.specs.Kept.{KeptObjects}
use Rattle.kn_objects.proofs.Fields.{field_within}
use Rattle.kn_objects.proofs.objects.Objects.place.Goals as goal

pub overflow_add-result : goal.overflow_add-result
overflow_add-result c =
    let o = c.self.inside in
    let at_n : slice_get o.kept.items c.args.n ≡ Some c.in-Some.object =
    ap (λ (v : KeptObjects). slice_get v.kept c.args.n) c.self.view_is ∙ sym c.in-Some.ensures in
    omega (arith, field_within o.kept.items _ c.args.n c.args.field c.in-Some.object c.self.invariant.laid at_n c.if-field-object.true)

pub returns-in-Some-clause-within : goal.returns-in-Some-clause-within
returns-in-Some-clause-within c =
    let o = c.self.inside in
    let at_n : slice_get o.kept.items c.args.n ≡ Some c.in-Some.object =
    ap (λ (v : KeptObjects). slice_get v.kept c.args.n) c.self.view_is ∙ sym c.in-Some.ensures in
    rw (← c.self.view_is)
    (field_within o.kept.items _ c.args.n c.args.field c.in-Some.object c.self.invariant.laid at_n c.if-field-object.true)
