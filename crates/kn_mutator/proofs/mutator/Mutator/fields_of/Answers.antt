use Rattle.std.proofs.Common.{◌≡◌, ◌∙◌, Some, length, slice_get, sym, ap, refl}
use Rattle.std.proofs.lemmas.Bool.{ltb-true}
use Rattle.std.proofs.lemmas.List.{length-replicate}
use Rattle.std.proofs.lemmas.Option.{slice_get_read}
use Rattle.kn_layout.specs.declared.layouts.Layout.TheVariants.{Array, Fields}
use Rattle.kn_mutator.proofs.Begins.{fields_told}
use Rattle.kn_mutator.proofs.mutator.Mutator.fields_of.Goals as goal

pub returns-in-Some-Fields-clause-is : goal.returns-in-Some-Fields-clause-is
returns-in-Some-Fields-clause-is c =
    let list = c.as_slice.result.now in
    let told = c.in-Some-Fields.ensures.lookup in
    let there : slice_get list c.from.result ≡ Some (Fields c.in-Some-Fields.kinds) =
    slice_get_read list (length list) c.from.result c.in-Some-Fields.field-0.now refl (ltb-true c.from.result (length list) (sym told.0)) told.1
    ∙ ap Some c.in-Some-Fields.field-0-is in
    ap length c.as_slice-in-Some-Fields.ensures
    ∙ fields_told _ _ c.self.view_is list c.as_slice.ensures.value c.from.result c.args.layout c.from.ensures c.args.elements _ there

pub returns-in-Some-Array-clause-is : goal.returns-in-Some-Array-clause-is
returns-in-Some-Array-clause-is c =
    let list = c.as_slice.result.now in
    let told = c.in-Some-Array.ensures.lookup in
    let there : slice_get list c.from.result ≡ Some (Array c.in-Some-Array.field-0-0) =
    slice_get_read list (length list) c.from.result c.in-Some-Array.field-0.now refl (ltb-true c.from.result (length list) (sym told.0)) told.1
    ∙ ap Some c.in-Some-Array.field-0-is in
    sym (length-replicate c.args.elements c.in-Some-Array.field-0-0)
    ∙ fields_told _ _ c.self.view_is list c.as_slice.ensures.value c.from.result c.args.layout c.from.ensures c.args.elements _ there
