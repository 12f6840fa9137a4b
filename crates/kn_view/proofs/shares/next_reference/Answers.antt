use Rattle.std.proofs.Common.{◌≡◌, ◌+◌, true, false, ◌<◌, ◌∙◌, ap, sym, subst}
use Rattle.kn_graph.specs.Ground.{Ground}
use Rattle.kn_rule.specs.Decoding.{header_of}
use Rattle.kn_rule.specs.MarkedHeap.{is_of_ref, next_ref}
use Rattle.kn_rule.specs.Requests.{told_kind}
use Rattle.kn_view.proofs.Placed.{first_here, first_behind}
use Rattle.kn_view.proofs.shares.next_reference.Goals as goal

pub returns-then-is_reference : goal.returns-then-is_reference
returns-then-is_reference c = λ z same.
    let h = c.args.header in
    let i = c.loop-field.field in
    let takes : is_of_ref (told_kind z h i) ≡ true = sym (ap is_of_ref (c.kind_told.ensures z same)) ∙ sym c.if-is_reference.ensures
    in
    let near = subst (λ n. i < n) c.loop-field.invariant.1 c.loop-field-test.true in
    first_here (λ k. is_of_ref (told_kind z h k)) (header_of h).length i near takes ∙ c.loop-field.invariant.0 z same

pub loop-field-preserved : goal.loop-field-preserved
loop-field-preserved c = (step, c.loop-field.invariant.1)
  where
    step : (z : Ground) → z.layouts ≡ c.args.layouts.now → next_ref z c.args.header (c.loop-field.field + 1) ≡ next_ref z c.args.header c.args.from
    step z same =
        let h = c.args.header in
        let i = c.loop-field.field in
        let passes : is_of_ref (told_kind z h i) ≡ false =
        sym (ap is_of_ref (c.kind_told.ensures z same)) ∙ sym c.if-is_reference.ensures in
        let near = subst (λ n. i < n) c.loop-field.invariant.1 c.loop-field-test.true in
        first_behind (λ k. is_of_ref (told_kind z h k)) (header_of h).length i near passes ∙ c.loop-field.invariant.0 z same
