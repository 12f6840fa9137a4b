use Rattle.std.proofs.Common.{ap, subst}
use Rattle.kn_graph.specs.Arguments.{IsArrayLayout, IsFieldsLayout, IsInRange}
use Rattle.kn_graph.specs.Counts.{makes_object}
use Rattle.kn_graph.specs.Graph.{length_for}
use Rattle.kn_graph.specs.Ground.{IsGoodGround}
use Rattle.kn_rule.specs.Requests.{birth_of}
use Rattle.kn_mutator.specs.Mutating.{Mutating}
use Rattle.kn_mutator.proofs.Begins.{layout_near, request_is}
use Rattle.kn_mutator.proofs.mutator.Mutator.request_of.Goals as goal

pub returns-in-New : goal.returns-in-New
returns-in-New c =
    let z = c.args.self.now.heap in
    let layout = c.in-New.layout in
    let good = subst (λ (m : Mutating). IsGoodGround m.heap) c.self.view_is c.self.invariant.0 in
    request_is z c.args.call c.in-New.field-0 layout (length_for z layout 0) c.request_for.result (ap makes_object c.in-New.is)
    (ap (birth_of z) c.in-New.is)
    (layout_near z.layouts layout IsFieldsLayout (λ h. h) (subst (IsInRange z) c.in-New.is c.requires).1.0 good.few_layouts)
    c.request_for.ensures.few c.request_for.ensures.request

pub returns-in-NewArray : goal.returns-in-NewArray
returns-in-NewArray c =
    let z = c.args.self.now.heap in
    let layout = c.in-NewArray.layout in
    let len = length_for z layout c.in-NewArray.length in
    let good = subst (λ (m : Mutating). IsGoodGround m.heap) c.self.view_is c.self.invariant.0 in
    request_is z c.args.call c.in-NewArray.field-0 layout len c.request_for-in-NewArray.result (ap makes_object c.in-NewArray.is)
    (ap (birth_of z) c.in-NewArray.is)
    (layout_near z.layouts layout IsArrayLayout (λ h. h) (subst (IsInRange z) c.in-NewArray.is c.requires).1.0 good.few_layouts)
    c.request_for-in-NewArray.ensures.few c.request_for-in-NewArray.ensures.request
