use Rattle.std.proofs.Common.{◌+◌, ◌^◌, ◌<◌, subst, rules}
use Rattle.kn_mark.specs.Kept.{LiesInHeap}
use Rattle.kn_mark.specs.Steps.{IsNext}
use Rattle.kn_mark.proofs.Stepping.{field_short}
use Rattle.kn_mark.proofs.marker.Marker.step.Goals as goal

pub overflow_add-result-in-LoadsField : goal.overflow_add-result-in-LoadsField
overflow_add-result-in-LoadsField c =
    let k = c.args.self.now in
    let m = c.in-LoadsField in
    let h : m.cell + 1 + m.field < 2 ^ 32 = field_short k m.cell m.field-1 m.field (subst LiesInHeap c.self.view_is c.self.invariant)
    (subst (IsNext k) m.is c.requires) in
    search (rules, h)
