use Rattle.std.proofs.Common.{◌+◌, ◌*◌, sym, ap, ◌∙◌, subst}
use Rattle.kn_rule.specs.declared.steps.Action.TheVariants.{Swaps}
use Rattle.kn_rule.specs.MarkSteps.{child_after}
use Rattle.kn_mark.specs.declared.next.Next.TheVariants.{Meets, Adds, Grays, LoadsRoot, LoadsHeader, LoadsField, Claims, LooksAt}
use Rattle.kn_mark.specs.Kept.{Kept}
use Rattle.kn_mark.specs.Steps.{IsNext, NamesNear}
use Rattle.kn_mark.proofs.Sharing.{child_near, field_read, root_short, told}
use Rattle.kn_mark.proofs.marker.Marker.work_behind.Goals as goal

pub child_after-requires-clause-near : goal.child_after-requires-clause-near
child_after-requires-clause-near c =
    let i = c.self.inside in
    child_near i.sizes c.self.invariant.good i.work.doing i.work.child c.self.invariant.child

pub child_after-requires-in-Grays-clause-near : goal.child_after-requires-in-Grays-clause-near
child_after-requires-in-Grays-clause-near c =
    let i = c.self.inside in
    child_near i.sizes c.self.invariant.good i.work.doing i.work.child c.self.invariant.child

pub root_read-requires-clause-word : goal.root_read-requires-clause-word
root_read-requires-clause-word c =
    let f = c.self.inside in
    let i : Kept = record { sizes = f.sizes; work = f.work; stage = f.stage; hints = f.hints.items; cursor = f.cursor } in
    let m = c.in-LoadsRoot in
    let k = c.args.self.now in
    let w = c.args.word in
    let e = sym c.self.view_is in
    let h = subst (λ (q : Kept). IsNext q (LoadsRoot m.field-0 m.field-1)) e (subst (IsNext k) m.is c.requires.next) in
    let near = subst (λ (q : Kept). NamesNear q (LoadsRoot m.field-0 m.field-1) w) e (subst (λ n. NamesNear k n w) m.is c.requires.near) in
    root_short i m.field-0 m.field-1 w c.self.invariant.good h near

pub body_read-requires-in-LoadsField : goal.body_read-requires-in-LoadsField
body_read-requires-in-LoadsField c =
    let f = c.self.inside in
    let i : Kept = record { sizes = f.sizes; work = f.work; stage = f.stage; hints = f.hints.items; cursor = f.cursor } in
    let m = c.in-LoadsField in
    let k = c.args.self.now in
    let w = c.args.word in
    let e = sym c.self.view_is in
    let h = subst (λ (q : Kept). IsNext q (LoadsField m.field-0 m.field-1 m.field-2)) e (subst (IsNext k) m.is c.requires.next) in
    let near = subst (λ (q : Kept). NamesNear q (LoadsField m.field-0 m.field-1 m.field-2) w) e
    (subst (λ n. NamesNear k n w) m.is c.requires.near) in
    field_read i m.field-0 m.field-1 m.field-2 w c.self.invariant.good h near

pub returns-in-Meets : goal.returns-in-Meets
returns-in-Meets c = λ z s e.
    told z c.args.self.now _ c.self.view_is s (Meets c.in-Meets.child) c.args.next c.in-Meets.is c.args.word c.requires.next
    c.child_after.result (c.child_after.ensures z e)

pub returns-in-Adds : goal.returns-in-Adds
returns-in-Adds c = λ z s e.
    told z c.args.self.now _ c.self.view_is s (Adds c.in-Adds.field-0 c.in-Adds.field-1) c.args.next c.in-Adds.is c.args.word c.requires.next
    c.reserved.result (c.reserved.ensures z c.args.word)

pub returns-in-Grays : goal.returns-in-Grays
returns-in-Grays c = λ z s e.
    let w = c.args.word in
    let m = c.in-Grays in
    let i = c.self.inside.work in
    told z c.args.self.now _ c.self.view_is s (Grays m.child m.mark) c.args.next m.is w c.requires.next c.child_after-in-Grays.result
    (c.child_after-in-Grays.ensures z e ∙ ap (λ n. child_after z i w i.child m.child (Swaps m.mark (4 * n + 1))) c.from.ensures)

pub returns-in-LoadsRoot : goal.returns-in-LoadsRoot
returns-in-LoadsRoot c = λ z s e.
    let m = c.in-LoadsRoot in
    told z c.args.self.now _ c.self.view_is s (LoadsRoot m.field-0 m.field-1) c.args.next m.is c.args.word c.requires.next
    c.root_read.result (c.root_read.ensures z (s ∙ sym (ap (λ (q : Kept). q.sizes) c.self.view_is)) e)

pub returns-in-LoadsHeader : goal.returns-in-LoadsHeader
returns-in-LoadsHeader c = λ z s e.
    told z c.args.self.now _ c.self.view_is s (LoadsHeader c.in-LoadsHeader.field-0) c.args.next c.in-LoadsHeader.is c.args.word
    c.requires.next c.body_read.result (c.body_read.ensures z e)

pub returns-in-LoadsField : goal.returns-in-LoadsField
returns-in-LoadsField c = λ z s e.
    let m = c.in-LoadsField in
    told z c.args.self.now _ c.self.view_is s (LoadsField m.field-0 m.field-1 m.field-2) c.args.next m.is c.args.word c.requires.next
    c.body_read-in-LoadsField.result (c.body_read-in-LoadsField.ensures z e)

pub returns-in-Claims : goal.returns-in-Claims
returns-in-Claims c = λ z s e.
    told z c.args.self.now _ c.self.view_is s (Claims c.in-Claims.set c.in-Claims.old) c.args.next c.in-Claims.is c.args.word
    c.requires.next c.moved_set.result (c.moved_set.ensures z)

pub returns-in-LooksAt : goal.returns-in-LooksAt
returns-in-LooksAt c = λ z s e.
    told z c.args.self.now _ c.self.view_is s (LooksAt c.in-LooksAt.set) c.args.next c.in-LooksAt.is c.args.word
    c.requires.next c.moved_set-in-LooksAt.result (c.moved_set-in-LooksAt.ensures z)
