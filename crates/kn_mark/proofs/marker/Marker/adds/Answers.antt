use Rattle.std.proofs.Common.{◌∙◌, refl, sym}
use Rattle.kn_rule.specs.Steps.{found}
use Rattle.kn_mark.proofs.Turning.{at_ref_told, goes_told, may_make, near_told}
use Rattle.kn_mark.proofs.marker.Marker.adds.Goals as goal

pub add-word-requires : goal.add-word-requires
add-word-requires g c =
    let t = g.T.Steps in
    let s = c.args.steps.now in
    let e = c.step-kind.ensures in
    may_make t.stand t.here t.did t.moved c.args.self.now s s c.requires.agrees c.args.next c.requires.next _ _ _ e.kind e.place c.requires.act
    c.lies_in_heap.ensures

pub learns-requires-clause-near : goal.learns-requires-clause-near
learns-requires-clause-near g c =
    let t = g.T.Steps in
    let e = c.step-kind.ensures in
    let m = c.add-word.ensures in
    near_told t.stand t.here t.did t.moved c.args.self.now c.args.steps.now c.add-word.new.self
    c.requires.agrees c.args.next c.requires.next _ _ _ e.kind e.place c.requires.act (found c.add-word.result m.0) c.add-word.result refl m.1

pub learns-requires-clause-at_ref : goal.learns-requires-clause-at_ref
learns-requires-clause-at_ref g c = λ z e.
    let t = g.T.Steps in
    let s = c.args.steps.now in
    at_ref_told t.stand t.here t.did t.moved c.args.self.now s s c.requires.agrees z (e ∙ sym c.requires.layouts)

pub returns : goal.returns
returns g c =
    let t = g.T.Steps in
    let e = c.step-kind.ensures in
    let m = c.add-word.ensures in
    goes_told t.stand t.here t.did t.moved c.args.self.now c.args.steps.now c.add-word.new.self
    c.requires.agrees c.args.next c.requires.next _ _ _ e.kind e.place c.requires.act (found c.add-word.result m.0) c.add-word.result refl m.1
    c.lies_in_heap.ensures m.2 c.learns.new.self (c.learns.ensures.behind (t.stand c.args.steps.now).heap c.requires.agrees.sizes c.requires.layouts)
    c.learns.result c.learns.ensures.answer
