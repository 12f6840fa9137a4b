use Rattle.std.proofs.Common.{◌<◌, sym, subst, arith}
use Rattle.kn_base.specs.declared.numbers.Span.{Span}
use Rattle.kn_base.specs.Spans.{AreApart}
use Rattle.kn_ranges.specs.Cells.{IsTakenCell}
use Rattle.kn_fixed.specs.FixedState.{FixedState}
use Rattle.kn_fixed.proofs.page.FixedPage.release.Goals as goal

pub put-requires-clause-room : goal.put-requires-clause-room
put-requires-clause-room c =
    let p = c.self.inside in
    let taken = subst (λ (s : FixedState). IsTakenCell s.frame s.words s.spans c.args.cell) (sym c.self.view_is) c.requires in
    (c.cells_are_released.ensures p.frame p.words p.free c.args.cell c.self.invariant.size.0 c.self.invariant.room c.self.invariant.cells taken).1

pub invariant_of-self : goal.invariant_of-self
invariant_of-self c =
    let p = c.self.inside in
    let taken = subst (λ (s : FixedState). IsTakenCell s.frame s.words s.spans c.args.cell) (sym c.self.view_is) c.requires in
    let kept = c.cells_are_released.ensures p.frame p.words p.free c.args.cell c.self.invariant.size.0 c.self.invariant.room c.self.invariant.cells taken in
    rw c.put.ensures.after (record { span = c.self.invariant.span; size = c.self.invariant.size; cells = kept.0; room = c.self.invariant.room })

pub returns-clause-others : goal.returns-clause-others
returns-clause-others c =
    let p = c.self.inside in
    let Kept : Span → Type 0 = λ other. IsTakenCell p.frame p.words c.put.new.self.spans other in
    let Others : FixedState → Type 0 =
    λ page. (other : Span) → AreApart other c.args.cell → IsTakenCell page.frame page.words page.spans other → Kept other in
    subst Others c.self.view_is (λ other apart taken.
    let some : 0 < other.len = omega (arith, taken.0.1, c.self.invariant.size.0) in
    (taken.0, c.put.ensures.others other some apart taken.1))
