use Rattle.std.proofs.Common.{ℕ, ◌≡◌, IfSome, rules, subst}
use Rattle.kn_base.specs.declared.numbers.Span.{Span}
use Rattle.kn_base.specs.Spans.{AreApart}
use Rattle.kn_ranges.specs.Cells.{IsTakenCell}
use Rattle.kn_extra.specs.declared.page.TheConstants.{EXTRA_CELL}
use Rattle.kn_extra.specs.ExtraState.{ExtraState}
use Rattle.kn_extra.proofs.page.ExtraPage.take.Goals as goal

pub returns-clause-others : goal.returns-clause-others
returns-clause-others c =
    let old = c.self.inside.cells in
    let new = c.take.new.self in
    let size : new.words ≡ EXTRA_CELL = search rules in
    let Kept : ℕ → Span → Type 0 = λ words other. IsTakenCell new.frame words new.spans other × IfSome c.take.result (AreApart other) in
    let others = c.take.ensures.others in
    let of_new = subst (λ (words : ℕ). (other : Span) → IsTakenCell old.frame old.words old.spans other → Kept words other) size others in
    let of_old = subst (λ (words : ℕ). (other : Span) → IsTakenCell old.frame words old.spans other → Kept EXTRA_CELL other) c.self.invariant of_new in
    let Others : ExtraState → Type 0 = λ page. (other : Span) → IsTakenCell page.frame EXTRA_CELL page.spans other → Kept EXTRA_CELL other in
    subst Others c.self.view_is of_old
