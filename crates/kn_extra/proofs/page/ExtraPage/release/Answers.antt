use Rattle.std.proofs.Common.{ℕ, ◌≡◌, rules, subst}
use Rattle.kn_base.specs.declared.numbers.Span.{Span}
use Rattle.kn_base.specs.Spans.{AreApart}
use Rattle.kn_ranges.specs.Cells.{IsTakenCell}
use Rattle.kn_extra.specs.declared.page.TheConstants.{EXTRA_CELL}
use Rattle.kn_extra.specs.ExtraState.{ExtraState}
use Rattle.kn_extra.proofs.page.ExtraPage.release.Goals as goal

pub returns-clause-others : goal.returns-clause-others
returns-clause-others c =
    let old = c.self.inside.cells in
    let new = c.release.new.self in
    let size : new.words ≡ EXTRA_CELL = search rules in
    let Kept : ℕ → Span → Type 0 = λ words other. IsTakenCell new.frame words new.spans other in
    let Apart : Span → Type 0 = λ other. AreApart other c.args.cell in
    let others = c.release.ensures.others in
    let of_new =
    subst (λ (words : ℕ). (other : Span) → Apart other → IsTakenCell old.frame old.words old.spans other → Kept words other) size others in
    let Old : ℕ → Type 0 = λ words. (other : Span) → Apart other → IsTakenCell old.frame words old.spans other → Kept EXTRA_CELL other in
    let of_old = subst Old c.self.invariant of_new in
    let Others : ExtraState → Type 0 =
    λ page. (other : Span) → Apart other → IsTakenCell page.frame EXTRA_CELL page.spans other → Kept EXTRA_CELL other in
    subst Others c.self.view_is of_old
