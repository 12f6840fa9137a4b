use Rattle.std.proofs.Common.{ℕ, ◌≡◌, Some, None, Option, MatchOption, IfSome, sym, subst, arith}
use Rattle.std.specs.Option.{option_map}
use Rattle.kn_base.specs.declared.numbers.Span.{Span}
use Rattle.kn_base.specs.Spans.{AreApart}
use Rattle.kn_base.specs.SpanLists.{first_fit, front_of, without}
use Rattle.kn_ranges.specs.Cells.{IsTakenCell}
use Rattle.kn_ranges.specs.FreeSpans.{FreeSpans}
use Rattle.kn_ranges.specs.Laws.{CellsAreTaken}
use Rattle.kn_fixed.specs.FixedState.{FixedState, IsFixed}
use Rattle.kn_fixed.proofs.page.FixedPage.take.Goals as goal

-- what a cell that is taken leaves, by what was answered
kept : (frame : Span) (words : ℕ) (old new : FreeSpans) (result : Option Span) → CellsAreTaken → IsFixed frame words old
    → result ≡ option_map (front_of words) (first_fit words old.spans)
    → MatchOption result (new ≡ old) (λ cell. new ≡ record old { spans = without cell old.spans })
    → IsFixed frame words new × IfSome result (IsTakenCell frame words new.spans)
kept frame words old new None law page taken after = (subst (λ (free : FreeSpans). IsFixed frame words free) (sym after) page, tt)
kept frame words old new (Some cell) law page taken after =
    let left = law frame words old.spans cell (omega (arith, page.size)) page.cells taken in
    subst (λ (free : FreeSpans). IsFixed frame words free × IsTakenCell frame words free.spans cell) (sym after)
    (record { span = page.span; size = page.size; cells = left.0; room = page.room }, left.1)

-- what the cell that was taken leaves
left : (c : goal.After-take_first) → IsFixed c.self.inside.frame c.self.inside.words c.take_first.new.self
    × IfSome c.take_first.result (IsTakenCell c.self.inside.frame c.self.inside.words c.take_first.new.self.spans)
left c =
    let p = c.self.inside in
    let taken = c.take_first.ensures in
    kept p.frame p.words p.free c.take_first.new.self c.take_first.result c.cells_are_taken.ensures c.self.invariant taken.taken taken.after

pub invariant_of-self : goal.invariant_of-self
invariant_of-self c = (left c).0

pub returns-clause-cell : goal.returns-clause-cell
returns-clause-cell c = (left c).1

pub returns-clause-others : goal.returns-clause-others
returns-clause-others c =
    let p = c.self.inside in
    let Kept : Span → Type 0 = λ other. IsTakenCell p.frame p.words c.take_first.new.self.spans other × IfSome c.take_first.result (AreApart other) in
    let Others : FixedState → Type 0 = λ page. (other : Span) → IsTakenCell page.frame page.words page.spans other → Kept other in
    subst Others c.self.view_is (λ other taken.
    let stays = c.take_first.ensures.others other (omega (arith, taken.0.1, c.self.invariant.size.0)) taken.1 in
    ((taken.0, stays.0), stays.1))
