-- Which cells a page gives, and what it is after one was taken.
use Rattle.std.specs.Prelude.{◌≡◌, ℕ, ◌≤◌, ◌==◌, ◌⊎◌, false, cond, Option, Some}
use Rattle.std.specs.Option.{option_map}
use Rattle.kn_base.specs.declared.numbers.Span.{Span}
use Rattle.kn_base.specs.declared.classes.TheConstants.{LEAST_CELL, MOST_CELL, NEXT_FIT_CLASS, SINGLE_CLASS, EXTRA_CLASS}
use Rattle.kn_base.specs.Pages.{FrameView}
use Rattle.kn_base.specs.Spans.{LiesIn, end_of}
use Rattle.kn_base.specs.SpanLists.{first_fit, front_of, without}
use Rattle.kn_nextfit.specs.NextFitState.{next_fit}
use Rattle.kn_page.specs.Classes.{IsSmallClass}
use Rattle.kn_rule.specs.Requests.{AreFree, IsCellOf, has_span, is_whole}

-- a page of a class is asked for cells of n words: a fixed one for those of its size, a next-fit one for longer ones, an extra
-- one for those of two words
pub record AsksFor (class n : ℕ) : Type 0 where
  pub some : LEAST_CELL ≤ n
  pub fixed : class ≤ MOST_CELL → n ≡ class
  pub next_fit : class ≡ NEXT_FIT_CLASS → NEXT_FIT_CLASS ≤ n
  pub extra : class ≡ EXTRA_CLASS → n ≡ 2

-- class b belongs to the area to which class a does
pub record IsBeside (a b : ℕ) : Type 0 where
  pub small : a ≤ NEXT_FIT_CLASS → IsSmallClass b
  pub large : a ≡ SINGLE_CLASS → b ≡ SINGLE_CLASS
  pub extra : EXTRA_CLASS ≤ a → b ≡ EXTRA_CLASS

-- a page has no cell of n words: it is single and not whole, or no free span has as many words
abbrev pub CannotServe : FrameView → ℕ → Type 0
CannotServe page n = ((page.class ≡ SINGLE_CLASS) × (is_whole page.frame page.free ≡ false)) ⊎ (has_span n page.free ≡ false)

-- a page without a cell: a next-fit one goes on behind it, and any other from the frame's start
abbrev pub cut_page : Span → FrameView → FrameView
cut_page cell page =
    record page { free = without cell page.free; cursor = cond (page.class == NEXT_FIT_CLASS) (end_of cell) page.frame.start }

-- the free span out of which a page gives a cell of n words: the first one with as many, and of a next-fit page the next one from
-- its cursor on
abbrev pub span_given : FrameView → ℕ → Option Span
span_given page n = cond (page.class == NEXT_FIT_CLASS) (next_fit n page.cursor page.free) (first_fit n page.free)

-- a cell of n words was taken from a page, at the front of that span, and this page is left; the cell has free words of the frame
-- and lies there as the cells of the class do
pub record TakesCell (page : FrameView) (n : ℕ) (left : FrameView) (cell : Span) : Type 0 where
  pub given : option_map (front_of n) (span_given page n) ≡ Some cell
  pub len : cell.len ≡ n
  pub free : AreFree page.free cell
  pub inside : LiesIn cell page.frame
  pub placed : IsCellOf page.class page.frame cell
  pub after : left ≡ cut_page cell page
