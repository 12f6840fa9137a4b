use Rattle.std.proofs.Common.{ℕ, ◌≡◌, List, [], ◌∷◌, rules, refl, sym, subst, inl, inr, arith}
use Rattle.std.proofs.lemmas.Bool.{cases_lt}
use Rattle.std.proofs.lemmas.List.Elements.{All-from_recursion}
use Rattle.kn_base.specs.declared.numbers.Span.{Span}
use Rattle.kn_base.specs.Spans.{AreApart}
use Rattle.kn_ranges.specs.Cells.{LeavesWholeCells}
use Rattle.kn_pages_example.proofs.cells_of_one_size.Goals as goal

-- the frame, its first cell, and the words behind that cell
frame : Span
frame = record { start = 1; len = 16 }

first : Span
first = record { start = 1; len = 4 }

behind : Span
behind = record { start = 5; len = 12 }

-- the words that are not behind the first cell are in it
leaves_first : LeavesWholeCells frame 4 (behind ∷ [])
unfolding frame first behind
leaves_first word within free =
    elim (cases_lt word 5) [
      | inl less ↦
          let apart = All-from_recursion (AreApart first) (behind ∷ []) (inl (omega arith), tt) in
          (first, (((0, refl), refl, omega arith), apart), (omega (arith, within.0), omega arith))
      | inr more ↦ absurd (free (inl (omega arith, omega (arith, within.1))))
    ]

pub reset-requires-clause-cells : goal.reset-requires-clause-cells
unfolding frame behind
reset-requires-clause-cells g c =
    let page = c.take-4.new.self in
    let same_frame : page.frame ≡ frame = search rules in
    let same_words : page.words ≡ 4 = search rules in
    let same_spans : c.in_ok-swept.swept.spans ≡ behind ∷ [] = search rules in
    subst (λ (f : Span). LeavesWholeCells f page.words c.in_ok-swept.swept.spans) (sym same_frame)
    (subst (λ (n : ℕ). LeavesWholeCells frame n c.in_ok-swept.swept.spans) (sym same_words)
    (subst (λ (spans : List Span). LeavesWholeCells frame 4 spans) (sym same_spans) leaves_first))
