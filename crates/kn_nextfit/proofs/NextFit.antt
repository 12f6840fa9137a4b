-- Spans from an address on.
use Rattle.std.proofs.Common.{ℕ, ◌<◌, List, [], ◌∷◌, All, inl, inr}
use Rattle.std.specs.List.{AllByRecursion}
use Rattle.std.proofs.lemmas.Bool.{lt-leb, le-leb, cases_lt}
use Rattle.std.proofs.lemmas.List.Elements.{recursion_from_All, All-from_recursion}
use Rattle.kn_base.specs.declared.numbers.Span.{Span}
use Rattle.kn_base.specs.SpanLists.{spans_from}

-- what holds of each span holds of each from an address on
each_from : (P : Span → Type 0) (low : ℕ) (spans : List Span) → AllByRecursion P spans → AllByRecursion P (spans_from low spans)
each_from P low [] a = tt
each_from P low (s ∷ spans) a =
    elim (cases_lt s.start low) [
      | inl h ↦ rw (lt-leb low s.start h) (each_from P low spans a.1)
      | inr h ↦ rw (le-leb low s.start h) (a.0, each_from P low spans a.1)
    ]

-- spans that are all too short are too short from an address on
pub short_from : (low n : ℕ) (spans : List Span) → All (λ span. span.len < n) spans → All (λ span. span.len < n) (spans_from low spans)
short_from low n spans a =
    let Short : Span → Type 0 = λ span. span.len < n in
    All-from_recursion Short (spans_from low spans) (each_from Short low spans (recursion_from_All Short spans a))
