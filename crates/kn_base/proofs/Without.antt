-- Spans without the words of a cell.
use Rattle.std.proofs.Common.{ℕ, ◌+◌, ◌-◌, ◌<◌, ◌≤◌, ◌≡◌, List, [], ◌∷◌, ◌++◌, min, max, refl}
use Rattle.std.proofs.Common.{ap, ◌∙◌, inl, inr, arith}
use Rattle.std.specs.List.{AllByRecursion}
use Rattle.std.proofs.lemmas.Bool.{lt-ltb, le-ltb, cases_lt}
use Rattle.std.proofs.lemmas.Grind.{flat_map-append}
use Rattle.kn_base.specs.declared.numbers.Span.{Span}
use Rattle.kn_base.specs.Spans.{end_of, AreApart, LiesIn}
use Rattle.kn_base.specs.SpanLists.{StandApart, span_without, without, words_between}
use Rattle.kn_base.proofs.Apart.{apart_append, apart_within_wider, apart_before, apart_behind, begins_behind, ends_before}

-- no words lie between a place and one that is not behind it
pub words_between_none : (low high : ℕ) → high ≤ low → words_between low high ≡ []
words_between_none low high h = rw (le-ltb low high h)

-- the words of a span lie between its ends
pub words_between_ends : (low high : ℕ) (span : Span) → low ≡ span.start → high ≡ end_of span → 0 < span.len
    → words_between low high ≡ span ∷ []
words_between_ends low high span p q h =
    let lt : low < high = omega arith in
    let len : high - span.start ≡ span.len = omega arith in
    rw (lt-ltb low high lt, p) (ap (λ n. record { start = span.start; len = n } ∷ []) len)

-- the words between two places stand apart within them
pub apart_between : (low high : ℕ) → StandApart low (high + 1) (words_between low high)
apart_between low high =
    elim (cases_lt low high) [
      | inl h ↦ rw (lt-ltb low high h) (omega arith, omega arith, omega arith, tt)
      | inr h ↦ rw (words_between_none low high h) tt
    ]

-- a span that the cell leaves out stays whole
pub span_without_apart : (cell span : Span) → 0 < span.len → AreApart cell span → span_without cell span ≡ span ∷ []
span_without_apart cell span h (inl p) =
    rw (words_between_none span.start (min (end_of span) cell.start) (omega arith))
    (words_between_ends (max span.start (end_of cell)) (end_of span) span (omega arith) refl h)
span_without_apart cell span h (inr p) =
    rw (
      words_between_none (max span.start (end_of cell)) (end_of span) (omega arith),
      words_between_ends span.start (min (end_of span) cell.start) span
          refl (omega arith) h,
    )

-- a cell that is apart from each span leaves the list as it is
pub without-apart : (cell : Span) (spans : List Span) → AllByRecursion (λ span. (0 < span.len) × AreApart cell span) spans
    → without cell spans ≡ spans
without-apart cell [] a = refl
without-apart cell (s ∷ spans) a = rw (span_without_apart cell s a.0.0 a.0.1) (ap (λ z. s ∷ z) (without-apart cell spans a.1))

-- the spans that end before a place are apart from a cell at it, and those that begin behind it are, too
apart_from_before : (place : ℕ) (cell : Span) (spans : List Span) → place ≤ cell.start
    → AllByRecursion (λ span. (0 < span.len) × (end_of span < place)) spans → AllByRecursion (λ span. (0 < span.len) × AreApart cell span) spans
apart_from_before place cell [] h a = tt
apart_from_before place cell (s ∷ spans) h a = ((a.0.0, inr (omega (arith, a.0.1))), apart_from_before place cell spans h a.1)

apart_from_behind : (place : ℕ) (cell : Span) (spans : List Span) → end_of cell ≤ place
    → AllByRecursion (λ span. (0 < span.len) × (place ≤ span.start)) spans → AllByRecursion (λ span. (0 < span.len) × AreApart cell span) spans
apart_from_behind place cell [] h a = tt
apart_from_behind place cell (s ∷ spans) h a = ((a.0.0, inl (omega (arith, a.0.1))), apart_from_behind place cell spans h a.1)

-- a span without a cell stands apart within the span's bounds
apart_span_without : (cell span : Span) → 0 < cell.len → StandApart span.start (end_of span + 1) (span_without cell span)
apart_span_without cell span h =
    let middle = max span.start (min (end_of span) cell.start + 1) in
    let before = words_between span.start (min (end_of span) cell.start) in
    let behind = words_between (max span.start (end_of cell)) (end_of span) in
    apart_append span.start middle (end_of span + 1) before behind (omega arith) (omega arith)
    (apart_within_wider span.start (min (end_of span) cell.start + 1) span.start middle before (omega arith) (omega arith)
    (apart_between span.start (min (end_of span) cell.start)))
    (apart_within_wider (max span.start (end_of cell)) (end_of span + 1) middle (end_of span + 1) behind (omega arith) (omega arith)
    (apart_between (max span.start (end_of cell)) (end_of span)))

-- spans without a cell stand apart
pub apart_without : (low high : ℕ) (cell : Span) (spans : List Span) → 0 < cell.len → StandApart low high spans
    → StandApart low high (without cell spans)
apart_without low high cell [] h a = tt
apart_without low high cell (s ∷ spans) h a =
    apart_append low (end_of s + 1) high (span_without cell s) (without cell spans) (omega (arith, a.0)) (omega (arith, a.2))
    (apart_within_wider s.start (end_of s + 1) low (end_of s + 1) (span_without cell s) a.0 (omega arith) (apart_span_without cell s h))
    (apart_without (end_of s + 1) high cell spans h a.3)

-- without a cell that lies in one span the others stay
pub without_inside : (low high : ℕ) (cell : Span) (front : List Span) (span : Span) (back : List Span) → StandApart low high (front ++ span ∷ back)
    → LiesIn cell span → without cell (front ++ span ∷ back) ≡ front ++ (span_without cell span ++ back)
without_inside low high cell front span back a inside =
    let before = without-apart cell front
    (apart_from_before span.start cell front inside.0 (ends_before low span.start front (apart_before low high front span back a))) in
    let behind = without-apart cell back
    (apart_from_behind (end_of span + 1) cell back (omega (arith, inside.1))
    (begins_behind (end_of span + 1) high back (apart_behind low high front span back a))) in
    flat_map-append (span_without cell) front (span ∷ back) ∙ rw (before, behind) refl
