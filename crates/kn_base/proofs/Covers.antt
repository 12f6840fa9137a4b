-- Which words spans have, joined end to end and without the words of a cell.
use Rattle.std.proofs.Common.{ℕ, ◌<◌, ◌≤◌, ◌⊎◌, ◌↔◌, List, [], ◌∷◌, ◌++◌, min, max, inl, inr, arith}
use Rattle.std.proofs.lemmas.Bool.{lt-ltb, le-ltb, cases_lt}
use Rattle.kn_base.specs.declared.numbers.Span.{Span}
use Rattle.kn_base.specs.Spans.{end_of}
use Rattle.kn_base.specs.SpanLists.{Covers, HasWord, span_without, without, words_between}

-- the words of two lists joined end to end
pub covers-append : (front back : List Span) (word : ℕ) → Covers (front ++ back) word ↔ (Covers front word ⊎ Covers back word)
covers-append [] back word = (λ h. inr h, λ h. elim h as (λ _. Covers back word) [ inl a ↦ absurd a | inr b ↦ b ])
covers-append (s ∷ front) back word =
    let r = covers-append front back word in (
      λ h. elim h as (λ _. Covers (s ∷ front) word ⊎ Covers back word) [
        | inl a ↦ inl (inl a)
        | inr b ↦ elim (r.0 b) as (λ _. Covers (s ∷ front) word ⊎ Covers back word) [ inl x ↦ inl (inr x) | inr y ↦ inr y ]
      ],
      λ h. elim h as (λ _. Covers (s ∷ (front ++ back)) word) [
        | inl a ↦ elim a as (λ _. Covers (s ∷ (front ++ back)) word) [ inl x ↦ inl x | inr y ↦ inr (r.1 (inl y)) ]
        | inr b ↦ inr (r.1 (inr b))
      ],
    )

-- the words between two places
pub covers-words_between : (low high word : ℕ) → Covers (words_between low high) word ↔ ((low ≤ word) × (word < high))
covers-words_between low high word =
    elim (cases_lt low high) [
      | inl h ↦ rw (lt-ltb low high h) (
        λ c. elim c as (λ _. (low ≤ word) × (word < high)) [ inl has ↦ (has.0, omega (arith, has.1)) | inr never ↦ absurd never ],
        λ p. inl
            (p.0, omega (arith, p.1)),
      )
      | inr h ↦ rw (le-ltb low high h) (λ c. absurd c, λ p. absurd (omega (arith, p.0, p.1)))
    ]

-- a span without a cell has its words that are not in the cell
pub covers-span_without : (cell span : Span) (word : ℕ) → Covers (span_without cell span) word ↔ (HasWord span word × (HasWord cell word → ⊥))
covers-span_without cell span word =
    let before = covers-words_between span.start (min (end_of span) cell.start) word in
    let behind = covers-words_between (max span.start (end_of cell)) (end_of span) word in
    let parts = covers-append (words_between span.start (min (end_of span) cell.start)) (words_between (max span.start (end_of cell)) (end_of span)) word in (
      λ c. elim (parts.0 c) as (λ _. HasWord span word × (HasWord cell word → ⊥)) [
        | inl f ↦ let p = before.0 f in ((p.0, omega (arith, p.1)), λ has. omega (arith, p.1, has.0))
        | inr b ↦ let p = behind.0 b in ((omega (arith, p.0), p.1), λ has. omega (arith, p.0, has.1))
      ],
      λ h. elim (cases_lt word cell.start) as (λ _. Covers (span_without cell span) word) [
        | inl less ↦ parts.1 (inl (before.1 (h.0.0, omega (arith, h.0.1))))
        | inr more ↦ elim (cases_lt word (end_of cell)) as (λ _. Covers (span_without cell span) word) [
          | inl within ↦ absurd (h.1 (more, within))
          | inr out ↦ parts.1 (inr (behind.1 (omega (arith, h.0.0), h.0.1)))
        ]
      ],
    )

-- spans without a cell have their words that are not in the cell
pub covers-without : (cell : Span) (spans : List Span) (word : ℕ) → Covers (without cell spans) word ↔ (Covers spans word × (HasWord cell word → ⊥))
covers-without cell [] word = (λ h. absurd h, λ h. h.0)
covers-without cell (s ∷ spans) word =
    let first = covers-span_without cell s word in
    let rest = covers-without cell spans word in
    let parts = covers-append (span_without cell s) (without cell spans) word in (
      λ c. elim (parts.0 c) as (λ _. Covers (s ∷ spans) word × (HasWord cell word → ⊥)) [
        | inl f ↦ (inl (first.0 f).0, (first.0 f).1)
        | inr r ↦ (inr (rest.0 r).0, (rest.0 r).1)
      ],
      λ h. elim h.0 as (λ _. Covers (without cell (s ∷ spans)) word) [
        | inl has ↦ parts.1 (inl (first.1 (has, h.1)))
        | inr r ↦ parts.1 (inr (rest.1 (r, h.1)))
      ],
    )
