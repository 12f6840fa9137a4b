-- Which words a list of spans has, and what is apart from them.
use Rattle.std.proofs.Common.{ℕ, ◌+◌, ◌<◌, ◌≤◌, ◌≡◌, ◌⊎◌, ◌↔◌, List, [], ◌∷◌, ◌++◌, max, if◌then◌else◌}
use Rattle.std.proofs.Common.{nat_lt, inl, inr, arith}
use Rattle.std.specs.List.{AllByRecursion}
use Rattle.std.proofs.lemmas.Bool.{lt-ltb, le-ltb, cases_lt}
use Rattle.kn_base.specs.declared.numbers.Span.{Span}
use Rattle.kn_base.specs.Spans.{end_of, AreApart}
use Rattle.kn_base.specs.SpanLists.{Covers, HasWord, StandApart, joined, put_in, without}
use Rattle.kn_base.proofs.Covers.{covers-append, covers-without}
use Rattle.kn_base.proofs.Apart.{apart_before, apart_behind, ends_before, words_from}
use Rattle.kn_ranges.proofs.Putting.{apart_put_in}
use Rattle.kn_base.proofs.Without.{apart_without}

-- spans that end before a place do not have the word before it, nor a later one
pub not_before : (spans : List Span) (place word : ℕ) → AllByRecursion (λ span. (0 < span.len) × (end_of span < place)) spans → place ≤ word + 1
    → Covers spans word → ⊥
not_before [] place word a h c = c
not_before (s ∷ spans) place word a h (inl has) = omega (arith, a.0.1, has.1)
not_before (s ∷ spans) place word a h (inr rest) = not_before spans place word a.1 h rest

-- neither the word before a span of the list nor the one behind it is in the list
pub not_beside : (low high : ℕ) (front : List Span) (span : Span) (back : List Span) (word : ℕ) → StandApart low high (front ++ span ∷ back)
    → (word + 1 ≡ span.start) ⊎ (word ≡ end_of span) → Covers (front ++ span ∷ back) word → ⊥
not_beside low high front span back word a h covers =
    let before = ends_before low span.start front (apart_before low high front span back a) in
    let behind = apart_behind low high front span back a in
    let beside : (span.start ≤ word + 1) × (word < end_of span + 1) × (HasWord span word → ⊥) =
    elim h as (λ _. (span.start ≤ word + 1) × (word < end_of span + 1) × (HasWord span word → ⊥)) [
      | inl e ↦ (omega arith, omega arith, λ has. omega (arith, has.0))
      | inr e ↦ (omega arith, omega arith, λ has. omega (arith, has.1))
    ] in
    elim ((covers-append front (span ∷ back) word).0 covers) as (λ _. ⊥) [
      | inl f ↦ not_before front span.start word before beside.0 f
      | inr r ↦ elim r as (λ _. ⊥) [
        | inl has ↦ beside.2 has
        | inr b ↦ let from = words_from (end_of span + 1) high back word behind b in omega (arith, beside.1, from)
      ]
    ]

-- two spans with no word between them, joined, have the words of both
pub has-joined : (a b : Span) (word : ℕ) → b.start ≤ end_of a → a.start ≤ end_of b →
    HasWord (joined a b) word ↔ (HasWord a word ⊎ HasWord b word)
has-joined a b word p q = (
  λ h. elim (cases_lt word (end_of a)) as (λ _. HasWord a word ⊎ HasWord b word) [
    | inl less ↦ elim (cases_lt word a.start) as (λ _. HasWord a word ⊎ HasWord b word)
        [ inl l ↦ inr (omega (arith, h.0, h.1), omega (arith, h.0, h.1)) | inr m ↦ inl (m, less) ]
    | inr more ↦ inr (omega (arith, h.0, h.1), omega (arith, h.0, h.1))
  ],
  λ h. elim h as (λ _. HasWord (joined a b) word)
      [ inl x ↦ (omega (arith, x.0, x.1), omega (arith, x.0, x.1)) | inr y ↦ (omega (arith, y.0, y.1), omega (arith, y.0, y.1)) ],
)

-- a span put in adds its words
pub covers-put_in : (new : Span) (spans : List Span) (word : ℕ) → Covers (put_in new spans) word ↔ (HasWord new word ⊎ Covers spans word)
covers-put_in new [] word = (λ h. h, λ h. h)
covers-put_in new (s ∷ spans) word =
    elim (cases_lt (end_of new) s.start) [
      | inl h ↦ rw (lt-ltb (end_of new) s.start h) (λ c. c, λ c. c)
      | inr h ↦ rw (le-ltb (end_of new) s.start h)
          (elim (cases_lt (end_of s) new.start) as
          (λ _. Covers (if nat_lt (end_of s) new.start then s ∷ put_in new spans else put_in (joined new s) spans) word ↔
          (HasWord new word ⊎ Covers (s ∷ spans) word)) [
            | inl k ↦ rw (lt-ltb (end_of s) new.start k) (passed (covers-put_in new spans word))
            | inr k ↦ rw (le-ltb (end_of s) new.start k) (merged (has-joined new s word h k) (covers-put_in (joined new s) spans word))
          ])
    ]
  where
    passed : {A B C D : Type 0} → (C ↔ (A ⊎ D)) → (B ⊎ C) ↔ (A ⊎ (B ⊎ D))
    passed {A} {B} {C} {D} r = (
      λ h. elim h as (λ _. A ⊎ (B ⊎ D)) [
        | inl b ↦ inr (inl b)
        | inr c ↦ elim (r.0 c) as (λ _. A ⊎ (B ⊎ D)) [ inl a ↦ inl a | inr d ↦ inr (inr d) ]
      ],
      λ h. elim h as (λ _. B ⊎ C) [ inl a ↦ inr (r.1 (inl a)) | inr x ↦ elim x as (λ _. B ⊎ C) [ inl b ↦ inl b | inr d ↦ inr (r.1 (inr d)) ] ],
    )

    merged : {A B C D E : Type 0} → (E ↔ (A ⊎ B)) → (C ↔ (E ⊎ D)) → C ↔ (A ⊎ (B ⊎ D))
    merged {A} {B} {C} {D} {E} j r = (
      λ c. elim (r.0 c) as (λ _. A ⊎ (B ⊎ D)) [
        | inl e ↦ elim (j.0 e) as (λ _. A ⊎ (B ⊎ D)) [ inl a ↦ inl a | inr b ↦ inr (inl b) ]
        | inr d ↦ inr (inr d)
      ],
      λ h. elim h as (λ _. C) [
        | inl a ↦ r.1 (inl (j.1 (inl a)))
        | inr x ↦ elim x as (λ _. C) [ inl b ↦ r.1 (inl (j.1 (inr b))) | inr d ↦ r.1 (inr d) ]
      ],
    )

-- spans that have no word of a cell are apart from it
pub apart_from_words : (cell : Span) (spans : List Span) → 0 < cell.len → AllByRecursion (λ span. 0 < span.len) spans
    → ((word : ℕ) → HasWord cell word → Covers spans word → ⊥) → AllByRecursion (AreApart cell) spans
apart_from_words cell [] h some free = tt
apart_from_words cell (s ∷ spans) h some free =
    let first : AreApart cell s =
    elim (cases_lt s.start (end_of cell)) [
      | inr behind ↦ inl behind
      | inl begins ↦ elim (cases_lt cell.start (end_of s)) [
        | inr before ↦ inr before
        | inl ends ↦ absurd (free (max cell.start s.start) (omega arith, omega (arith, some.0)) (inl (omega arith, omega (arith, some.0))))
      ]
    ] in
    (first, apart_from_words cell spans h some.1 (λ word has covers. free word has (inr covers)))

-- spans apart from a cell have no word of it
pub words_from_apart : (cell : Span) (spans : List Span) → AllByRecursion (AreApart cell) spans → (word : ℕ) → HasWord cell word →
    Covers spans word → ⊥
words_from_apart cell [] apart word has covers = covers
words_from_apart cell (s ∷ spans) apart word has (inl here) =
    elim apart.0 as (λ _. ⊥) [ inl p ↦ omega (arith, has.1, here.0) | inr p ↦ omega (arith, has.0, here.1) ]
words_from_apart cell (s ∷ spans) apart word has (inr later) = words_from_apart cell spans apart.1 word has later

-- each span of a list that stands apart has a word
pub each_has_word : (low high : ℕ) (spans : List Span) → StandApart low high spans → AllByRecursion (λ span. 0 < span.len) spans
each_has_word low high [] a = tt
each_has_word low high (s ∷ spans) a = (a.1, each_has_word (end_of s + 1) high spans a.3)

-- a cell that is taken out is apart from what is left
pub apart_after_without : (low high : ℕ) (cell : Span) (spans : List Span) → 0 < cell.len → StandApart low high spans
    → AllByRecursion (AreApart cell) (without cell spans)
apart_after_without low high cell spans h a =
    apart_from_words cell (without cell spans) h (each_has_word low high (without cell spans) (apart_without low high cell spans h a))
    (λ word has covers. ((covers-without cell spans word).0 covers).1 has)

-- a cell that is apart from each span stays so where another is taken out
pub apart_kept_without : (low high : ℕ) (other cell : Span) (spans : List Span) → 0 < other.len → 0 < cell.len → StandApart low high spans
    → AllByRecursion (AreApart cell) spans → AllByRecursion (AreApart cell) (without other spans)
apart_kept_without low high other cell spans h k a apart =
    apart_from_words cell (without other spans) k (each_has_word low high (without other spans) (apart_without low high other spans h a))
    (λ word has covers. words_from_apart cell spans apart word has ((covers-without other spans word).0 covers).0)

-- a cell that is apart from each span and from a new one stays so where that one is put in
pub apart_kept_put_in : (low high : ℕ) (new cell : Span) (spans : List Span) → low ≤ new.start → 0 < new.len → end_of new < high → 0 < cell.len
    → StandApart low high spans → AreApart cell new → AllByRecursion (AreApart cell) spans → AllByRecursion (AreApart cell) (put_in new spans)
apart_kept_put_in low high new cell spans p q r k a other apart =
    apart_from_words cell (put_in new spans) k (each_has_word low high (put_in new spans) (apart_put_in low high new spans p q r a))
    (λ word has covers. words_from_apart cell (new ∷ spans) (other, apart) word has ((covers-put_in new spans word).0 covers))
