-- The first span that fits, and the spans without the words of a cell.
use Rattle.std.proofs.Common.{ℕ, suc, ◌+◌, ◌-◌, ◌<◌, ◌≤◌, ◌≡◌, ◌⊎◌, ◌↔◌, List, [], ◌∷◌, ◌++◌, append-nil, Some}
use Rattle.std.proofs.Common.{None, All, IsNone, length, take, drop, slice_index_or, slice_set, subst, min, max, refl, ap, sym, ◌∙◌, inl, inr, arith}
use Rattle.std.specs.List.{AllByRecursion, HoldsAt, remove}
use Rattle.std.specs.Option.{is_some, option_map}
use Rattle.std.proofs.lemmas.Bool.{le-leb, lt-leb, cases_lt, true≢false}
use Rattle.std.proofs.lemmas.List.{set_split}
use Rattle.std.proofs.lemmas.Option.{none-some, same_Some}
use Rattle.std.proofs.lemmas.List.Elements.{All-from_recursion, recursion_from_All}
use Rattle.kn_base.specs.declared.numbers.Span.{Span}
use Rattle.kn_base.specs.Spans.{end_of}
use Rattle.kn_base.specs.SpanLists.{StandApart, first_fit, front_of, span_without, spans_from, without, words_between}
use Rattle.kn_ranges.specs.Laws.{FrontsLeaveRests}
use Rattle.kn_base.proofs.Without.{words_between_none, words_between_ends, without_inside}
use Rattle.kn_base.proofs.Apart.{parts_at}

-- without its first n words, a span is the words behind them
pub span_without_front : (n : ℕ) (span : Span) → n ≤ span.len → span_without (front_of n span) span ≡ words_between (span.start + n) (end_of span)
span_without_front n span h =
    rw (words_between_none span.start (min (end_of span) span.start) (omega arith))
    (ap (λ low. words_between low (end_of span)) (let e : max span.start (span.start + n) ≡ span.start + n = omega arith in e))

-- and so is a list of that span alone
pub without_front : FrontsLeaveRests
without_front n span h = ap (λ spans. spans ++ []) (span_without_front n span h) ∙ append-nil (words_between (span.start + n) (end_of span))

-- without the first n words of one span the others stay
pub without-front : (low high n : ℕ) (front : List Span) (span : Span) (back : List Span) → StandApart low high (front ++ span ∷ back) → n ≤ span.len
    → without (front_of n span) (front ++ span ∷ back) ≡ front ++ (words_between (span.start + n) (end_of span) ++ back)
without-front low high n front span back a h =
    without_inside low high (front_of n span) front span back a (omega arith, omega arith) ∙ rw (span_without_front n span h) refl

-- a span of n words left out is cut down to none
pub cut_whole : (spans : List Span) (place n : ℕ) (span : Span) → span.len ≡ n
    → remove spans place ≡ take place spans ++ (words_between (span.start + n) (end_of span) ++ drop (place + 1) spans)
cut_whole spans place n span e =
    let next : suc place ≡ place + 1 = omega arith in
    rw (words_between_none (span.start + n) (end_of span) (omega arith), next) refl

-- a longer one is cut down to the words behind its first n ones
pub cut_part : (spans : List Span) (place n : ℕ) (span : Span) → place < length spans → n < span.len
    → slice_set spans place (record { start = span.start + n; len = span.len - n }) ≡ take place
    spans ++ (words_between (span.start + n) (end_of span) ++ drop (place + 1) spans)
cut_part spans place n span within h =
    let rest : Span = record { start = span.start + n; len = span.len - n } in
    let next : suc place ≡ place + 1 = omega arith in
    set_split spans place rest within
    ∙ ap (λ m. take place spans ++ rest ∷ drop m spans) next
    ∙ ap (λ z. take place spans ++ (z ++ drop (place + 1) spans))
    (sym (words_between_ends (span.start + n) (end_of span) rest refl (omega arith) (omega arith)))

-- the first fit stands behind spans that are too short
pub first_fit-at : (n : ℕ) (front : List Span) (span : Span) (back : List Span) → AllByRecursion (λ s. s.len < n) front → n ≤ span.len
    → first_fit n (front ++ span ∷ back) ≡ Some span
first_fit-at n [] span back a h = rw (le-leb n span.len h)
first_fit-at n (s ∷ front) span back a h = rw (lt-leb n s.len a.0) (first_fit-at n front span back a.1 h)

-- no span fits where each is too short
pub first_fit-none : (n : ℕ) (spans : List Span) → AllByRecursion (λ s. s.len < n) spans → first_fit n spans ≡ None
first_fit-none n [] a = refl
first_fit-none n (s ∷ spans) a = rw (lt-leb n s.len a.0) (first_fit-none n spans a.1)

-- each span is too short, or one is the first fit
pub first_fit_cases : (n : ℕ) (spans : List Span)
    → AllByRecursion (λ s. s.len < n) spans
    ⊎ ((front : List Span) × (span : Span) × (back : List Span) × (spans ≡ front ++ span ∷ back)
    × AllByRecursion (λ s. s.len < n) front × (n ≤ span.len))
first_fit_cases n [] = inl tt
first_fit_cases n (s ∷ spans) =
    elim (cases_lt s.len n) [
      | inr h ↦ inr ([], s, spans, refl, tt, h)
      | inl h ↦ elim (first_fit_cases n spans) [
        | inl a ↦ inl (h, a)
        | inr w ↦ inr (s ∷ w.0, w.1, w.2, ap (λ z. s ∷ z) w.3, (h, w.4), w.5)
      ]
    ]

-- there is no first fit exactly where each span is too short
pub first_fit-is_none : (n : ℕ) (spans : List Span) → IsNone (option_map (front_of n) (first_fit n spans)) ↔ All (λ span. span.len < n) spans
first_fit-is_none n spans =
    let P : Span → Type 0 = λ span. span.len < n in (
      λ none. elim (first_fit_cases n spans) [
        | inl short ↦ All-from_recursion P spans short
        | inr w ↦
            let e : first_fit n spans ≡ Some w.1 = rw w.3 (first_fit-at n w.0 w.1 w.2 w.4 w.5) in
            absurd (true≢false (ap (λ o. is_some (option_map (front_of n) o)) (sym e) ∙ none))
      ],
      λ short. ap (λ o. is_some (option_map (front_of n) o)) (first_fit-none n spans (recursion_from_All P spans short)),
    )

-- all spans begin at or after address 0
pub spans_from-zero : (spans : List Span) → spans_from 0 spans ≡ spans
spans_from-zero [] = refl
spans_from-zero (s ∷ spans) = rw (le-leb 0 s.start (omega arith)) (ap (λ z. s ∷ z) (spans_from-zero spans))

-- the first fit from an address on stands behind spans that begin before it or are too short
pub first_fit-from_at : (low n : ℕ) (front : List Span) (span : Span) (back : List Span) → AllByRecursion (λ s. (s.start < low) ⊎ (s.len < n)) front
    → low ≤ span.start → n ≤ span.len → first_fit n (spans_from low (front ++ span ∷ back)) ≡ Some span
first_fit-from_at low n [] span back a p q = rw (le-leb low span.start p, le-leb n span.len q)
first_fit-from_at low n (s ∷ front) span back a p q =
    elim (cases_lt s.start low) [
      | inl h ↦ rw (lt-leb low s.start h) (first_fit-from_at low n front span back a.1 p q)
      | inr h ↦ rw (le-leb low s.start h, lt-leb n s.len (elim a.0 as (λ _. s.len < n) [ inl b ↦ absurd (omega arith) | inr b ↦ b ]))
          (first_fit-from_at low n front span back a.1 p q)
    ]

-- from an address on each span is too short where each of all begins before it or is too short
pub too_short_from : (low n : ℕ) (spans : List Span) → AllByRecursion (λ s. (s.start < low) ⊎ (s.len < n)) spans
    → AllByRecursion (λ s. s.len < n) (spans_from low spans)
too_short_from low n [] a = tt
too_short_from low n (s ∷ spans) a =
    elim (cases_lt s.start low) [
      | inl h ↦ rw (lt-leb low s.start h) (too_short_from low n spans a.1)
      | inr h ↦ rw (le-leb low s.start h) (elim a.0 as (λ _. s.len < n) [ inl b ↦ absurd (omega arith) | inr b ↦ b ], too_short_from low n spans a.1)
    ]

-- the first fit from an address on, and the spans without its first n words, by its place
pub taken_at : (low high from n : ℕ) (spans : List Span) (place : ℕ) (d : Span) → StandApart low high spans → place < length spans
    → AllByRecursion (λ s. (s.start < from) ⊎ (s.len < n)) (take place spans) → HoldsAt (λ span. (from ≤ span.start) × (n ≤ span.len)) spans place
    → (first_fit n (spans_from from spans) ≡ Some (slice_index_or spans place d))
    × (without (front_of n (slice_index_or spans place d)) spans ≡ take place
    spans ++ (words_between ((slice_index_or spans place d).start + n) (end_of (slice_index_or spans place d)) ++ drop (place + 1) spans))
taken_at low high from n spans place d a within passed fits =
    let span = slice_index_or spans place d in
    let front = take place spans in
    let back = drop (place + 1) spans in
    let split : spans ≡ front ++ span ∷ back = parts_at spans place d within in
    let fit = fits d in
    let apart : StandApart low high (front ++ span ∷ back) = subst (StandApart low high) split a in (
      ap (λ xs. first_fit n (spans_from from xs)) split ∙ first_fit-from_at from n front span back passed fit.0 fit.1,
      ap (without (front_of n span)) split ∙ without-front low high n front span back apart fit.1,
    )

-- where the front of a first fit is taken, the list is the spans before it, itself and those behind it
pub taken_from : (n : ℕ) (spans : List Span) (cell : Span) → Some cell ≡ option_map (front_of n) (first_fit n spans)
    → (front : List Span) × (span : Span) × (back : List Span) × (spans ≡ front ++ span ∷ back) × (n ≤ span.len) × (cell ≡ front_of n span)
taken_from n spans cell e =
    elim (first_fit_cases n spans) [
      | inl short ↦ absurd (none-some cell (sym (e ∙ ap (option_map (front_of n)) (first_fit-none n spans short))))
      | inr w ↦
          let fit : first_fit n spans ≡ Some w.1 = rw w.3 (first_fit-at n w.0 w.1 w.2 w.4 w.5) in
          (w.0, w.1, w.2, w.3, w.5, same_Some cell (front_of n w.1) (e ∙ ap (option_map (front_of n)) fit))
    ]
