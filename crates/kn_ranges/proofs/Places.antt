-- A span put in, as an edit at its place.
use Rattle.std.proofs.Common.{ℕ, zero, suc, ◌+◌, ◌-◌, ◌<◌, ◌≤◌, ◌≡◌, ◌≢◌, List, [], ◌∷◌, ◌++◌, All, Any, length, take}
use Rattle.std.proofs.Common.{drop, slice_index_or, slice_set, ap, sym, ◌∙◌, subst, inl, inr, arith, append_assoc, add-zero}
use Rattle.std.specs.List.{AllByRecursion, HoldsAt, insert, remove}
use Rattle.std.proofs.lemmas.Bool.{cases_eq, cases_lt}
use Rattle.std.proofs.lemmas.List.{take-append-drop, drop_more, get_or-take, get_or-drop, length-drop, length-take-le, get_or_default, set_split, take_at}
use Rattle.std.proofs.lemmas.List.{drop_at, length_push, length-append}
use Rattle.std.proofs.lemmas.List.Elements.{All-drop, All-from_recursion, All-take, recursion_from_All}
use Rattle.kn_base.specs.declared.numbers.Span.{Span}
use Rattle.kn_base.specs.Spans.{end_of, AreApart}
use Rattle.kn_base.specs.SpanLists.{StandApart, Touches, put_in}
use Rattle.kn_base.proofs.Apart.{apart_at_index, apart_before, apart_behind, apart_by_index, apart_within_wider, begins_behind, ends_before, parts_at}
use Rattle.kn_ranges.proofs.Putting.{put_in_alone, put_in_at_end, put_in_at_start, put_in_between}

-- a list with another span at a place
set_at : (spans : List Span) (place : ℕ) (span : Span) → place < length spans →
    slice_set spans place span ≡ take place spans ++ span ∷ drop (place + 1) spans
set_at spans place span h =
    let next : suc place ≡ place + 1 = omega arith in
    set_split spans place span h ∙ ap (λ n. take place spans ++ span ∷ drop n spans) next

-- what stands behind a place stands apart
pub apart_drop : (low high place : ℕ) (spans : List Span) → StandApart low high spans → StandApart low high (drop place spans)
apart_drop low high zero spans a = a
apart_drop low high (suc place) [] a = tt
apart_drop low high (suc place) (s ∷ spans) a =
    apart_drop low high place spans (apart_within_wider (end_of s + 1) high low high spans (omega (arith, a.0)) (omega arith) a.3)

-- spans that begin before a new one, and are apart from it, end where it begins or before
ends_before_new : (spans : List Span) (new : Span) → AllByRecursion (AreApart new) spans → AllByRecursion (λ span. span.start < new.start) spans
    → AllByRecursion (λ span. end_of span ≤ new.start) spans
ends_before_new [] new apart before = tt
ends_before_new (s ∷ spans) new apart before =
    (elim apart.0 as (λ _. end_of s ≤ new.start) [ inl h ↦ absurd (omega (arith, before.0)) | inr h ↦ h ], ends_before_new spans new apart.1 before.1)

-- spans that begin where a new one does or behind, and are apart from it, begin at its end or behind it
begins_behind_new : (low high : ℕ) (spans : List Span) (new : Span) → StandApart low high spans → AllByRecursion (AreApart new) spans
    → AllByRecursion (λ span. new.start ≤ span.start) spans → AllByRecursion (λ span. end_of new ≤ span.start) spans
begins_behind_new low high [] new a apart behind = tt
begins_behind_new low high (s ∷ spans) new a apart behind = (
  elim apart.0 as (λ _. end_of new ≤ s.start) [ inl h ↦ h | inr h ↦ absurd (omega (arith, behind.0, a.1)) ],
  begins_behind_new (end_of s + 1) high spans
      new a.3 apart.1 behind.1,
)

-- a place that parts spans by the start of a new one, which is apart from them, parts them by its ends
pub parted_by_ends : (low high : ℕ) (spans : List Span) (new : Span) (place : ℕ) → StandApart low high spans → All (AreApart new) spans
    → AllByRecursion (λ span. span.start < new.start) (take place spans) → AllByRecursion (λ span. new.start ≤ span.start) (drop place spans)
    → AllByRecursion (λ span. end_of span ≤ new.start) (take place spans) × AllByRecursion (λ span. end_of new ≤ span.start) (drop place spans)
parted_by_ends low high spans new place a apart before behind = (
  ends_before_new (take place spans) new (recursion_from_All (AreApart new) (take place spans) (All-take (AreApart new) place spans apart)) before,
  begins_behind_new low high (drop place spans) new (apart_drop low high place spans a)
      (recursion_from_All (AreApart new) (drop place spans) (All-drop (AreApart new) place spans apart)) behind,
)

-- where the last one ends before a new one begins, all before it do
pub strictly_before : (low high : ℕ) (spans : List Span) (new : Span) (place : ℕ) → StandApart low high spans → place ≤ length spans
    → AllByRecursion (λ span. end_of span ≤ new.start) (take place spans)
    → ((d : Span) → 0 < place → end_of (slice_index_or spans (place - 1) d) ≢ new.start)
    → AllByRecursion (λ span. end_of span < new.start) (take place spans)
strictly_before low high spans new place a h before differs =
    let P : Span → Type 0 = λ span. end_of span < new.start in
    let all = All-from_recursion (λ (span : Span). end_of span ≤ new.start) (take place spans) before in
    let size : length (take place spans) ≡ place = length-take-le place spans h in
    recursion_from_All P (take place spans) (λ k d within.
    let read = get_or-take place spans k d (omega arith) in
    let ends = rw read at (all k d within) in
    let last = place - 1 in
    rw read (elim (cases_eq k last) as (λ _. end_of (slice_index_or spans k d) < new.start) [
      | inl here ↦ let differ = differs d (omega arith) in rw here (let e = rw here at ends in omega arith)
      | inr other ↦
          let less = apart_by_index low high spans k last d a (omega arith) (omega arith) in
          let lasts = rw (get_or-take place spans last d (omega arith)) at (all last d (omega arith)) in
          omega arith
    ]))

-- where the first one begins behind the end of a new one, all do
pub strictly_behind : (low high : ℕ) (spans : List Span) (new : Span) → StandApart low high spans
    → AllByRecursion (λ span. end_of new ≤ span.start) spans
    → ((d : Span) → 0 < length spans → (slice_index_or spans 0 d).start ≢ end_of new)
    → AllByRecursion (λ span. end_of new < span.start) spans
strictly_behind low high [] new a behind differs = tt
strictly_behind low high (s ∷ spans) new a behind differs =
    let differ = differs s (omega arith) in
    (omega (arith, behind.0), later new (end_of s + 1) spans (omega (arith, behind.0)) (begins_behind (end_of s + 1) high spans a.3))
  where
    later : (new : Span) (place : ℕ) (spans : List Span) → end_of new < place → AllByRecursion (λ span. (0 < span.len) × (place ≤ span.start)) spans
        → AllByRecursion (λ span. end_of new < span.start) spans
    later new place [] h b = tt
    later new place (t ∷ spans) h b = (omega (arith, b.0.1), later new place spans h b.1)

-- the spans before one that begins at or before a place end before the place
pub ends_before_start : (low high : ℕ) (front : List Span) (span : Span) (back : List Span) (place : ℕ) → StandApart low high (front ++ span ∷ back)
    → span.start ≤ place → AllByRecursion (λ s. end_of s < place) front
ends_before_start low high front span back place a h = weaker front (ends_before low span.start front (apart_before low high front span back a))
  where
    weaker : (spans : List Span) → AllByRecursion (λ s. (0 < s.len) × (end_of s < span.start)) spans → AllByRecursion (λ s. end_of s < place) spans
    weaker [] b = tt
    weaker (s ∷ spans) b = (omega (arith, b.0.1), weaker spans b.1)

-- the spans behind one begin behind its end
pub begins_behind_end : (low high : ℕ) (front : List Span) (span : Span) (back : List Span) → StandApart low high (front ++ span ∷ back)
    → AllByRecursion (λ s. end_of span < s.start) back
begins_behind_end low high front span back a = weaker back (begins_behind (end_of span + 1) high back (apart_behind low high front span back a))
  where
    weaker : (spans : List Span) → AllByRecursion (λ s. (0 < s.len) × (end_of span + 1 ≤ s.start)) spans →
        AllByRecursion (λ s. end_of span < s.start) spans
    weaker [] b = tt
    weaker (s ∷ spans) b = (omega (arith, b.0.1), weaker spans b.1)

-- a span that touches none is inserted
pub put_in-insert : (spans : List Span) (new : Span) (place : ℕ) → AllByRecursion (λ span. end_of span < new.start) (take place spans)
    → AllByRecursion (λ span. end_of new < span.start) (drop place spans)
    → insert spans place new ≡ put_in new spans
put_in-insert spans new place before behind =
    sym (ap (put_in new) (sym (take-append-drop place spans)) ∙ put_in_alone new (take place spans) (drop place spans) before behind)

-- one that begins where the span at a place ends makes it longer
pub put_in-set_end : (low high : ℕ) (spans : List Span) (new : Span) (place : ℕ) (d : Span) → StandApart low high spans → place < length spans
    → end_of (slice_index_or spans place d) ≡ new.start → AllByRecursion (λ span. end_of new < span.start) (drop (place + 1) spans)
    → slice_set spans place (record { start = (slice_index_or spans place d).start; len = (slice_index_or spans place d).len + new.len }) ≡ put_in new spans
put_in-set_end low high spans new place d a within ends behind =
    let last = slice_index_or spans place d in
    let split : spans ≡ take place spans ++ last ∷ drop (place + 1) spans = parts_at spans place d within in
    let apart : StandApart low high (take place spans ++ last ∷ drop (place + 1) spans) = subst (StandApart low high) split a in
    let before = ends_before_start low high (take place spans) last (drop (place + 1) spans) new.start apart (omega arith) in
    set_at spans place (record { start = last.start; len = last.len + new.len }) within
    ∙ sym (ap (put_in new) split ∙ put_in_at_end new last (take place spans) (drop (place + 1) spans) before ends behind)

-- one that ends where the span at a place begins makes it longer
pub put_in-set_start : (low high : ℕ) (spans : List Span) (new : Span) (place : ℕ) (d : Span) → StandApart low high spans → place < length spans
    → end_of new ≡ (slice_index_or spans place d).start → AllByRecursion (λ span. end_of span < new.start) (take place spans)
    → slice_set spans place (record { start = new.start; len = new.len + (slice_index_or spans place d).len }) ≡ put_in new spans
put_in-set_start low high spans new place d a within begins before =
    let next = slice_index_or spans place d in
    let split : spans ≡ take place spans ++ next ∷ drop (place + 1) spans = parts_at spans place d within in
    let apart : StandApart low high (take place spans ++ next ∷ drop (place + 1) spans) = subst (StandApart low high) split a in
    let behind = begins_behind_end low high (take place spans) next (drop (place + 1) spans) apart in
    set_at spans place (record { start = new.start; len = new.len + next.len }) within
    ∙ sym (ap (put_in new) split ∙ put_in_at_start new next (take place spans) (drop (place + 1) spans) before begins behind)

-- one that fills the words between two makes them one
pub put_in-remove : (low high : ℕ) (spans : List Span) (new : Span) (place at : ℕ) (d : Span) → StandApart low high spans → at ≡ place + 1
    → at < length spans → end_of (slice_index_or spans place d) ≡ new.start → end_of new ≡ (slice_index_or spans at d).start
    → remove (slice_set spans place
    (record { start = (slice_index_or spans place d).start; len = (slice_index_or spans place d).len + (new.len + (slice_index_or spans at d).len) }))
    at ≡ put_in new spans
put_in-remove low high spans new place at d a second within ends begins =
    let front = take place spans in
    let back = drop (at + 1) spans in
    let last = slice_index_or spans place d in
    let next = slice_index_or spans at d in
    let whole : Span = record { start = last.start; len = last.len + (new.len + next.len) } in
    let rest : drop (place + 1) spans ≡ next ∷ back = ap (λ n. drop n spans) (sym second) ∙ drop_more spans at d within in
    let split : spans ≡ front ++ last ∷ next ∷ back = parts_at spans place d (omega arith) ∙ ap (λ z. front ++ last ∷ z) rest in
    let apart : StandApart low high (front ++ last ∷ next ∷ back) = subst (StandApart low high) split a in
    let before = ends_before_start low high front last (next ∷ back) new.start apart (omega arith) in
    let behind = begins_behind_end (end_of last + 1) high [] next back (apart_behind low high front last (next ∷ back) apart) in
    let edited : slice_set spans place whole ≡ front ++ whole ∷ next ∷ back =
    set_at spans place whole (omega arith) ∙ ap (λ z. front ++ whole ∷ z) rest in
    let size : length front ≡ place = length-take-le place spans (omega arith) in
    ap (λ z. remove z at) edited
    ∙ ap (remove (front ++ whole ∷ next ∷ back)) second
    ∙ removed front whole next back place size
    ∙ sym (ap (put_in new) split ∙ put_in_between new last next front back before ends begins behind)
  where
    removed : (front : List Span) (whole next : Span) (back : List Span) (place : ℕ) → length front ≡ place
        → remove (front ++ whole ∷ next ∷ back) (place + 1) ≡ front ++ whole ∷ back
    removed front whole next back place size =
        let grouped : front ++ whole ∷ next ∷ back ≡ (front ++ whole ∷ []) ++ next ∷ back = sym (append_assoc front (whole ∷ []) (next ∷ back)) in
        let len : length (front ++ whole ∷ []) ≡ place + 1 = omega (arith, length_push front whole) in
        let again : (front ++ whole ∷ []) ++ next ∷ back ≡ (front ++ whole ∷ next ∷ []) ++ back =
        sym (append_assoc (front ++ whole ∷ []) (next ∷ []) back)
        ∙ ap (λ z. z ++ back) (append_assoc front (whole ∷ []) (next ∷ [])) in
        let long : length (front ++ whole ∷ next ∷ []) ≡ suc (place + 1) = omega (arith, length-append front (whole ∷ next ∷ []), size) in
        ap (λ z. take (place + 1) z ++ drop (suc (place + 1)) (front ++ whole ∷ next ∷ back)) grouped
        ∙ ap (λ z. take (place + 1) ((front ++ whole ∷ []) ++ next ∷ back) ++ drop (suc (place + 1)) z) (grouped ∙ again)
        ∙ rw (take_at (front ++ whole ∷ []) (next ∷ back) (place + 1) len, drop_at (front ++ whole ∷ next ∷ []) back (suc (place + 1)) long)
        (append_assoc front (whole ∷ []) back)

-- a span between those that end before it and those that begin behind its end touches none
pub touches_none : (spans : List Span) (new : Span) (place : ℕ) → place ≤ length spans
    → AllByRecursion (λ span. end_of span < new.start) (take place spans)
    → AllByRecursion (λ span. end_of new < span.start) (drop place spans) → Any (Touches new) spans → ⊥
touches_none spans new place h before behind (k, span, within, read, touch) =
    let front = All-from_recursion (λ (span : Span). end_of span < new.start) (take place spans) before in
    let back = All-from_recursion (λ (span : Span). end_of new < span.start) (drop place spans) behind in
    elim (cases_lt k place) [
      | inl less ↦
          let ends = rw (get_or-take place spans k span less, read) at (front k span (omega (arith, length-take-le place spans h))) in
          elim touch as (λ _. ⊥) [ inl a ↦ omega arith | inr b ↦ omega arith ]
      | inr more ↦
          let rest : place + (k - place) ≡ k = omega arith in
          let begins = rw (get_or-drop place spans (k - place) span, rest, read) at (back (k - place) span (omega (arith, length-drop place spans))) in
          elim touch as (λ _. ⊥) [ inl a ↦ omega arith | inr b ↦ omega arith ]
    ]

-- the span at a place, where it is known to begin at an address
pub next_at : (low high : ℕ) (spans : List Span) (place end : ℕ) (d : Span) → StandApart low high spans
    → (place < length spans) × HoldsAt (λ span. span.start ≡ end) spans place
    → (place < length spans) × ((slice_index_or spans place d).start ≡ end) × (end_of (slice_index_or spans place d) < high)
next_at low high spans place end d a (within, at) = (within, at d, (apart_at_index low high spans place d a within).2)

-- the span before a place, where it is known to end at an address
pub last_at : (spans : List Span) (place start : ℕ) (d : Span) → (0 < place) × HoldsAt (λ span. end_of span ≡ start) spans (place - 1)
    → (0 < place) × (end_of (slice_index_or spans (place - 1) d) ≡ start)
last_at spans place start d (some, at) = (some, at d)

-- where no span before a place ends at the start of a new one, those before the place end before it begins
pub before_untouched : (low high : ℕ) (spans : List Span) (new : Span) (place : ℕ) → StandApart low high spans → place ≤ length spans
    → AllByRecursion (λ span. end_of span ≤ new.start) (take place spans)
    → ((0 < place) × HoldsAt (λ span. end_of span ≡ new.start) spans (place - 1) → ⊥)
    → AllByRecursion (λ span. end_of span < new.start) (take place spans)
before_untouched low high spans new place a h before differs =
    strictly_before low high spans new place a h before
    (λ d some ends. differs (some, λ e. ap (λ (s : Span). end_of s) (get_or_default spans (place - 1) e d (omega arith)) ∙ ends))

-- where no span at a place begins at the end of a new one, those from the place on begin behind its end
pub behind_untouched : (low high : ℕ) (spans : List Span) (new : Span) (place : ℕ) → StandApart low high spans
    → AllByRecursion (λ span. end_of new ≤ span.start) (drop place spans)
    → ((place < length spans) × HoldsAt (λ span. span.start ≡ end_of new) spans place → ⊥)
    → AllByRecursion (λ span. end_of new < span.start) (drop place spans)
behind_untouched low high spans new place a behind differs =
    strictly_behind low high (drop place spans) new (apart_drop low high place spans a) behind (λ d some begins.
    let within : place < length spans = omega (arith, length-drop place spans) in
    let at : (slice_index_or spans place d).start ≡ end_of new = rw (get_or-drop place spans 0 d, add-zero) at begins in
    differs (within, λ e. ap (λ (s : Span). s.start) (get_or_default spans place e d within) ∙ at))
