use Rattle.std.proofs.Common.{◌+◌, ◌-◌, ◌<◌, ◌≤◌, ◌≡◌, ℕ, List, All, Any, drop, length, slice_index_or, slice_set, take, refl, sym}
use Rattle.std.proofs.Common.{ap, ◌∙◌, subst, inl, inr, arith}
use Rattle.std.specs.List.{AllByRecursion, HoldsAt, insert, remove}
use Rattle.std.proofs.lemmas.Bool.{iff_false}
use Rattle.kn_base.specs.declared.numbers.Span.{Span}
use Rattle.kn_base.specs.SpanLists.{IsFreeList, Touches, put_in}
use Rattle.kn_base.specs.Spans.{AreApart, end_of}
use Rattle.kn_ranges.specs.FreeSpans.{FreeSpans, HasRoomFor}
use Rattle.kn_ranges.proofs.Places.{before_untouched, behind_untouched, last_at, next_at, parted_by_ends, put_in-insert, put_in-remove, put_in-set_end}
use Rattle.kn_ranges.proofs.Places.{put_in-set_start, touches_none}
use Rattle.kn_ranges.proofs.edits.put_span.Goals as goal

-- the list that was read is a list of free spans, which the place parts by the ends of the new one
parts : (list spans : List Span) (span : Span) (place : ℕ) → list ≡ spans → IsFreeList spans → All (AreApart span) spans
    → AllByRecursion (λ other. other.start < span.start) (take place list) → AllByRecursion (λ other. span.start ≤ other.start) (drop place list)
    → IsFreeList list × AllByRecursion (λ other. end_of other ≤ span.start) (take place list)
    × AllByRecursion (λ other. end_of span ≤ other.start) (drop place list)
parts list spans span place same free apart before behind =
    let free' : IsFreeList list = subst IsFreeList (sym same) free in
    let ends = parted_by_ends 0 _ list span place free' (subst (λ xs. All (AreApart span) xs) (sym same) apart) before behind in
    (free', ends.0, ends.1)

-- what is known of an address is known of the end that it is
at_end : (list : List Span) (place end end' : ℕ) → end ≡ end' → (place < length list) × HoldsAt (λ span. span.start ≡ end) list place
    → (place < length list) × HoldsAt (λ span. span.start ≡ end') list place
at_end list place end end' e h = subst (λ n. (place < length list) × HoldsAt (λ (span : Span). span.start ≡ n) list place) e h

-- a span that touches none has room for itself
has_room : (free : FreeSpans) (span : Span) (list : List Span) (place : ℕ) → list ≡ free.spans → place ≤ length list → HasRoomFor free span
    → AllByRecursion (λ other. end_of other < span.start) (take place list) → AllByRecursion (λ other. end_of span < other.start) (drop place list)
    → length free.spans < free.room
has_room free span list place same within room before behind =
    elim room [
      | inl less ↦ less
      | inr any ↦ absurd (touches_none list span place within before behind (subst (λ xs. Any (Touches span) xs) (sym same) any))
    ]

pub overflow_add-span : goal.overflow_add-span
overflow_add-span c =
    let list : List Span = c.spans-list.result.now in
    let place = c.first_from-place.result in
    let none : Span = record { start = 0; len = 0 } in
    let p = parts list c.args.spans.now.spans c.args.span place c.spans-list.ensures.spans c.requires.list c.requires.apart
    c.first_from-place.ensures.before c.first_from-place.ensures.behind in
    let next = next_at 0 _ list place _ none p.0 (c.in-true-true.ensures'.0 refl) in
    omega (arith, next.1, next.2, c.end.ensures)

pub overflow_add-last : goal.overflow_add-last
overflow_add-last c =
    let list : List Span = c.spans-list.result.now in
    let place = c.first_from-place.result in
    let none : Span = record { start = 0; len = 0 } in
    let p = parts list c.args.spans.now.spans c.args.span place c.spans-list.ensures.spans c.requires.list c.requires.apart
    c.first_from-place.ensures.before c.first_from-place.ensures.behind in
    let next = next_at 0 _ list place _ none p.0 (c.in-true-true.ensures'.0 refl) in
    let last = last_at list place _ none (c.in-true-true.ensures.0 refl) in
    omega (arith, next.1, next.2, last.1, c.end.ensures)

pub overflow_add-span-in-false-true : goal.overflow_add-span-in-false-true
overflow_add-span-in-false-true c =
    let list : List Span = c.spans-list.result.now in
    let place = c.first_from-place.result in
    let none : Span = record { start = 0; len = 0 } in
    let p = parts list c.args.spans.now.spans c.args.span place c.spans-list.ensures.spans c.requires.list c.requires.apart
    c.first_from-place.ensures.before c.first_from-place.ensures.behind in
    let next = next_at 0 _ list place _ none p.0 (c.in-false-true.ensures'.0 refl) in
    omega (arith, next.1, next.2, c.end.ensures)

pub insert-requires-clause-room : goal.insert-requires-clause-room
insert-requires-clause-room c =
    let list : List Span = c.spans-list.result.now in
    let span : Span = c.args.span in
    let place = c.first_from-place.result in
    let p = parts list c.args.spans.now.spans span place c.spans-list.ensures.spans c.requires.list c.requires.apart c.first_from-place.ensures.before
    c.first_from-place.ensures.behind in
    let before = before_untouched 0 _ list span place p.0 c.first_from-place.ensures.within p.1 (iff_false c.in-false-false.ensures refl) in
    let behind = behind_untouched 0 _ list span place p.0 p.2 (λ h. iff_false c.in-false-false.ensures' refl (at_end list place _ _ (sym c.end.ensures) h)) in
    has_room c.args.spans.now span list place c.spans-list.ensures.spans c.first_from-place.ensures.within c.requires.room before behind

-- the array with other spans
with_spans : (room : ℕ) (spans : List Span) → FreeSpans
with_spans room spans = record { spans = spans; room = room }

pub returns-in-false-false : goal.returns-in-false-false
unfolding with_spans
returns-in-false-false c =
    let list : List Span = c.spans-list.result.now in
    let span : Span = c.args.span in
    let place = c.first_from-place.result in
    let p = parts list c.args.spans.now.spans span place c.spans-list.ensures.spans c.requires.list c.requires.apart c.first_from-place.ensures.before
    c.first_from-place.ensures.behind in
    let before = before_untouched 0 _ list span place p.0 c.first_from-place.ensures.within p.1 (iff_false c.in-false-false.ensures refl) in
    let behind = behind_untouched 0 _ list span place p.0 p.2 (λ h. iff_false c.in-false-false.ensures' refl (at_end list place _ _ (sym c.end.ensures) h)) in
    let put = subst (λ xs. insert xs place span ≡ put_in span xs) c.spans-list.ensures.spans (put_in-insert list span place before behind) in
    c.insert.ensures ∙ ap (with_spans c.args.spans.now.room) put

pub returns-in-true-false : goal.returns-in-true-false
unfolding with_spans
returns-in-true-false c =
    let list : List Span = c.spans-list.result.now in
    let span : Span = c.args.span in
    let place = c.first_from-place.result in
    let none : Span = record { start = 0; len = 0 } in
    let last_span = slice_index_or list (place - 1) none in
    let p = parts list c.args.spans.now.spans span place c.spans-list.ensures.spans c.requires.list c.requires.apart c.first_from-place.ensures.before
    c.first_from-place.ensures.behind in
    let last = last_at list place _ none (c.in-true-false.ensures.0 refl) in
    let behind = behind_untouched 0 _ list span place p.0 p.2 (λ h. iff_false c.in-true-false.ensures' refl (at_end list place _ _ (sym c.end.ensures) h)) in
    let same : place - 1 + 1 ≡ place = omega (arith, last.0) in
    let put = put_in-set_end 0 _ list span (place - 1) none p.0 (omega (arith, last.0, c.first_from-place.ensures.within)) last.1
    (subst (λ n. AllByRecursion (λ (other : Span). end_of span < other.start) (drop n list)) (sym same) behind) in
    let here = subst (λ xs. slice_set xs (place - 1) (record { start = last_span.start; len = last_span.len + span.len }) ≡ put_in span xs)
    c.spans-list.ensures.spans put in
    c.set-in-true-false.ensures
    ∙ ap (with_spans c.args.spans.now.room) (ap (slice_set c.args.spans.now.spans (place - 1)) c.new-in-true-false.ensures ∙ here)

pub returns-in-false-true : goal.returns-in-false-true
unfolding with_spans
returns-in-false-true c =
    let list : List Span = c.spans-list.result.now in
    let span : Span = c.args.span in
    let place = c.first_from-place.result in
    let none : Span = record { start = 0; len = 0 } in
    let next_span = slice_index_or list place none in
    let p = parts list c.args.spans.now.spans span place c.spans-list.ensures.spans c.requires.list c.requires.apart c.first_from-place.ensures.before
    c.first_from-place.ensures.behind in
    let next = next_at 0 _ list place _ none p.0 (at_end list place _ _ c.end.ensures (c.in-false-true.ensures'.0 refl)) in
    let before = before_untouched 0 _ list span place p.0 c.first_from-place.ensures.within p.1 (iff_false c.in-false-true.ensures refl) in
    let put = put_in-set_start 0 _ list span place none p.0 next.0 (sym next.1) before in
    let here = subst (λ xs. slice_set xs place (record { start = span.start; len = span.len + next_span.len }) ≡ put_in span xs) c.spans-list.ensures.spans
    put in
    c.set-in-false-true.ensures ∙ ap (with_spans c.args.spans.now.room) (ap (slice_set c.args.spans.now.spans place) c.new-in-false-true.ensures ∙ here)

pub returns-in-true-true : goal.returns-in-true-true
unfolding with_spans
returns-in-true-true c =
    let list : List Span = c.spans-list.result.now in
    let span : Span = c.args.span in
    let place = c.first_from-place.result in
    let none : Span = record { start = 0; len = 0 } in
    let last_span = slice_index_or list (place - 1) none in
    let next_span = slice_index_or list place none in
    let p = parts list c.args.spans.now.spans span place c.spans-list.ensures.spans c.requires.list c.requires.apart c.first_from-place.ensures.before
    c.first_from-place.ensures.behind in
    let last = last_at list place _ none (c.in-true-true.ensures.0 refl) in
    let next = next_at 0 _ list place _ none p.0 (at_end list place _ _ c.end.ensures (c.in-true-true.ensures'.0 refl)) in
    let put = put_in-remove 0 _ list span (place - 1) place none p.0 (omega (arith, last.0)) next.0 last.1 (sym next.1) in
    let here = subst
    (λ xs. remove (slice_set xs (place - 1) (record { start = last_span.start; len = last_span.len + (span.len + next_span.len) })) place ≡ put_in span
    xs) c.spans-list.ensures.spans put in
    c.remove.ensures
    ∙ ap (λ (free : FreeSpans). with_spans free.room (remove free.spans place)) c.set.ensures
    ∙ ap (with_spans c.args.spans.now.room) (ap (λ whole. remove (slice_set c.args.spans.now.spans (place - 1) whole) place) c.new.ensures ∙ here)
