use Rattle.std.proofs.Common.{◌+◌, ◌<◌, ◌≤◌, ◌≡◌, All, List, Some, inl, inr, length, slice_index_or, refl, ap, sym, ◌∙◌, subst, arith}
use Rattle.std.specs.List.{AllByRecursion}
use Rattle.std.specs.Option.{option_map}
use Rattle.std.proofs.lemmas.Bool.{true≢false}
use Rattle.std.proofs.lemmas.List.{take_all}
use Rattle.std.proofs.lemmas.List.Elements.{All-from_recursion, recursion_from_All}
use Rattle.kn_base.specs.declared.numbers.Span.{Span}
use Rattle.kn_base.specs.Spans.{AreApart, end_of}
use Rattle.kn_base.specs.SpanLists.{IsFreeListOf, first_fit, front_of, spans_from, without}
use Rattle.kn_ranges.specs.FreeSpans.{FreeSpans}
use Rattle.kn_base.proofs.Apart.{apart_at_index}
use Rattle.kn_base.proofs.Without.{apart_without}
use Rattle.kn_ranges.proofs.Taking.{first_fit-none, first_fit-is_none, taken_at, too_short_from}
use Rattle.kn_ranges.proofs.Words.{apart_after_without, apart_kept_without}
use Rattle.kn_ranges.proofs.ranges.Ranges.take_first_from.Goals as goal
use Rattle.kn_ranges.proofs.ranges.Ranges.take_first_from.Goals.{Then-place-spans, After-cut_front}

-- no span from the address on is long enough
too_short : (c : Then-place-spans) → AllByRecursion (λ (s : Span). s.len < c.args.n) (spans_from c.args.low c.args.self.now.spans)
too_short c =
    let items : List Span = c.self.inside.free.spans in
    let spans_is : c.args.self.now.spans ≡ items = ap (λ (v : FreeSpans). v.spans) (sym c.self.view_is) in
    let passed = rw c.spans-spans.ensures.spans at c.fit_place-place.ensures.passed in
    let whole = take_all c.fit_place-place.result items (omega (arith, ap length c.spans-spans.ensures.spans)) in
    rw spans_is (too_short_from c.args.low c.args.n items (rw whole at passed))

pub returns-then-place-spans-clause-none : goal.returns-then-place-spans-clause-none
returns-then-place-spans-clause-none c =
    (λ _. All-from_recursion (λ (s : Span). s.len < c.args.n) (spans_from c.args.low c.args.self.now.spans) (too_short c), λ _. refl)

pub returns-then-place-spans-clause-taken : goal.returns-then-place-spans-clause-taken
returns-then-place-spans-clause-taken c =
    sym (ap (option_map (front_of c.args.n)) (first_fit-none c.args.n (spans_from c.args.low c.args.self.now.spans) (too_short c)))

pub cut_front-requires-clause-ends : goal.cut_front-requires-clause-ends
cut_front-requires-clause-ends c = λ d.
    let lies = apart_at_index 0 _ c.self.inside.free.spans c.fit_place-place.result d c.self.invariant
    (omega (arith, ap length c.spans-spans.ensures.spans)) in
    (lies.1, lies.2)

-- the cell is the front of the first fit, and the list is left without it
takes : (c : After-cut_front) → (c.args.self.now.spans ≡ c.self.inside.free.spans)
    × (option_map (front_of c.args.n) (first_fit c.args.n (spans_from c.args.low c.self.inside.free.spans)) ≡ Some c.cut_front.result)
    × (c.cut_front.new.spans.spans ≡ without c.cut_front.result c.self.inside.free.spans)
    × (c.cut_front.result.len ≡ c.args.n)
takes c =
    let items : List Span = c.self.inside.free.spans in
    let place = c.fit_place-place.result in
    let none : Span = record { start = 0; len = 0 } in
    let within : place < length items = omega (arith, ap length c.spans-spans.ensures.spans) in
    let passed = rw c.spans-spans.ensures.spans at c.fit_place-place.ensures.passed in
    let fits = rw c.spans-spans.ensures.spans at (c.fit_place-place.ensures.found (omega (arith, ap length c.spans-spans.ensures.spans))) in
    let taken = taken_at 0 _ c.args.low c.args.n items place none c.self.invariant within passed fits in
    let front : c.cut_front.result ≡ front_of c.args.n (slice_index_or items place none) = c.cut_front.ensures.taken none in (
      ap (λ (v : FreeSpans). v.spans) (sym c.self.view_is),
      ap (option_map (front_of c.args.n)) taken.0 ∙ ap (λ (s : Span). Some s) (sym front),
      c.cut_front.ensures.after none ∙ sym taken.1 ∙ ap (λ (cell : Span). without cell items) (sym front),
      ap (λ (s : Span). s.len) front,
    )

pub returns-clause-taken : goal.returns-clause-taken
returns-clause-taken c = let t = takes c in rw t.0 (sym t.1)

pub returns-clause-none : goal.returns-clause-none
returns-clause-none c =
    let t = takes c in
    let some = first_fit-is_none c.args.n (spans_from c.args.low c.args.self.now.spans) in
    (λ e. absurd (true≢false e), λ short. rw (t.0, t.1) at (some.1 short))

pub returns-clause-free_list : goal.returns-clause-free_list
returns-clause-free_list c =
    let t = takes c in
    rw t.2 (apart_without 0 _ c.cut_front.result c.self.inside.free.spans (omega (arith, t.3)) c.self.invariant)

pub returns-clause-after : goal.returns-clause-after
returns-clause-after c =
    let t = takes c in
    let room_is : c.cut_front.new.spans.room ≡ c.args.self.now.room = c.cut_front.ensures.room ∙ ap (λ (v : FreeSpans). v.room) c.self.view_is in
    λ i. record { spans = (t.2 ∙ ap (without c.cut_front.result) (sym t.0)) i; room = room_is i }

pub invariant_of-self : goal.invariant_of-self
invariant_of-self c = returns-clause-free_list c

pub returns-clause-len : goal.returns-clause-len
returns-clause-len c = let t = takes c in t.3

pub returns-clause-apart : goal.returns-clause-apart
returns-clause-apart c =
    let t = takes c in
    let cell : Span = c.cut_front.result in
    let left = apart_after_without 0 _ cell c.self.inside.free.spans (omega (arith, t.3)) c.self.invariant in
    rw t.2 (All-from_recursion (AreApart cell) (without cell c.self.inside.free.spans) left)

-- the cell begins with a span, and ends with it or before
lies : (c : After-cut_front) → (c.fit_place-place.result < length c.self.inside.free.spans)
    × (c.cut_front.result.start ≡ (slice_index_or c.self.inside.free.spans c.fit_place-place.result (record { start = 0; len = 0 })).start)
    × (end_of c.cut_front.result ≤ end_of (slice_index_or c.self.inside.free.spans c.fit_place-place.result (record { start = 0; len = 0 })))
lies c =
    let none : Span = record { start = 0; len = 0 } in
    let same = ap length c.spans-spans.ensures.spans in
    let fits = rw c.spans-spans.ensures.spans at (c.fit_place-place.ensures.found (omega (arith, same))) in
    let front = c.cut_front.ensures.taken none in
    let start = ap (λ (s : Span). s.start) front in
    let len = ap (λ (s : Span). s.len) front in
    (omega (arith, same), start, omega (arith, start, len, (fits none).1))

pub returns-clause-within : goal.returns-clause-within
returns-clause-within c = λ frame list.
    let t = takes c in
    let l = lies c in
    let none : Span = record { start = 0; len = 0 } in
    let items : List Span = c.self.inside.free.spans in
    let list' : IsFreeListOf frame items = subst (IsFreeListOf frame) t.0 list in
    let place = apart_at_index frame.start (end_of frame + 1) items c.fit_place-place.result none list' l.0 in (
      rw t.2 (apart_without frame.start (end_of frame + 1) c.cut_front.result items (omega (arith, t.3)) list'),
      (omega (arith, place.0, l.1), omega (arith, place.2, l.2)),
    )

pub returns-clause-others : goal.returns-clause-others
returns-clause-others c = λ other some apart.
    let t = takes c in
    let l = lies c in
    let none : Span = record { start = 0; len = 0 } in
    let items : List Span = c.self.inside.free.spans in
    let cell : Span = c.cut_front.result in
    let apart' : All (AreApart other) items = subst (λ xs. All (AreApart other) xs) t.0 apart in
    let left = apart_kept_without 0 _ cell other items (omega (arith, t.3)) some c.self.invariant (recursion_from_All (AreApart other) items apart') in (
      rw t.2 (All-from_recursion (AreApart other) (without cell items) left),
      elim (apart' c.fit_place-place.result none l.0) as (λ _. AreApart other cell)
          [ inl h ↦ inl (omega (arith, h, l.1)) | inr h ↦ inr (omega (arith, h, l.2)) ],
    )
