-- Lists of spans that stand apart: their parts, and how they are joined end to end.
use Rattle.std.proofs.Common.{ℕ, zero, suc, ◌+◌, ◌<◌, ◌≤◌, List, [], ◌∷◌, ◌++◌, ◌≡◌, length, take, drop, slice_index_or, sym}
use Rattle.std.proofs.Common.{ap, ◌∙◌, inl, inr, arith}
use Rattle.std.specs.List.{AllByRecursion}
use Rattle.std.proofs.lemmas.List.{take-append-drop, drop_more}
use Rattle.kn_base.specs.declared.numbers.Span.{Span}
use Rattle.kn_base.specs.Spans.{LiesIn, end_of}
use Rattle.kn_base.specs.SpanLists.{Covers, IsFreeListOf, StandApart}

-- wider bounds hold the same spans
pub apart_within_wider : (low high low' high' : ℕ) (spans : List Span) → low' ≤ low → high ≤ high' → StandApart low high spans →
    StandApart low' high' spans
apart_within_wider low high low' high' [] p q a = tt
apart_within_wider low high low' high' (s ∷ spans) p q a =
    (omega (arith, a.0), a.1, omega (arith, a.2), apart_within_wider (end_of s + 1) high (end_of s + 1) high' spans (omega arith) q a.3)

-- a list up to a place, and one from that place on, are one list
pub apart_append : (low middle high : ℕ) (front back : List Span) → low ≤ middle → middle ≤ high → StandApart low middle front
    → StandApart middle high back
    → StandApart low high (front ++ back)
apart_append low middle high [] back p q f b = apart_within_wider middle high low high back p (omega arith) b
apart_append low middle high (s ∷ front) back p q f b =
    (f.0, f.1, omega (arith, f.2), apart_append (end_of s + 1) middle high front back (omega (arith, f.2)) q f.3 b)

-- where a span in the list lies
pub apart_at : (low high : ℕ) (front : List Span) (span : Span) (back : List Span) → StandApart low high (front ++ span ∷ back)
    → (low ≤ span.start) × (0 < span.len) × (end_of span < high)
apart_at low high [] span back a = (a.0, a.1, a.2)
apart_at low high (s ∷ front) span back a =
    let r = apart_at (end_of s + 1) high front span back a.3 in
    (omega (arith, a.0, r.0), r.1, r.2)

-- the spans before one end before it begins
pub apart_before : (low high : ℕ) (front : List Span) (span : Span) (back : List Span) → StandApart low high (front ++ span ∷ back)
    → StandApart low span.start front
apart_before low high [] span back a = tt
apart_before low high (s ∷ front) span back a =
    let r = apart_at (end_of s + 1) high front span back a.3 in
    (a.0, a.1, omega (arith, r.0), apart_before (end_of s + 1) high front span back a.3)

-- the spans behind one begin behind its end
pub apart_behind : (low high : ℕ) (front : List Span) (span : Span) (back : List Span) → StandApart low high (front ++ span ∷ back)
    → StandApart (end_of span + 1) high back
apart_behind low high [] span back a = a.3
apart_behind low high (s ∷ front) span back a = apart_behind (end_of s + 1) high front span back a.3

-- each span before a place has a word and ends before the place
pub ends_before : (low high : ℕ) (spans : List Span) → StandApart low high spans → AllByRecursion (λ span. (0 < span.len) × (end_of span < high)) spans
ends_before low high [] a = tt
ends_before low high (s ∷ spans) a = ((a.1, a.2), ends_before (end_of s + 1) high spans a.3)

-- each span from a place on has a word and begins at the place or behind it
pub begins_behind : (low high : ℕ) (spans : List Span) → StandApart low high spans →
    AllByRecursion (λ span. (0 < span.len) × (low ≤ span.start)) spans
begins_behind low high [] a = tt
begins_behind low high (s ∷ spans) a =
    ((a.1, a.0), begins_behind low high spans (apart_within_wider (end_of s + 1) high low high spans (omega (arith, a.0)) (omega arith) a.3))

-- the spans from a place on have no word before it
pub words_from : (low high : ℕ) (spans : List Span) (word : ℕ) → StandApart low high spans → Covers spans word → low ≤ word
words_from low high [] word a h = absurd h
words_from low high (s ∷ spans) word a (inl has) = omega (arith, a.0, has.0)
words_from low high (s ∷ spans) word a (inr later) = let r = words_from (end_of s + 1) high spans word a.3 later in omega (arith, a.0, r)

-- where the span at a place lies
pub apart_at_index : (low high : ℕ) (spans : List Span) (k : ℕ) (d : Span) → StandApart low high spans → k < length spans
    → (low ≤ (slice_index_or spans k d).start) × (0 < (slice_index_or spans k d).len) × (end_of (slice_index_or spans k d) < high)
apart_at_index low high [] k d a p = absurd (omega arith)
apart_at_index low high (s ∷ spans) zero d a p = (a.0, a.1, a.2)
apart_at_index low high (s ∷ spans) (suc k) d a p =
    let r = apart_at_index (end_of s + 1) high spans k d a.3 (omega arith) in
    (omega (arith, a.0, r.0), r.1, r.2)

-- a span before another ends before it begins
pub apart_by_index : (low high : ℕ) (spans : List Span) (j k : ℕ) (d : Span) → StandApart low high spans → j < k → k < length spans
    → end_of (slice_index_or spans j d) < (slice_index_or spans k d).start
apart_by_index low high [] j k d a p q = absurd (omega arith)
apart_by_index low high (s ∷ spans) j zero d a p q = absurd (omega arith)
apart_by_index low high (s ∷ spans) zero (suc k) d a p q = let r = apart_at_index (end_of s + 1) high spans k d a.3 (omega arith) in omega (arith, r.0)
apart_by_index low high (s ∷ spans) (suc j) (suc k) d a p q = apart_by_index (end_of s + 1) high spans j k d a.3 (omega arith) (omega arith)

-- a list is what stands before a place, the span there, and what stands behind it
pub parts_at : (spans : List Span) (place : ℕ) (d : Span) → place < length spans
    → spans ≡ take place spans ++ slice_index_or spans place d ∷ drop (place + 1) spans
parts_at spans place d h = sym (take-append-drop place spans) ∙ ap (λ z. take place spans ++ z) (drop_more spans place d h)

-- spans that stand apart and lie in a frame are its free list
pub apart_in_frame : (low high : ℕ) (frame : Span) (spans : List Span) → StandApart low high spans → AllByRecursion (λ span. LiesIn span frame) spans
    → IsFreeListOf frame spans
apart_in_frame low high frame spans a within = above low high frame.start frame spans a (begins_behind_frame frame spans within) within
  where
    begins_later : (low high : ℕ) (spans : List Span) → StandApart low high spans → AllByRecursion (λ span. low ≤ span.start) spans
    begins_later low high [] a = tt
    begins_later low high (s ∷ spans) a =
        (a.0, begins_later low high spans (apart_within_wider (end_of s + 1) high low high spans (omega (arith, a.0)) (omega arith) a.3))

    begins_behind_frame : (frame : Span) (spans : List Span) → AllByRecursion (λ span. LiesIn span frame) spans
        → AllByRecursion (λ span. frame.start ≤ span.start) spans
    begins_behind_frame frame [] within = tt
    begins_behind_frame frame (s ∷ spans) within = (within.0.0, begins_behind_frame frame spans within.1)

    above : (low high least : ℕ) (frame : Span) (spans : List Span) → StandApart low high spans → AllByRecursion (λ span. least ≤ span.start) spans
        → AllByRecursion (λ span. LiesIn span frame) spans → StandApart least (end_of frame + 1) spans
    above low high least frame [] a least_all within = tt
    above low high least frame (s ∷ spans) a least_all within = (
      least_all.0,
      a.1,
      omega (arith, within.0.1),
      above (end_of s + 1) high (end_of s + 1) frame spans a.3 (begins_later (end_of s + 1) high spans a.3)
          within.1,
    )
