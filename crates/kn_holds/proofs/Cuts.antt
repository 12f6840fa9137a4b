-- A list of free spans without a cell that lies in one of them.
use Rattle.std.proofs.Common.{ℕ, suc, ◌+◌, ◌-◌, ◌<◌, ◌≤◌, ◌≡◌, List, [], ◌∷◌, ◌++◌, length, take, drop}
use Rattle.std.proofs.Common.{slice_index_or, slice_set, min, max, refl, sym, ap, ◌∙◌, subst, inl, inr, arith}
use Rattle.std.specs.List.{insert, remove}
use Rattle.std.proofs.lemmas.Bool.{lt-ltb, le-ltb, cases_lt}
use Rattle.std.proofs.lemmas.List.{drop_at, take_at, set_split, length-take-le}
use Rattle.kn_base.specs.declared.numbers.Span.{Span}
use Rattle.kn_base.specs.Spans.{LiesIn, end_of}
use Rattle.kn_base.specs.SpanLists.{StandApart, span_without, without, words_between}
use Rattle.kn_base.proofs.Apart.{parts_at}
use Rattle.kn_base.proofs.Without.{without_inside, words_between_none, words_between_ends}
use Rattle.kn_holds.specs.Holds.{with_words}

-- the words between two places are a span, where it has a word
between_with : (low high : ℕ) (rest : Span) → rest.start ≡ low → rest.len ≡ high - low → words_between low high ≡ with_words (rest ∷ [])
between_with low high rest start words =
    elim (cases_lt 0 rest.len) as (λ _. words_between low high ≡ with_words (rest ∷ [])) [
      | inl some ↦ rw (lt-ltb 0 rest.len some) (words_between_ends low high rest (sym start) (omega arith) some)
      | inr none ↦ rw (le-ltb 0 rest.len none) (words_between_none low high (omega arith))
    ]

-- of two spans, those that have a word are the first, where it has one, and the second, where it has one
two_with : (left right : Span) → with_words (left ∷ []) ++ with_words (right ∷ []) ≡ with_words (left ∷ right ∷ [])
two_with left right =
    elim (cases_lt 0 left.len) as (λ _. with_words (left ∷ []) ++ with_words (right ∷ []) ≡ with_words (left ∷ right ∷ [])) [
      | inl some ↦ rw (lt-ltb 0 left.len some) refl
      | inr none ↦ rw (le-ltb 0 left.len none) refl
    ]

-- a span without a cell that lies in it is what is left before the cell and behind it
pub left_of : (cell span left right : Span) → LiesIn cell span → left.start ≡ span.start → left.len ≡ cell.start - span.start
    → right.start ≡ end_of cell → right.len ≡ end_of span - end_of cell → span_without cell span ≡ with_words (left ∷ right ∷ [])
left_of cell span left right inside left_start left_words right_start right_words =
    let before : min (end_of span) cell.start ≡ cell.start = omega (arith, inside.1) in
    let behind : max span.start (end_of cell) ≡ end_of cell = omega (arith, inside.0) in
    ap (λ n. words_between span.start n ++ words_between (max span.start (end_of cell)) (end_of span)) before
    ∙ ap (λ n. words_between span.start cell.start ++ words_between n (end_of span)) behind
    ∙ ap (λ z. z ++ words_between (end_of cell) (end_of span)) (between_with span.start cell.start left left_start left_words)
    ∙ ap (λ z. with_words (left ∷ []) ++ z) (between_with (end_of cell) (end_of span) right right_start right_words)
    ∙ two_with left right

-- the list without a cell that lies in the span at a place is the spans before that one, what is left of it, and those behind it
pub without_at : (low high : ℕ) (spans : List Span) (cell : Span) (place : ℕ) (d left right : Span) → StandApart low high spans → place < length spans
    → LiesIn cell (slice_index_or spans place d) → span_without cell (slice_index_or spans place d) ≡ with_words (left ∷ right ∷ [])
    → take place spans ++ (with_words (left ∷ right ∷ []) ++ drop (place + 1) spans) ≡ without cell spans
without_at low high spans cell place d left right apart within inside rest =
    let front = take place spans in
    let back = drop (place + 1) spans in
    let span = slice_index_or spans place d in
    let split : spans ≡ front ++ span ∷ back = parts_at spans place d within in
    ap (λ z. front ++ (z ++ back)) (sym rest)
    ∙ sym (without_inside low high cell front span back (subst (StandApart low high) split apart) inside)
    ∙ ap (without cell) (sym split)

-- the spans before a place and behind it, and two for the one there
module _ (spans : List Span) (place : ℕ) (left right : Span) (within : place < length spans) where
  next : suc place ≡ place + 1
  next = omega arith

  -- none of the two has a word
  pub leave_none : left.len ≤ 0 → right.len ≤ 0
      → remove spans place ≡ take place spans ++ (with_words (left ∷ right ∷ []) ++ drop (place + 1) spans)
  leave_none p q = rw (le-ltb 0 left.len p, le-ltb 0 right.len q) (ap (λ n. take place spans ++ drop n spans) next)

  -- one of them has
  pub leave_left : 0 < left.len → right.len ≤ 0
      → slice_set spans place left ≡ take place spans ++ (with_words (left ∷ right ∷ []) ++ drop (place + 1) spans)
  leave_left p q =
      rw (lt-ltb 0 left.len p, le-ltb 0 right.len q) (set_split spans place left within ∙ ap (λ n. take place spans ++ left ∷ drop n spans) next)

  pub leave_right : left.len ≤ 0 → 0 < right.len
      → slice_set spans place right ≡ take place spans ++ (with_words (left ∷ right ∷ []) ++ drop (place + 1) spans)
  leave_right p q =
      rw (le-ltb 0 left.len p, lt-ltb 0 right.len q) (set_split spans place right within ∙ ap (λ n. take place spans ++ right ∷ drop n spans) next)

  -- both have
  pub leave_both : 0 < left.len → 0 < right.len
      → insert (slice_set spans place right) place left ≡ take place spans ++ (with_words (left ∷ right ∷ []) ++ drop (place + 1) spans)
  leave_both p q =
      let front = take place spans in
      let behind = right ∷ drop (suc place) spans in
      let list : slice_set spans place right ≡ front ++ behind = set_split spans place right within in
      let size : length front ≡ place = length-take-le place spans (omega arith) in
      rw (lt-ltb 0 left.len p, lt-ltb 0 right.len q)
      (ap (λ z. insert z place left) list
      ∙ ap (λ z. z ++ left ∷ drop place (front ++ behind)) (take_at front behind place size)
      ∙ ap (λ z. front ++ left ∷ z) (drop_at front behind place size)
      ∙ ap (λ n. front ++ left ∷ right ∷ drop n spans) next)
