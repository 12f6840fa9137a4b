-- Lists of free spans of a frame that is cut into cells.
use Rattle.std.proofs.Common.{ℕ, ◌+◌, ◌-◌, ◌*◌, ◌/◌, ◌<◌, ◌≤◌, ◌≡◌, ◌⊎◌, List, [], ◌∷◌, ◌++◌, length, take}
use Rattle.std.proofs.Common.{drop, slice_index_or, refl, ap, sym, subst, inl, inr, arith}
use Rattle.std.specs.List.{AllByRecursion}
use Rattle.std.proofs.Math.Nat.{mul-le-mul_right}
use Rattle.std.proofs.lemmas.Bool.{cases_eq, cases_lt, le-ltb, lt-ltb}
use Rattle.std.proofs.lemmas.List.Elements.{recursion_from_All, All-from_recursion}
use Rattle.kn_base.specs.declared.numbers.Span.{Span}
use Rattle.kn_base.specs.Spans.{AreApart, LiesIn, end_of}
use Rattle.kn_base.specs.SpanLists.{Covers, HasWord, IsFreeListOf, StandApart, front_of, joined, put_in, without, words_between}
use Rattle.kn_ranges.specs.Laws.{CellsAreReleased, CellsAreTaken, PutsHaveRoom, WholeCellsAreLeft}
use Rattle.kn_ranges.specs.Cells.{IsCell, IsCellBound, IsOnCells, LeavesWholeCells}
use Rattle.kn_base.proofs.Apart.{apart_at, apart_in_frame, parts_at}
use Rattle.kn_ranges.proofs.Each.{each_append, each_parts, each_put_in}
use Rattle.kn_ranges.proofs.Putting.{apart_put_in, longer_or_touching}
use Rattle.kn_base.proofs.Without.{apart_without}
use Rattle.kn_ranges.proofs.Taking.{taken_from, without-front}
use Rattle.kn_ranges.proofs.Words.{apart_after_without, not_beside}

-- the end of a cell is the start of the next one
pub next_bound : (frame : Span) (words address : ℕ) → IsCellBound frame words address → IsCellBound frame words (address + words)
next_bound frame words address (cells, at) = (cells + 1, omega arith)

-- between one cell's start and a later one there is a whole cell
pub bounds_apart : (frame : Span) (words a b : ℕ) → IsCellBound frame words a → IsCellBound frame words b → a < b → a + words ≤ b
bounds_apart frame words a b (k, at) (j, bt) h =
    elim (cases_lt k j) [
      | inl less ↦ let more : (k + 1) * words ≤ j * words = mul-le-mul_right words (let l : k + 1 ≤ j = omega arith in l) in omega arith
      | inr more ↦ let less : j * words ≤ k * words = mul-le-mul_right words more in absurd (omega arith)
    ]

-- the first words of a free span are a cell
pub front_is_cell : (frame : Span) (words : ℕ) (span : Span) → IsOnCells frame words span → words ≤ span.len → end_of span ≤ end_of frame
    → IsCell frame words (front_of words span)
front_is_cell frame words span on h within = (on.0, refl, omega arith)

-- two free spans joined begin and end as they do
on_cells_joined : (frame : Span) (words : ℕ) (a b : Span) → IsOnCells frame words a → IsOnCells frame words b → IsOnCells frame words (joined a b)
on_cells_joined frame words a b p q =
    let Starts : ℕ → Type 0 = IsCellBound frame words in
    let Ends : ℕ → Type 0 = λ n. IsCellBound frame words n ⊎ (n ≡ end_of frame) in
    let starts : Starts (joined a b).start =
    elim (cases_lt a.start b.start) [
      | inl h ↦ let e : a.start ≡ (joined a b).start = omega arith in subst Starts e p.0
      | inr h ↦ let e : b.start ≡ (joined a b).start = omega arith in subst Starts e q.0
    ] in
    let ends : Ends (end_of (joined a b)) =
    elim (cases_lt (end_of a) (end_of b)) [
      | inl h ↦ let e : end_of b ≡ end_of (joined a b) = omega arith in subst Ends e q.1
      | inr h ↦ let e : end_of a ≡ end_of (joined a b) = omega arith in subst Ends e p.1
    ] in
    (starts, ends)

-- a cell put in leaves each free span on cells
pub on_cells_put_in : (frame : Span) (words : ℕ) (cell : Span) (spans : List Span) → IsCell frame words cell
    → AllByRecursion (IsOnCells frame words) spans
    → AllByRecursion (IsOnCells frame words) (put_in cell spans)
on_cells_put_in frame words cell spans (bound, size, within) a =
    let end : IsCellBound frame words (end_of cell) = rw size (next_bound frame words cell.start bound) in
    each_put_in (IsOnCells frame words) (on_cells_joined frame words) cell spans (bound, inl end) a

-- a cell taken from the front of one leaves each free span on cells
pub on_cells_without : (low high : ℕ) (frame : Span) (words : ℕ) (front : List Span) (span : Span) (back : List Span)
    → StandApart low high (front ++ span ∷ back) → words ≤ span.len → AllByRecursion (IsOnCells frame words) (front ++ span ∷ back)
    → AllByRecursion (IsOnCells frame words) (without (front_of words span) (front ++ span ∷ back))
on_cells_without low high frame words front span back apart h a =
    let P : Span → Type 0 = IsOnCells frame words in
    let parts = each_parts P front (span ∷ back) a in
    let rest : AllByRecursion P (words_between (span.start + words) (end_of span)) =
    elim (cases_lt (span.start + words) (end_of span)) [
      | inl some ↦
          let end : span.start + words + (end_of span - (span.start + words)) ≡ end_of span = omega arith in
          rw (lt-ltb (span.start + words) (end_of span) some) ((next_bound frame words span.start parts.1.0.0, rw end parts.1.0.1), tt)
      | inr none ↦ rw (le-ltb (span.start + words) (end_of span) none) tt
    ] in
    rw (without-front low high words front span back apart h)
    (each_append P front (words_between (span.start + words) (end_of span) ++ back) parts.0
    (each_append P (words_between (span.start + words) (end_of span)) back rest parts.1.1))

-- a list of free spans on cells of two words or more has few spans, counted from the first one on
few_behind : (low : ℕ) (frame : Span) (words : ℕ) (span : Span) (spans : List Span) → 2 ≤ words → StandApart low (end_of frame + 1) (span ∷ spans)
    → AllByRecursion (IsOnCells frame words) (span ∷ spans) → 4 * length spans + span.start + 1 ≤ end_of frame
few_behind low frame words span [] h apart on = omega (arith, apart.1, apart.2)
few_behind low frame words span (next ∷ spans) h apart on =
    let rest = few_behind (end_of span + 1) frame words next spans h apart.3 on.1 in
    let inside : end_of span < end_of frame = omega (arith, apart.3.0, apart.3.1, apart.3.2) in
    let end : IsCellBound frame words (end_of span) =
    elim on.0.1 as (λ _. IsCellBound frame words (end_of span)) [ inl bound ↦ bound | inr last ↦ absurd (omega arith) ] in
    let long = bounds_apart frame words span.start (end_of span) on.0.0 end (omega (arith, apart.1)) in
    let gap = bounds_apart frame words (end_of span) next.start end on.1.0.0 (omega (arith, apart.3.0)) in
    omega arith

-- free spans of a frame that is cut into cells of two words or more are at most a fourth of its words, and one
pub few_on_cells : (frame : Span) (words : ℕ) (spans : List Span) → 2 ≤ words → IsFreeListOf frame spans
    → AllByRecursion (IsOnCells frame words) spans
    → length spans ≤ frame.len / 4 + 1
few_on_cells frame words [] h apart on = omega arith
few_on_cells frame words (span ∷ spans) h apart on =
    let few = few_behind frame.start frame words span spans h apart on in
    omega (arith, apart.0)

-- where the words left over are whole cells, each free span is on cells
pub on_cells_from_whole : (frame : Span) (words : ℕ) (spans : List Span) → IsFreeListOf frame spans → LeavesWholeCells frame words spans
    → AllByRecursion (IsOnCells frame words) spans
on_cells_from_whole frame words spans apart whole =
    recursion_from_All (IsOnCells frame words) spans (λ k d within.
    let span = slice_index_or spans k d in
    let front = take k spans in
    let back = drop (k + 1) spans in
    let split : spans ≡ front ++ span ∷ back = parts_at spans k d within in
    let apart' : StandApart frame.start (end_of frame + 1) (front ++ span ∷ back) = subst (StandApart frame.start (end_of frame + 1)) split apart in
    let lies = apart_at frame.start (end_of frame + 1) front span back apart' in
    let start : IsCellBound frame words span.start =
    elim (cases_eq span.start frame.start) [
      | inl first ↦ (0, omega arith)
      | inr later ↦
          let word = span.start - 1 in
          let left = whole word (omega (arith, lies.0), omega arith)
          (λ covers. not_beside frame.start (end_of frame + 1) front span back word apart' (inl (omega arith))
          (subst (λ xs. Covers xs word) split covers)) in
          ends_there left.0 span left.1.0 (left.1.1 k d within) left.2 lies.1
    ] in
    let end : IsCellBound frame words (end_of span) ⊎ (end_of span ≡ end_of frame) =
    elim (cases_eq (end_of span) (end_of frame)) [
      | inl last ↦ inr last
      | inr inside ↦
          let word = end_of span in
          let left = whole word (omega (arith, lies.0), omega (arith, lies.2))
          (λ covers. not_beside frame.start (end_of frame + 1) front span back word apart' (inr refl) (subst (λ xs. Covers xs word) split covers)) in
          inl (begins_there left.0 span left.1.0 (left.1.1 k d within) left.2)
    ] in
    (start, end))
  where
    ends_there : (cell span : Span) → IsCell frame words cell → AreApart cell span → HasWord cell (span.start - 1) → 0 < span.len
        → IsCellBound frame words span.start
    ends_there cell span (bound, size, within) apart has some =
        let e : cell.start + words ≡ span.start =
        elim apart as (λ _. cell.start + words ≡ span.start) [ inl p ↦ omega (arith, has.0, has.1) | inr p ↦ absurd (omega (arith, has.0, has.1)) ] in
        subst (IsCellBound frame words) e (next_bound frame words cell.start bound)

    begins_there : (cell span : Span) → IsCell frame words cell → AreApart cell span → HasWord cell (end_of span) →
        IsCellBound frame words (end_of span)
    begins_there cell span (bound, size, within) apart has =
        let e : cell.start ≡ end_of span =
        elim apart as (λ _. cell.start ≡ end_of span) [ inl p ↦ absurd (omega (arith, has.0, has.1)) | inr p ↦ omega (arith, has.0) ] in
        subst (IsCellBound frame words) e bound

-- the first cell of the first span that has room for one, and what is left without it
pub cell_taken : CellsAreTaken
cell_taken frame words spans cell some on e =
    let (front, span, back, split, fits, is) = taken_from words spans cell e in
    let last = end_of frame + 1 in
    let len : cell.len ≡ words = ap (λ (s : Span). s.len) is in
    let some' : 0 < cell.len = omega arith in
    let apart' : StandApart frame.start last (front ++ span ∷ back) = subst (StandApart frame.start last) split on.list in
    let on' : AllByRecursion (IsOnCells frame words) (front ++ span ∷ back) = subst (AllByRecursion (IsOnCells frame words)) split on.cells in
    let lies = apart_at frame.start last front span back apart' in
    let left = on_cells_without frame.start last frame words front span back apart' fits on' in
    let at = (each_parts (IsOnCells frame words) front (span ∷ back) on').1.0 in
    let is_cell = front_is_cell frame words span at fits (omega (arith, lies.2)) in (
      record {
        list = apart_without frame.start last cell spans some' on.list;
        cells = subst (λ (xs : List Span). AllByRecursion (IsOnCells frame words) (without cell xs)) (sym split)
            (subst (λ (s : Span). AllByRecursion (IsOnCells frame words) (without s (front ++ span ∷ back))) (sym is) left);
      },
      (
        subst (IsCell frame words) (sym is) is_cell,
        All-from_recursion (AreApart cell) (without cell spans)
            (apart_after_without frame.start last cell spans some' on.list),
      ),
    )

-- where there is room for the list with a span, the span may be put in
pub put_has_room : PutsHaveRoom
put_has_room free span apart h =
    elim (longer_or_touching span free.spans (recursion_from_All (AreApart span) free.spans apart)) [
      | inl longer ↦ inl (omega arith)
      | inr touching ↦ inr touching
    ]

-- a taken cell put in: what the list is, and that there is room
pub cell_released : CellsAreReleased
cell_released frame words free cell two enough on (is_cell, apart) =
    let behind : frame.start ≤ cell.start = omega (arith, is_cell.0.1) in
    let put = apart_put_in frame.start (end_of frame + 1) cell free.spans behind (omega (arith, is_cell.1)) (omega (arith, is_cell.2)) on.list in
    let cells = on_cells_put_in frame words cell free.spans is_cell on.cells in
    let few = few_on_cells frame words (put_in cell free.spans) two put cells in
    (record { list = put; cells = cells }, put_has_room free cell apart (omega arith))

-- free spans that lie in a frame and leave whole cells
pub cells_left : WholeCellsAreLeft
cells_left frame words spans two apart within whole =
    let list = apart_in_frame 0 _ frame spans apart (recursion_from_All (λ (span : Span). LiesIn span frame) spans within) in
    let cells = on_cells_from_whole frame words spans list whole in
    (record { list = list; cells = cells }, few_on_cells frame words spans two list cells)
