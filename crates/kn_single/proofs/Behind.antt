-- The words of a frame behind a cell at its start.
use Rattle.std.proofs.Common.{ℕ, ◌+◌, ◌-◌, ◌<◌, ◌≤◌, ◌≡◌, ◌⊎◌, [], ◌∷◌, Option, Some, All, length, refl, ap, ◌∙◌}
use Rattle.std.proofs.Common.{sym, subst, inl, inr, arith}
use Rattle.std.specs.Prelude.{Any, MatchOption}
use Rattle.std.specs.Option.{option_map}
use Rattle.std.specs.List.{AllByRecursion}
use Rattle.std.proofs.lemmas.List.Elements.{All-from_recursion}
use Rattle.std.proofs.lemmas.Bool.{lt-ltb, le-ltb, le-leb, cases_lt}
use Rattle.kn_base.specs.declared.numbers.Span.{Span}
use Rattle.kn_base.specs.Spans.{end_of}
use Rattle.kn_ranges.specs.FreeSpans.{FreeSpans, HasRoomFor}
use Rattle.kn_base.specs.SpanLists.{Touches, first_fit, free_word_count, front_of, without}
use Rattle.kn_ranges.specs.Laws.{FrontsLeaveRests}
use Rattle.kn_single.specs.SingleState.{SingleState, LeavesOneCell, HasTakenCell, words_behind}

-- there is no word behind a cell that fills the frame
pub words_behind-all : (n : ℕ) (frame : Span) → frame.len ≤ n → words_behind n frame ≡ []
words_behind-all n frame h = rw (le-ltb (frame.start + n) (end_of frame) (omega arith)) refl

-- behind a shorter one lies one span
pub words_behind-some : (n : ℕ) (frame : Span) → n < frame.len → words_behind n frame ≡ record { start = frame.start + n; len = frame.len - n } ∷ []
words_behind-some n frame h =
    rw (lt-ltb (frame.start + n) (end_of frame) (omega arith))
    (let len : end_of frame - (frame.start + n) ≡ frame.len - n = omega arith in λ i. record { start = frame.start + n; len = len i } ∷ [])

-- behind nothing lies the frame
pub words_behind-none : (frame : Span) → 0 < frame.len → words_behind 0 frame ≡ frame ∷ []
words_behind-none frame h =
    let start : frame.start + 0 ≡ frame.start = omega arith in
    let len : frame.len - 0 ≡ frame.len = omega arith in
    words_behind-some 0 frame h ∙ (λ i. record { start = start i; len = len i } ∷ [])

-- the words behind the first n ones are as many as the others
pub free_word_count-behind : (n : ℕ) (frame : Span) → n ≤ frame.len → free_word_count (words_behind n frame) ≡ frame.len - n
free_word_count-behind n frame h =
    elim (cases_lt n frame.len) [
      | inl lt ↦ rw (words_behind-some n frame lt) (omega arith)
      | inr le ↦ rw (words_behind-all n frame le) (omega arith)
    ]

-- a page from which no cell was taken is whole
pub whole_without_cell : (page : SingleState) → 0 < page.frame.len → LeavesOneCell page.frame page.spans → ¬ HasTakenCell page →
    page.spans ≡ page.frame ∷ []
whole_without_cell page p l none =
    elim (cases_lt 0 l.0) [
      | inl taken ↦ absurd (none (front_of l.0 page.frame, record { at_start = refl; not_empty = taken; within = l.1; rest_is_free = l.2 }))
      | inr zero_taken ↦
          let e : l.0 ≡ 0 = omega arith in
          l.2 ∙ ap (λ n. words_behind n page.frame) e ∙ words_behind-none page.frame p
    ]

-- what the first words of a whole frame are, and what is left
pub front_taken : (n : ℕ) (frame : Span) (old new : FreeSpans) (found : Option Span) → FrontsLeaveRests
    → old.spans ≡ frame ∷ [] → n ≤ frame.len → found ≡ option_map (front_of n) (first_fit n old.spans)
    → MatchOption found (new ≡ old) (λ cell. new ≡ record old { spans = without cell old.spans })
    → (found ≡ Some (front_of n frame)) × (new.spans ≡ words_behind n frame) × (new.room ≡ old.room)
front_taken n frame old new found law whole h taken after =
    let fits : option_map (front_of n) (first_fit n (frame ∷ [])) ≡ Some (front_of n frame) = rw (le-leb n frame.len h) refl in
    let got : found ≡ Some (front_of n frame) = taken ∙ ap (λ spans. option_map (front_of n) (first_fit n spans)) whole ∙ fits in
    let left = subst (λ o. MatchOption o (new ≡ old) (λ cell. new ≡ record old { spans = without cell old.spans })) got after in
    let spans = ap (λ ranges. ranges.spans) left ∙ ap (λ spans. without (front_of n frame) spans) whole ∙ law n frame h in
    (got, spans, ap (λ ranges. ranges.room) left)

-- a cell was taken exactly where not all words are free
pub cell_where_words_lack : (page : SingleState) → LeavesOneCell page.frame page.spans
    → (free_word_count page.spans < page.frame.len → HasTakenCell page) × (HasTakenCell page → free_word_count page.spans < page.frame.len)
cell_where_words_lack page l =
    let count : free_word_count page.spans ≡ page.frame.len - l.0 = ap free_word_count l.2 ∙ free_word_count-behind l.0 page.frame l.1 in (
      λ lack. (front_of l.0 page.frame, record { at_start = refl; not_empty = omega arith; within = l.1; rest_is_free = l.2 }),
      λ has.
          let cell = has.0 in
          let few : free_word_count page.spans ≡ page.frame.len - cell.len =
          ap free_word_count has.1.rest_is_free ∙ free_word_count-behind cell.len page.frame has.1.within in
          omega (arith, has.1.not_empty, has.1.within),
    )

-- the taken cell touches the free words, or there are none
pub room_for_cell : (cell frame : Span) (free : FreeSpans) → cell.start ≡ frame.start → free.spans ≡ words_behind cell.len frame → 0 < free.room
    → HasRoomFor free cell
room_for_cell cell frame free e rest h =
    elim (cases_lt cell.len frame.len) [
      | inl less ↦
          let behind : Span = record { start = frame.start + cell.len; len = frame.len - cell.len } in
          let one = rest ∙ words_behind-some cell.len frame less in
          inr (subst (λ spans. Any (Touches cell) spans) (sym one) (0, behind, omega arith, refl, inl (omega arith)))
      | inr more ↦
          let none = ap (length {A = Span}) (rest ∙ words_behind-all cell.len frame more) in
          inl (omega (arith, none))
    ]

-- behind the first words of a frame lies no span that is longer than the frame
behind_is_short : (k n : ℕ) (frame : Span) → k ≤ frame.len → frame.len < n → AllByRecursion (λ span. span.len < n) (words_behind k frame)
behind_is_short k n frame h less =
    elim (cases_lt k frame.len) [
      | inl lt ↦ subst (AllByRecursion (λ (span : Span). span.len < n)) (sym (words_behind-some k frame lt)) (omega arith, tt)
      | inr le ↦ subst (AllByRecursion (λ (span : Span). span.len < n)) (sym (words_behind-all k frame le)) tt
    ]

-- a cell was taken or the frame is too short exactly where the page is not whole or no free span has as many words
module _ (n : ℕ) (page : SingleState) (span : 0 < page.frame.len) (l : LeavesOneCell page.frame page.spans) where
  not_whole : HasTakenCell page → ¬ (page.spans ≡ page.frame ∷ [])
  not_whole has whole =
      let less = (cell_where_words_lack page l).1 has in
      let count = ap free_word_count whole in
      omega (arith, less, count)

  pub unable : HasTakenCell page ⊎ (page.frame.len < n) → (¬ (page.spans ≡ page.frame ∷ [])) ⊎ All (λ s. s.len < n) page.spans
  unable (inl has) = inl (not_whole has)
  unable (inr less) =
      inr (All-from_recursion (λ (s : Span). s.len < n) page.spans
      (subst (AllByRecursion (λ (s : Span). s.len < n)) (sym l.2) (behind_is_short l.0 n page.frame l.1 less)))

  by_size : (0 < l.0) ⊎ (l.0 ≤ 0) → (¬ (page.spans ≡ page.frame ∷ [])) ⊎ All (λ s. s.len < n) page.spans →
      HasTakenCell page ⊎ (page.frame.len < n)
  by_size (inl taken) h = inl (front_of l.0 page.frame, record { at_start = refl; not_empty = taken; within = l.1; rest_is_free = l.2 })
  by_size (inr none) (inl other) =
      let e : l.0 ≡ 0 = omega arith in
      absurd (other (l.2 ∙ ap (λ n. words_behind n page.frame) e ∙ words_behind-none page.frame span))
  by_size (inr none) (inr short) =
      let e : l.0 ≡ 0 = omega arith in
      let whole : page.spans ≡ page.frame ∷ [] = l.2 ∙ ap (λ n. words_behind n page.frame) e ∙ words_behind-none page.frame span in
      inr (subst (All (λ (s : Span). s.len < n)) whole short 0 page.frame (omega arith))

  pub able : (¬ (page.spans ≡ page.frame ∷ [])) ⊎ All (λ s. s.len < n) page.spans → HasTakenCell page ⊎ (page.frame.len < n)
  able h = by_size (cases_lt 0 l.0) h
