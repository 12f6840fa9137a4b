-- Sorted lists of free spans: the words that they have, what is taken out of them and what is put in.
use Rattle.std.specs.Prelude.{ℕ, ◌+◌, ◌-◌, ◌^◌, ◌<◌, ◌≤◌, ◌≡◌, ◌⊎◌, List, [], ◌∷◌, ◌++◌, Option, filter, find}
use Rattle.std.specs.Prelude.{if◌then◌else◌, nat_le, nat_lt, min, max, sum_by}
use Rattle.std.specs.List.{flat_map}
use Rattle.kn_base.specs.declared.numbers.Span.{Span}
use Rattle.kn_base.specs.Spans.{end_of}

-- the first n words of a span
abbrev pub front_of : ℕ → Span → Span
front_of n span = record { start = span.start; len = n }

-- a word is in the span
abbrev pub HasWord : Span → ℕ → Type 0
HasWord span word = (span.start ≤ word) × (word < end_of span)

-- a word is in one of the spans
abbrev pub Covers : List Span → ℕ → Type 0
Covers [] word = ⊥
Covers (span ∷ spans) word = HasWord span word ⊎ Covers spans word

-- the words of all the spans
abbrev pub free_word_count : List Span → ℕ
free_word_count spans = sum_by (λ span. span.len) spans

-- spans in order from `low` on, the last one ending before `high`, each with a word, and a word or more between each two
abbrev pub StandApart : ℕ → ℕ → List Span → Type 0
StandApart low high [] = Unit {0}
StandApart low high (span ∷ spans) = (low ≤ span.start) × (0 < span.len) × (end_of span < high) × StandApart (end_of span + 1) high spans

-- a list of free spans: in order, none empty, none touching another, each end an address
abbrev pub IsFreeList : List Span → Type 0
IsFreeList spans = StandApart 0 (2 ^ 32) spans

-- a list of free spans of one frame
abbrev pub IsFreeListOf : Span → List Span → Type 0
IsFreeListOf frame spans = StandApart frame.start (end_of frame + 1) spans

-- all words of the frame are free
abbrev pub IsWhollyFree : Span → List Span → Type 0
IsWhollyFree frame spans = spans ≡ frame ∷ []

-- one span ends where the other begins
abbrev pub Touches : Span → Span → Type 0
Touches a b = (end_of a ≡ b.start) ⊎ (end_of b ≡ a.start)

-- the first span with at least n words, if there is one
abbrev pub first_fit : ℕ → List Span → Option Span
first_fit n spans = find (λ span. nat_le n span.len) spans

-- the spans that begin at or after an address
abbrev pub spans_from : ℕ → List Span → List Span
spans_from low spans = filter (λ span. nat_le low span.start) spans

-- the words from one address up to another: one span, or none where there is no word
abbrev pub words_between : ℕ → ℕ → List Span
words_between low high = if nat_lt low high then record { start = low; len = high - low } ∷ [] else []

-- the words of a span that are not in the cell: those before it, then those behind it
abbrev pub span_without : Span → Span → List Span
span_without cell span = words_between span.start (min (end_of span) cell.start) ++ words_between (max span.start (end_of cell)) (end_of span)

-- the spans without the words of the cell
abbrev pub without : Span → List Span → List Span
without cell spans = flat_map (span_without cell) spans

-- the least span that has the words of both
abbrev pub joined : Span → Span → Span
joined a b = let start = min a.start b.start in record { start = start; len = max (end_of a) (end_of b) - start }

-- the spans with one more put in at its place, and joined with those that touch it
abbrev pub put_in : Span → List Span → List Span
put_in new [] = new ∷ []
put_in new (span ∷ spans) =
    if nat_lt (end_of new) span.start then new ∷ span ∷ spans
    else if nat_lt (end_of span) new.start then span ∷ put_in new spans
    else put_in (joined new span) spans
