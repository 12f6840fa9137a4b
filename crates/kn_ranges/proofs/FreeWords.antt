-- How many words a list of free spans has.
use Rattle.std.proofs.Common.{ℕ, ◌+◌, ◌<◌, ◌≤◌, List, [], ◌∷◌, arith}
use Rattle.std.proofs.lemmas.List.Sums.{sum_by-cons}
use Rattle.kn_base.specs.declared.numbers.Span.{Span}
use Rattle.kn_base.specs.Spans.{end_of}
use Rattle.kn_base.specs.SpanLists.{StandApart, free_word_count}

-- spans that stand apart have no more words than lie between their bounds
pub free_words_within : (low high : ℕ) (spans : List Span) → low ≤ high → StandApart low high spans → low + free_word_count spans ≤ high
free_words_within low high [] h a = omega arith
free_words_within low high (s ∷ spans) h a =
    let rest = free_words_within (end_of s + 1) high spans (omega (arith, a.2)) a.3 in
    omega (arith, a.0, sum_by-cons (λ (span : Span). span.len) s spans)

-- and they leave out the last place
pub free_words_below : (low high : ℕ) (spans : List Span) → low < high → StandApart low high spans → low + free_word_count spans < high
free_words_below low high [] h a = omega arith
free_words_below low high (s ∷ spans) h a =
    let rest = free_words_within (end_of s + 1) high spans (omega (arith, a.2)) a.3 in
    omega (arith, a.0, sum_by-cons (λ (span : Span). span.len) s spans)
