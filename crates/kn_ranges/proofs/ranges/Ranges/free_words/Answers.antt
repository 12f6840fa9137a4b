use Rattle.std.proofs.Common.{◌≡◌, List, length, take, ap, arith}
use Rattle.std.proofs.lemmas.List.Sums.{sum_by_more_le}
use Rattle.kn_base.specs.declared.numbers.Span.{Span}
use Rattle.kn_base.specs.SpanLists.{free_word_count}
use Rattle.kn_ranges.proofs.FreeWords.{free_words_below}
use Rattle.kn_ranges.proofs.ranges.Ranges.free_words.Goals as goal

pub overflow_add-words : goal.overflow_add-words
overflow_add-words c =
    let items : List Span = c.self.inside.free.spans in
    let so_far : c.loop-span.words ≡ free_word_count (take c.loop-span.span-index items) = rw c.spans-span-items.ensures.spans at c.loop-span.invariant in
    let same = ap length c.spans-span-items.ensures.spans in
    let few = free_words_below 0 _ items (omega arith) c.self.invariant in
    let more = sum_by_more_le (λ (span : Span). span.len) items c.loop-span.span-index (record { start = 0; len = 0 }) (omega (arith, same)) in
    rw c.spans-span-items.ensures.spans (omega arith)
