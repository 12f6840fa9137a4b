use Rattle.std.proofs.Common.{◌≡◌, take}
use Rattle.kn_base.specs.SpanLists.{free_word_count}
use Rattle.kn_ranges.proofs.ranges.Ranges.free_words.Given as goal

abbrev pub invariant-loop-span : goal.invariant-loop-span
invariant-loop-span l = l.words ≡ free_word_count (take l.span-index l.span-items)
