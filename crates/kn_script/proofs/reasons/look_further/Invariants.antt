use Rattle.std.proofs.Common.{◌≡◌, ◌+◌, length}
use Rattle.kn_script.specs.Reasons.{earlier, first_of, further_reasons}
use Rattle.kn_script.proofs.reasons.look_further.Given as goal

abbrev pub invariant-loop-word : goal.invariant-loop-word
invariant-loop-word l = record {
  first : earlier l.found (first_of (further_reasons l.progress l.want l.words)) ≡ first_of (further_reasons l.progress l.want l.fn.words);
  count : l.count + length l.words ≡ length l.fn.words;
}

abbrev pub decreases-loop-word : goal.decreases-loop-word
decreases-loop-word l = length l.words
