use Rattle.std.proofs.Common.{◌≡◌, ◌+◌, [], ◌∷◌, length}
use Rattle.kn_script.specs.Reasons.{earlier, first_of, word_reasons}
use Rattle.kn_script.specs.Readings.{written}
use Rattle.kn_script.proofs.reasons.read_first.Given as goal

abbrev pub invariant-loop-place : goal.invariant-loop-place
invariant-loop-place l = record {
  first : earlier l.found (first_of (word_reasons l.progress l.form l.place l.words)) ≡ first_of (word_reasons l.progress l.form 0 l.fn.words);
  values : written l.values l.place l.words ≡ written (0 ∷ 0 ∷ 0 ∷ 0 ∷ 0 ∷ 0 ∷ []) 0 l.fn.words;
  six : length l.values ≡ 6;
  count : l.place + length l.words ≡ length l.fn.words;
}
