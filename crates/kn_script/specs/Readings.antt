-- What the parser keeps of words: numbers within their types, and what is read of a line in one go.
use Rattle.std.specs.Prelude.{◌≡◌, ℕ, ◌+◌, ◌≤◌, false, Option, Some, None, List, [], ◌∷◌, length, slice_set}
use Rattle.kn_graph.specs.declared.arguments.Argument.{Argument}
use Rattle.kn_graph.specs.Ground.{Ground}
use Rattle.kn_graph.specs.Arguments.{Fits}
use Rattle.kn_lines.specs.declared.forms.Wanted.{Wanted}
use Rattle.kn_lines.specs.declared.forms.Form.{Form}
use Rattle.kn_lines.specs.Numbers.{value_of}
use Rattle.kn_lines.specs.Values.{values_of}
use Rattle.kn_script.specs.declared.reasons.Reading.{Reading}
use Rattle.kn_script.specs.declared.reasons.Further.{Further}
use Rattle.kn_script.specs.Scripts.{Progress}
use Rattle.kn_script.specs.Reasons.{is_word, earlier, word_reasons, further_reasons, first_of}

-- a number fits the argument at its place
abbrev pub FitsAt : Ground → Option Argument → ℕ → Type 0
FitsAt z None n = ⊥
FitsAt z (Some a) n = Fits z a n

-- values, with those of the words from a place on
abbrev pub written : List ℕ → ℕ → List (List ℕ) → List ℕ
written values place [] = values
written values place (word ∷ words) = written (slice_set values place (value_of word)) (place + 1) words

-- the first reason that words meet, each at what is wanted there, and how many were looked at: all of them, unless the
-- reason is `word`
pub record IsFurther (p : Progress) (want : Wanted) (words : List (List ℕ)) (further : Further) : Type 0 where
  pub found : further.found ≡ first_of (further_reasons p want words)
  pub few : further.count ≤ length words
  pub count : is_word further.found ≡ false → further.count ≡ length words

-- the words of a line at the first places were read, and these are left
pub record IsBegun (p : Progress) (form : Form) (words left : List (List ℕ)) (read : Reading) : Type 0 where
  pub found : earlier read.found (first_of (further_reasons p form.further left)) ≡ first_of (word_reasons p form 0 words)
  pub values : read.values ≡ values_of words
  pub count : read.count + length left ≡ length words

-- the first reason that the words meet at their places, the numbers at the first places, and the number of words, unless
-- the reason is `word`
pub record IsReading (p : Progress) (form : Form) (words : List (List ℕ)) (read : Reading) : Type 0 where
  pub found : read.found ≡ first_of (word_reasons p form 0 words)
  pub values : read.values ≡ values_of words
  pub count : is_word read.found ≡ false → read.count ≡ length words
