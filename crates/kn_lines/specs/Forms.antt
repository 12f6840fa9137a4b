-- How the lines of each first word look, and between which lines they stand.
use Rattle.std.specs.Prelude.{ℕ, ◌+◌, true, false, Option, Some, None, List, [], ◌∷◌, length, bytes_eq, slice_get, slice_index_or, codes}
use Rattle.std.specs.Prelude.{if◌then◌else◌}
use Rattle.kn_base.specs.declared.limits.TheConstants.{MOST_THREADS, MOST_NAMES, MOST_FRAMES, LEAST_FRAME_WORDS, LEAST_EXTRA_WORDS, MOST_FRAME_WORDS}
use Rattle.kn_base.specs.declared.limits.TheConstants.{LONGEST_TEXT}
use Rattle.kn_graph.specs.declared.arguments.Argument.{Argument}
use Rattle.kn_graph.specs.Arguments.{arguments_of}
use Rattle.kn_lines.specs.declared.built.HeaderWord.{HeaderWord}
use Rattle.kn_lines.specs.declared.built.HeaderWord.TheVariants as header
use Rattle.kn_lines.specs.declared.built.FirstWord.{FirstWord}
use Rattle.kn_lines.specs.declared.built.FirstWord.TheVariants.{Header, Call}
use Rattle.kn_lines.specs.declared.forms.Wanted.{Wanted}
use Rattle.kn_lines.specs.declared.forms.Wanted.TheVariants as wanted
use Rattle.kn_lines.specs.declared.forms.Form.{Form}

-- a line with these words behind its first one, so many, which stands between two stages
abbrev pub line_form_of : List Wanted → ℕ → ℕ → ℕ → Form
line_form_of places count from until = record {
  places = places;
  further = wanted.Untested;
  least = count;
  most = count;
  from = from;
  until = until;
  in_block = false;
}

-- a line with one word or more behind its first one
abbrev pub open_form_of : Wanted → Wanted → ℕ → ℕ → Form
open_form_of first further from until = record {
  places = first ∷ further ∷ further ∷ further ∷ further ∷ further ∷ [];
  further = further;
  least = 1;
  most = LONGEST_TEXT + 1;
  from = from;
  until = until;
  in_block = false;
}

-- a line of a call with these words behind its first one, so many: behind the threads line, before the order, in the
-- block of a thread
abbrev pub call_form_of : Wanted → Wanted → Wanted → ℕ → Form
call_form_of first second third count = record {
  places = first ∷ second ∷ third ∷ wanted.Untested ∷ wanted.Untested ∷ wanted.Untested ∷ [];
  further = wanted.Untested;
  least = count;
  most = count;
  from = 3;
  until = 5;
  in_block = true;
}

-- what is wanted at a place of arguments; past the last one no word is tested
abbrev pub if_argument : Option Argument → Wanted
if_argument None = wanted.Untested
if_argument (Some argument) = wanted.Argument argument

abbrev pub nth_wanted : List Argument → ℕ → Wanted
nth_wanted arguments place = if_argument (slice_get arguments place)

-- the form of a line with these arguments, of which there are three at most
abbrev pub form_of_arguments : List Argument → Form
form_of_arguments arguments =
    call_form_of (nth_wanted arguments 0) (nth_wanted arguments 1) (nth_wanted arguments 2) (length arguments)

abbrev pub heap_places_of : List Wanted
heap_places_of =
    wanted.Number 1 MOST_FRAMES ∷ wanted.Number LEAST_FRAME_WORDS MOST_FRAME_WORDS ∷
    wanted.Number 0 MOST_FRAMES ∷ wanted.Number LEAST_FRAME_WORDS MOST_FRAME_WORDS ∷
    wanted.Number 0 MOST_FRAMES ∷ wanted.Number LEAST_EXTRA_WORDS MOST_FRAME_WORDS ∷ []

abbrev pub names_places_of : List Wanted
names_places_of =
    wanted.Number 0 MOST_NAMES ∷ wanted.Number 0 MOST_NAMES ∷ wanted.Number 0 MOST_NAMES ∷ wanted.Number 0 MOST_NAMES ∷
    wanted.Untested ∷ wanted.Untested ∷ []

abbrev pub one_place_of : Wanted → List Wanted
one_place_of first = first ∷ wanted.Untested ∷ wanted.Untested ∷ wanted.Untested ∷ wanted.Untested ∷ wanted.Untested ∷ []

abbrev pub array_places_of : List Wanted
array_places_of = wanted.Shape ∷ wanted.Kind ∷ wanted.Untested ∷ wanted.Untested ∷ wanted.Untested ∷ wanted.Untested ∷ []

-- the form of the lines of each header word with these words behind it
abbrev pub header_form_of : HeaderWord → List (List ℕ) → Form
header_form_of header.Heap words = line_form_of heap_places_of 6 0 0
header_form_of header.Names words = line_form_of names_places_of 4 1 1
header_form_of header.Layout words =
    if bytes_eq (slice_index_or words 0 []) (codes "array")
    then line_form_of array_places_of 2 2 2
    else open_form_of wanted.Shape wanted.Kind 2 2
header_form_of header.Threads words = line_form_of (one_place_of (wanted.Number 1 MOST_THREADS)) 1 2 2
header_form_of header.Turns words = line_form_of (one_place_of (wanted.Number 1 18446744073709551615)) 1 3 3
header_form_of header.Thread words = line_form_of (one_place_of wanted.Thread) 1 3 5
header_form_of header.Order words = open_form_of wanted.Scheduled wanted.Scheduled 3 6

-- the form of the lines of each first word with these words behind it
abbrev pub form_of : FirstWord → List (List ℕ) → Form
form_of (Header word) words = header_form_of word words
form_of (Call word) words = form_of_arguments (arguments_of word)

-- what is wanted at a place behind the first word
abbrev pub wanted_at : Form → ℕ → Wanted
wanted_at form place = slice_index_or form.places place form.further
