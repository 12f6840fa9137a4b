-- The table of reasons: why a line is bad behind what the lines so far have given.
use Rattle.std.specs.Prelude.{◌≡◌, ◌⊎◌, ℕ, ◌+◌, ◌<◌, nat_lt, nat_le, Bool, true, false, not, ◌&&◌, ◌||◌, Option, Some, None, List}
use Rattle.std.specs.Prelude.{[], ◌∷◌, length, slice_get, bytes_eq, codes, if◌then◌else◌}
use Rattle.kn_base.specs.declared.limits.TheConstants.{MOST_LAYOUTS, MOST_CALLS, MOST_CLEANERS, MOST_ORDER_WORDS}
use Rattle.kn_layout.specs.declared.layouts.Layout.{Layout}
use Rattle.kn_layout.specs.declared.layouts.Layout.TheVariants.{Fields, Array}
use Rattle.kn_graph.specs.declared.arguments.Argument.{Argument}
use Rattle.kn_graph.specs.declared.arguments.Argument.TheVariants as argument
use Rattle.kn_lines.specs.declared.orders.Actor.{Actor}
use Rattle.kn_lines.specs.declared.orders.Actor.TheVariants as who
use Rattle.kn_lines.specs.declared.orders.OrderWord.{OrderWord}
use Rattle.kn_lines.specs.declared.orders.OrderWord.TheVariants.{Run, Uninstall}
use Rattle.kn_lines.specs.declared.built.HeaderWord.{HeaderWord}
use Rattle.kn_lines.specs.declared.built.HeaderWord.TheVariants as header
use Rattle.kn_lines.specs.declared.built.FirstWord.{FirstWord}
use Rattle.kn_lines.specs.declared.built.FirstWord.TheVariants as first
use Rattle.kn_lines.specs.declared.forms.Wanted.{Wanted}
use Rattle.kn_lines.specs.declared.forms.Wanted.TheVariants as wanted
use Rattle.kn_lines.specs.declared.forms.Form.{Form}
use Rattle.kn_lines.specs.Lines.{Numbered, has_odd_byte}
use Rattle.kn_lines.specs.Numbers.{number_of}
use Rattle.kn_lines.specs.Built.{first_word_of}
use Rattle.kn_lines.specs.Orders.{order_of}
use Rattle.kn_lines.specs.Forms.{form_of, wanted_at}
use Rattle.kn_lines.specs.Values.{kind_of, values_of}
use Rattle.kn_lines.specs.Ranges.{is_outside, is_until_outside, is_large_heap, is_long_layout}
use Rattle.kn_script.specs.declared.faults.Why.{Why}
use Rattle.kn_script.specs.declared.faults.Why.TheVariants.{Word, Number, Range, Count, Order, Late, Long}
use Rattle.kn_script.specs.Scripts.{Progress}

-- the row of a reason in the table
abbrev pub row : Why → ℕ
row Word = 0
row Number = 1
row Range = 2
row Count = 3
row Order = 4
row Late = 5
row Long = 6

-- the reason `word`, before which none stands in the table
abbrev pub is_word : Option Why → Bool
is_word (Some Word) = true
is_word _ = false

-- the reason, where the test says so
abbrev pub when : Bool → Why → Option Why
when test why = if test then Some why else None

-- the threads line has come: the layouts and the threads are known
abbrev pub is_closed : Progress → Bool
is_closed p = nat_le 3 p.stage

-- a thread that is not there; before the threads line that is not known
abbrev pub is_no_thread : Progress → ℕ → Bool
is_no_thread p thread = is_closed p && nat_le (length p.threads) thread

-- a name that is not there; before the names line that is not known
abbrev pub is_no_name : Progress → ℕ → ℕ → Bool
is_no_name p count name = nat_le 2 p.stage && nat_le count name

-- not a layout of fields, or of an array; a layout that may still come is not known
abbrev pub if_fields : Progress → Option Layout → Bool
if_fields p None = is_closed p
if_fields p (Some (Fields kinds)) = false
if_fields p (Some (Array kind)) = true

abbrev pub if_array : Progress → Option Layout → Bool
if_array p None = is_closed p
if_array p (Some (Fields kinds)) = true
if_array p (Some (Array kind)) = false

abbrev pub is_no_fields : Progress → ℕ → Bool
is_no_fields p layout = if_fields p (slice_get p.layouts layout)

abbrev pub is_no_array : Progress → ℕ → Bool
is_no_array p layout = if_array p (slice_get p.layouts layout)

-- a number that is not in the range of an argument
abbrev pub is_misfit : Progress → Argument → ℕ → Bool
is_misfit p (argument.Number greatest) n = nat_lt greatest n
is_misfit p argument.FieldsLayout n = is_no_fields p n
is_misfit p argument.ArrayLayout n = is_no_array p n
is_misfit p argument.Global n = is_no_name p p.names.globals n
is_misfit p argument.Stable n = is_no_name p p.names.stable n
is_misfit p argument.Weak n = is_no_name p p.names.weak n
is_misfit p argument.Back n = is_no_name p p.names.back n

-- an order word out of range: a thread that is not there, a number of times, or a cleaner
abbrev pub is_actor_outside : Progress → Actor → Bool
is_actor_outside p (who.Thread thread) = is_no_thread p thread
is_actor_outside p _ = false

abbrev pub is_order_outside : Progress → OrderWord → Bool
is_order_outside p (Run actor u) = is_actor_outside p actor || is_until_outside u
is_order_outside p (Uninstall cleaner) = nat_le MOST_CLEANERS cleaner

-- `range` or `late`, at the number of the next thread
abbrev pub thread_reason : Progress → ℕ → Option Why
thread_reason p thread = if is_no_thread p thread then Some Range else when (nat_lt thread p.next) Late

-- `number` where a word is no number, and else what its number meets
abbrev pub of_number : (ℕ → Option Why) → Option ℕ → Option Why
of_number reason None = Some Number
of_number reason (Some n) = reason n

-- `word` where a word is none of those that are known, and else what it meets
abbrev pub of_word : {X : Type 0} → (X → Option Why) → Option X → Option Why
of_word reason None = Some Word
of_word reason (Some x) = reason x

-- the first reason that a number meets where it is wanted
abbrev pub number_reason : Progress → Wanted → ℕ → Option Why
number_reason p (wanted.Number least greatest) n = when (is_outside least greatest n) Range
number_reason p (wanted.Argument a) n = when (is_misfit p a n) Range
number_reason p wanted.Thread n = thread_reason p n
number_reason p _ n = None

-- the first reason that a word meets at what is wanted at its place
abbrev pub reason_at : Progress → Wanted → List ℕ → Option Why
reason_at p wanted.Untested word = None
reason_at p wanted.Shape word = when (not (bytes_eq word (codes "fields") || bytes_eq word (codes "array"))) Word
reason_at p wanted.Kind word = of_word (λ _. None) (kind_of word)
reason_at p wanted.Scheduled word = of_word (λ order. when (is_order_outside p order) Range) (order_of p.built word)
reason_at p want word = of_number (number_reason p want) (number_of word)

-- a reason in front of others, if there is one
abbrev pub and_then : Option Why → List Why → List Why
and_then None reasons = reasons
and_then (Some why) reasons = why ∷ reasons

-- what the words from a place on meet
abbrev pub word_reasons : Progress → Form → ℕ → List (List ℕ) → List Why
word_reasons p form place [] = []
word_reasons p form place (word ∷ words) = and_then (reason_at p (wanted_at form place) word) (word_reasons p form (place + 1) words)

-- what words meet, each at what is wanted there
abbrev pub further_reasons : Progress → Wanted → List (List ℕ) → List Why
further_reasons p want [] = []
further_reasons p want (word ∷ words) = and_then (reason_at p want word) (further_reasons p want words)

-- more than there is room for: a heap, kinds or layouts, or order words
abbrev pub is_header_too_much : Progress → HeaderWord → List (List ℕ) → Bool
is_header_too_much p header.Heap words = is_large_heap (values_of words) (length words)
is_header_too_much p header.Layout words = is_long_layout words || nat_le MOST_LAYOUTS (length p.layouts)
is_header_too_much p header.Order words = nat_lt MOST_ORDER_WORDS (length p.order + length words)
is_header_too_much p _ words = false

-- more than there is room for, or one call more
abbrev pub is_too_much : Progress → FirstWord → List (List ℕ) → Bool
is_too_much p (first.Header word) words = is_header_too_much p word words
is_too_much p (first.Call word) words = nat_le MOST_CALLS p.calls

-- too few or too many words
abbrev pub is_other_count : Form → List (List ℕ) → Bool
is_other_count form words = is_outside form.least form.most (length words)

-- before a line that must stand before it
abbrev pub is_early : Progress → Form → Bool
is_early p form = nat_lt p.stage form.from || (form.in_block && nat_lt p.next 1)

-- behind a line that must stand behind it, or once more
abbrev pub is_late : Progress → Form → Bool
is_late p form = nat_lt form.until p.stage

-- the reasons of a line whose first word is known
abbrev pub reasons_of : Progress → FirstWord → List (List ℕ) → List Why
reasons_of p word words =
    and_then (when (is_too_much p word words) Range)
    (and_then (when (is_other_count (form_of word words) words) Count)
    (and_then (when (is_early p (form_of word words)) Order)
    (and_then (when (is_late p (form_of word words)) Late)
    (word_reasons p (form_of word words) 0 words))))

-- the words behind a first word meet no reason
pub record MeetsNone (p : Progress) (word : FirstWord) (words : List (List ℕ)) : Type 0 where
  pub places : word_reasons p (form_of word words) 0 words ≡ []
  pub room : is_too_much p word words ≡ false
  pub count : is_other_count (form_of word words) words ≡ false
  pub come : is_early p (form_of word words) ≡ false
  pub in_time : is_late p (form_of word words) ≡ false

-- `word` where the first word is not known
abbrev pub if_known : (FirstWord → List Why) → Option FirstWord → List Why
if_known reasons None = Word ∷ []
if_known reasons (Some word) = reasons word

-- the reasons that a line meets
abbrev pub reasons : Progress → Numbered → List Why
reasons p line = and_then (when (has_odd_byte line.text) Word)
    (if_known (λ word. reasons_of p word line.arguments) (first_word_of p.built line.name))

-- the reason of the two that stands first in the table
abbrev pub sooner : Why → Option Why → Option Why
sooner why None = Some why
sooner why (Some other) = if nat_le (row why) (row other) then Some why else Some other

abbrev pub earlier : Option Why → Option Why → Option Why
earlier None other = other
earlier (Some why) other = sooner why other

-- the one of the reasons that stands first in the table
abbrev pub first_of : List Why → Option Why
first_of [] = None
first_of (why ∷ reasons) = sooner why (first_of reasons)

-- the reason is one of them
abbrev pub IsAmong : List Why → Why → Type 0
IsAmong [] why = ⊥
IsAmong (other ∷ reasons) why = (other ≡ why) ⊎ IsAmong reasons why

-- the line meets the reason
abbrev pub Meets : Progress → Numbered → Why → Type 0
Meets p line why = IsAmong (reasons p line) why

-- the reason is one of them, and none of them stands before it in the table
pub record StandsFirst (reasons : List Why) (why : Why) : Type 0 where
  pub among : IsAmong reasons why
  pub first : (other : Why) → row other < row why → IsAmong reasons other → ⊥

-- the reason is the first one that the line meets
abbrev pub IsFirst : Progress → Numbered → Why → Type 0
IsFirst p line why = StandsFirst (reasons p line) why
