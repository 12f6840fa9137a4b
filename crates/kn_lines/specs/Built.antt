-- The words that lines may begin with, the parts of order words, and which of them are built.
use Rattle.std.specs.Prelude.{ℕ, Bool, false, Option, Some, None, List, [], ◌∷◌, find, bytes_eq, slice_index_or, codes, if◌then◌else◌, ◌≡◌}
use Rattle.std.specs.Prelude.{true}
use Rattle.std.specs.List.{AllByRecursion}
use Rattle.kn_graph.specs.declared.calls.Call.{Call as Made}
use Rattle.kn_graph.specs.Arguments.{word_of}
use Rattle.kn_graph.specs.declared.arguments.CallWord.{CallWord}
use Rattle.kn_graph.specs.declared.arguments.CallWord.TheVariants as call
use Rattle.kn_lines.specs.declared.built.HeaderWord.{HeaderWord}
use Rattle.kn_lines.specs.declared.built.HeaderWord.TheVariants as header
use Rattle.kn_lines.specs.declared.built.OrderPart.{OrderPart}
use Rattle.kn_lines.specs.declared.built.OrderPart.TheVariants as part
use Rattle.kn_lines.specs.declared.built.FirstWord.{FirstWord}
use Rattle.kn_lines.specs.declared.built.FirstWord.TheVariants.{Header, Call}
use Rattle.kn_lines.specs.declared.built.Built.{Built}

-- how a header word is spelled
abbrev pub header_spelling : HeaderWord → List ℕ
header_spelling header.Heap = codes "heap"
header_spelling header.Names = codes "names"
header_spelling header.Layout = codes "layout"
header_spelling header.Threads = codes "threads"
header_spelling header.Turns = codes "turns"
header_spelling header.Thread = codes "thread"
header_spelling header.Order = codes "order"

-- how a call word is spelled
abbrev pub call_spelling : CallWord → List ℕ
call_spelling call.New = codes "new"
call_spelling call.NewArray = codes "newa"
call_spelling call.Copy = codes "copy"
call_spelling call.Clear = codes "clear"
call_spelling call.Same = codes "same"
call_spelling call.Get = codes "get"
call_spelling call.Set = codes "set"
call_spelling call.Put = codes "put"
call_spelling call.Read = codes "read"
call_spelling call.GlobalSet = codes "gset"
call_spelling call.GlobalGet = codes "gget"
call_spelling call.Pin = codes "pin"
call_spelling call.Unpin = codes "unpin"
call_spelling call.StableGet = codes "hget"
call_spelling call.MakeWeak = codes "weak"
call_spelling call.WeakGet = codes "wget"
call_spelling call.MakeBack = codes "back"
call_spelling call.Retain = codes "retain"
call_spelling call.Release = codes "release"
call_spelling call.BackGet = codes "bget"
call_spelling call.Tie = codes "tie"
call_spelling call.Collect = codes "gc"

-- all header words, and all call words
abbrev pub header_words : List HeaderWord
header_words =
    header.Heap ∷ header.Names ∷ header.Layout ∷ header.Threads ∷ header.Turns ∷ header.Thread ∷ header.Order ∷ []

abbrev pub call_words : List CallWord
call_words =
    call.New ∷ call.NewArray ∷ call.Copy ∷ call.Clear ∷ call.Same ∷ call.Get ∷ call.Set ∷ call.Put ∷ call.Read ∷
    call.GlobalSet ∷ call.GlobalGet ∷ call.Pin ∷ call.Unpin ∷ call.StableGet ∷ call.MakeWeak ∷ call.WeakGet ∷
    call.MakeBack ∷ call.Retain ∷ call.Release ∷ call.BackGet ∷ call.Tie ∷ call.Collect ∷ []

-- the header word, the call word among these, or the call word, that a word spells
abbrev pub header_word_of : List ℕ → Option HeaderWord
header_word_of word = find (λ h. bytes_eq word (header_spelling h)) header_words

abbrev pub call_among : List CallWord → List ℕ → Option CallWord
call_among calls word = find (λ c. bytes_eq word (call_spelling c)) calls

abbrev pub call_word_of : List ℕ → Option CallWord
call_word_of word = call_among call_words word

-- the places of header words, call words and parts of order words in the lists of what is built
abbrev pub header_place : HeaderWord → ℕ
header_place header.Heap = 0
header_place header.Names = 1
header_place header.Layout = 2
header_place header.Threads = 3
header_place header.Turns = 4
header_place header.Thread = 5
header_place header.Order = 6

abbrev pub call_place : CallWord → ℕ
call_place call.New = 0
call_place call.NewArray = 1
call_place call.Copy = 2
call_place call.Clear = 3
call_place call.Same = 4
call_place call.Get = 5
call_place call.Set = 6
call_place call.Put = 7
call_place call.Read = 8
call_place call.GlobalSet = 9
call_place call.GlobalGet = 10
call_place call.Pin = 11
call_place call.Unpin = 12
call_place call.StableGet = 13
call_place call.MakeWeak = 14
call_place call.WeakGet = 15
call_place call.MakeBack = 16
call_place call.Retain = 17
call_place call.Release = 18
call_place call.BackGet = 19
call_place call.Tie = 20
call_place call.Collect = 21

abbrev pub part_place : OrderPart → ℕ
part_place part.Thread = 0
part_place part.Collector = 1
part_place part.Finalizer = 2
part_place part.Round = 3
part_place part.Turns = 4
part_place part.Calls = 5
part_place part.Code = 6
part_place part.Uninstall = 7

-- a header word, a call word or a part of order words is built
abbrev pub has_header : Built → HeaderWord → Bool
has_header built word = slice_index_or built.headers (header_place word) false

abbrev pub has_call : Built → CallWord → Bool
has_call built word = slice_index_or built.calls (call_place word) false

abbrev pub has_part : Built → OrderPart → Bool
has_part built p = slice_index_or built.orders (part_place p) false

-- what there is, where the test says so
abbrev pub only_if : {X : Type 0} → Bool → Option X → Option X
only_if test found = if test then found else None

-- the first word of a line, from the call word and the header word that it spells
abbrev pub if_built : Built → Option CallWord → Option HeaderWord → Option FirstWord
if_built built (Some c) other = only_if (has_call built c) (Some (Call c))
if_built built None (Some h) = only_if (has_header built h) (Some (Header h))
if_built built None None = None

-- the first word that a word spells, where it is built
unfoldable pub first_word_of : Built → List ℕ → Option FirstWord
first_word_of built word = if_built built (call_word_of word) (header_word_of word)

-- the word of a call is built, and so are those of all calls of the threads
abbrev pub IsBuilt : Built → Made → Type 0
IsBuilt built made = has_call built (word_of made) ≡ true

abbrev pub AreBuilt : Built → List (List Made) → Type 0
AreBuilt built threads = AllByRecursion (AllByRecursion (IsBuilt built)) threads
