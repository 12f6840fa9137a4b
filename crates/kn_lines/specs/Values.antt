-- What the words of a line give: a kind, a call, frames, names, or a layout.
use Rattle.std.specs.Prelude.{ℕ, Option, Some, None, List, [], ◌∷◌, filter_map, slice_index, slice_index_or, bytes_eq, codes, if◌then◌else◌}
use Rattle.kn_layout.specs.declared.layouts.FieldKind.{FieldKind}
use Rattle.kn_layout.specs.declared.layouts.FieldKind.TheVariants.{Ref, Int}
use Rattle.kn_layout.specs.declared.layouts.Layout.{Layout}
use Rattle.kn_layout.specs.declared.layouts.Layout.TheVariants.{Fields, Array}
use Rattle.kn_graph.specs.declared.arguments.CallWord.{CallWord}
use Rattle.kn_graph.specs.declared.arguments.CallWord.TheVariants as call
use Rattle.kn_graph.specs.declared.calls.Call.{Call}
use Rattle.kn_graph.specs.declared.calls.Call.TheVariants as made
use Rattle.kn_lines.specs.declared.header_lines.FrameSizes.{FrameSizes}
use Rattle.kn_lines.specs.declared.header_lines.NameCounts.{NameCounts}
use Rattle.kn_lines.specs.Numbers.{value_at}

-- the kind that a word spells
abbrev pub kind_of : List ℕ → Option FieldKind
kind_of word = if bytes_eq word (codes "ref") then Some Ref else (if bytes_eq word (codes "int") then Some Int else None)

-- the call of a word with these numbers
abbrev pub call_from : CallWord → List ℕ → Call
call_from call.New ns = made.New (slice_index ns 0) (slice_index ns 1)
call_from call.NewArray ns = made.NewArray (slice_index ns 0) (slice_index ns 1) (slice_index ns 2)
call_from call.Copy ns = made.Copy (slice_index ns 0) (slice_index ns 1)
call_from call.Clear ns = made.Clear (slice_index ns 0)
call_from call.Same ns = made.Same (slice_index ns 0) (slice_index ns 1)
call_from call.Get ns = made.Get (slice_index ns 0) (slice_index ns 1) (slice_index ns 2)
call_from call.Set ns = made.Set (slice_index ns 0) (slice_index ns 1) (slice_index ns 2)
call_from call.Put ns = made.Put (slice_index ns 0) (slice_index ns 1) (slice_index ns 2)
call_from call.Read ns = made.Read (slice_index ns 0) (slice_index ns 1)
call_from call.GlobalSet ns = made.GlobalSet (slice_index ns 0) (slice_index ns 1)
call_from call.GlobalGet ns = made.GlobalGet (slice_index ns 0) (slice_index ns 1)
call_from call.Pin ns = made.Pin (slice_index ns 0) (slice_index ns 1)
call_from call.Unpin ns = made.Unpin (slice_index ns 0)
call_from call.StableGet ns = made.StableGet (slice_index ns 0) (slice_index ns 1)
call_from call.MakeWeak ns = made.MakeWeak (slice_index ns 0) (slice_index ns 1)
call_from call.WeakGet ns = made.WeakGet (slice_index ns 0) (slice_index ns 1)
call_from call.MakeBack ns = made.MakeBack (slice_index ns 0) (slice_index ns 1)
call_from call.Retain ns = made.Retain (slice_index ns 0)
call_from call.Release ns = made.Release (slice_index ns 0)
call_from call.BackGet ns = made.BackGet (slice_index ns 0) (slice_index ns 1)
call_from call.Tie ns = made.Tie (slice_index ns 0) (slice_index ns 1) (slice_index ns 2)
call_from call.Collect ns = made.Collect

-- the numbers that the first six words spell, and 0 where there is none
abbrev pub values_of : List (List ℕ) → List ℕ
values_of words =
    value_at words 0 ∷ value_at words 1 ∷ value_at words 2 ∷ value_at words 3 ∷ value_at words 4 ∷ value_at words 5 ∷ []

-- the call of a word with these arguments
abbrev pub call_of : CallWord → List (List ℕ) → Call
call_of word words = call_from word (values_of words)

abbrev pub no_frames : FrameSizes
no_frames = record { small = 0; small_words = 0; large = 0; large_words = 0; extra = 0; extra_words = 0 }

abbrev pub no_names : NameCounts
no_names = record { globals = 0; stable = 0; weak = 0; back = 0 }

abbrev pub frames_from : List ℕ → FrameSizes
frames_from ns = record {
  small = slice_index ns 0;
  small_words = slice_index ns 1;
  large = slice_index ns 2;
  large_words = slice_index ns 3;
  extra = slice_index ns 4;
  extra_words = slice_index ns 5;
}

abbrev pub names_from : List ℕ → NameCounts
names_from ns = record { globals = slice_index ns 0; stable = slice_index ns 1; weak = slice_index ns 2; back = slice_index ns 3 }

-- the layout of a line with these words behind its first one
abbrev pub array_from : List FieldKind → Layout
array_from [] = Array Int
array_from (kind ∷ kinds) = Array kind

abbrev pub layout_of : List (List ℕ) → Layout
layout_of words =
    if bytes_eq (slice_index_or words 0 []) (codes "array")
    then array_from (filter_map kind_of words)
    else Fields (filter_map kind_of words)
