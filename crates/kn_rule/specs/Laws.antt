-- The laws over the definitions that speak of no step.
use Rattle.std.specs.Prelude.{◌≡◌, ℕ, ◌+◌, ◌<◌, ◌⊎◌, ◌↔◌, Bool, true, false, List, length, Option, Some, slice_get, slice_index}
use Rattle.std.specs.Prelude.{slice_set}
use Rattle.kn_base.specs.declared.heap.Sizes.{Sizes}
use Rattle.kn_base.specs.declared.places.Place.{Place}
use Rattle.kn_base.specs.declared.frame_word.FrameWord.{FrameWord}
use Rattle.kn_base.specs.declared.node_word.NodeWord.{NodeWord}
use Rattle.kn_base.specs.declared.header_word.HeaderWord.{HeaderWord}
use Rattle.kn_base.specs.Words.{IsFrameWord, packed_frame, IsNodeWord, packed_node, IsHeaderWord, packed_header}
use Rattle.kn_base.specs.Sizes.{IsGood, frame_count}
use Rattle.kn_base.specs.SpanLists.{HasWord}
use Rattle.kn_base.specs.Pages.{FrameView}
use Rattle.kn_graph.specs.Ground.{Ground}
use Rattle.kn_rule.specs.Decoding.{frame_of, node_of, header_of}
use Rattle.kn_rule.specs.FrameSpans.{frame_span, frame_at}
use Rattle.kn_rule.specs.Places.{Within, index, put, table_words}
use Rattle.kn_rule.specs.Requests.{is_usable}
use Rattle.kn_rule.specs.Searches.{done_from}
use Rattle.kn_rule.specs.Rule.{Rule, start, AllHome}

-- the state at the start meets the rule
abbrev pub StartMeetsRule : Type 0
StartMeetsRule = (z : Ground) (page : ℕ → Option FrameView) → AllHome z.sizes page → Rule z (start z page)

-- a frame was seen, and it was refused, or the word seen last is not usable
abbrev pub IsRuledOut : ℕ → List (Option ℕ) → List Bool → ℕ → Type 0
IsRuledOut class seen refused p =
    (w : ℕ) × (slice_get seen p ≡ Some (Some w)) × ((slice_get refused p ≡ Some true) ⊎ (is_usable class w ≡ false))

-- a search is done with n frames exactly where each of them is ruled out
abbrev pub SearchesEnd : Type 0
SearchesEnd = (class : ℕ) (seen : List (Option ℕ)) (refused : List Bool) (from n : ℕ) →
    (done_from class seen refused from n ≡ true) ↔ ((k : ℕ) → k < n → IsRuledOut class seen refused (from + k))

-- the word of each place of the heap is one of its table
abbrev pub PlacesLie : Type 0
PlacesLie = (z : Sizes) (p : Place) → Within z p → index z p < table_words z

-- where a list has the words of all places, and the word of one place is set in it, it has the words changed at that place
abbrev pub WordsAreSet : Type 0
WordsAreSet = (z : Sizes) (words : List ℕ) (word : Place → ℕ) (n : ℕ) →
    ((p : Place) → Within z p → slice_index words (index z p) ≡ word p) → (p q : Place) → index z p < length words → Within z p → Within z q →
    slice_index (slice_set words (index z p) n) (index z q) ≡ put word p n q

-- a frame word, a node word, and a header, is read back from its number
abbrev pub FrameWordsDecode : Type 0
FrameWordsDecode = (v : FrameWord) → IsFrameWord v → frame_of (packed_frame v) ≡ v

abbrev pub NodeWordsDecode : Type 0
NodeWordsDecode = (v : NodeWord) → IsNodeWord v → node_of (packed_node v) ≡ v

abbrev pub HeaderWordsDecode : Type 0
HeaderWordsDecode = (v : HeaderWord) → IsHeaderWord v → header_of (packed_header v) ≡ v

-- the frame of a word is the one frame that has it
abbrev pub WordsHaveFrames : Type 0
WordsHaveFrames = (z : Sizes) (a p : ℕ) → IsGood z → p < frame_count z → HasWord (frame_span z p) a → frame_at z a ≡ p
