-- The words of the core: one frame, of which cell after cell is taken.
use Rattle.std.specs.Prelude.{◌≡◌, ℕ, zero, suc, ◌+◌, ◌<◌}
use Rattle.kn_base.specs.declared.heap.Sizes.{Sizes}
use Rattle.kn_base.specs.Sizes.{word_count}
use Rattle.kn_layout.specs.Layouts.{cell_size}
use Rattle.kn_graph.specs.Ground.{Ground}
use Rattle.kn_graph.specs.Graph.{Graph}

-- sizes with all words as one small frame
abbrev pub one_frame : Sizes → Sizes
one_frame z = record z { small = 1; small_words = word_count z; large = 0; extra = 0 }

-- what the graph of the core lives on
abbrev pub one_framed : Ground → Ground
one_framed z = record { sizes = one_frame z.sizes; layouts = z.layouts }

-- the words of the first n objects, where the objects have so many fields
abbrev pub words_before : (ℕ → ℕ) → ℕ → ℕ
words_before fields zero = 0
words_before fields (suc n) = cell_size (fields n) + words_before fields n

-- how many fields the objects of a graph have
abbrev pub lengths : Graph → ℕ → ℕ
lengths g n = (g.object n).length

-- the words of all objects born
abbrev pub words_taken : Graph → ℕ
words_taken g = words_before (lengths g) g.born

-- the words of all objects born and of a cell for so many fields pass the words of the heap
abbrev pub HasNoRoom : Ground → Graph → ℕ → Type 0
HasNoRoom z g fields = word_count z.sizes < words_taken g + cell_size fields

-- each object lies right behind the older ones, from address 1 on
abbrev pub AreStacked : Graph → Type 0
AreStacked g = (n : ℕ) → n < g.born → (g.object n).address ≡ 1 + words_before (lengths g) n
