-- The places of a heap: which of them are one, and where the word of each lies in one list of words.
use Rattle.std.specs.Prelude.{ℕ, zero, suc, ◌+◌, ◌*◌, ◌<◌, ◌==◌, Bool, false, true, cond}
use Rattle.kn_base.specs.declared.limits.TheConstants.{LOCALS}
use Rattle.kn_base.specs.declared.heap.Sizes.{Sizes}
use Rattle.kn_base.specs.declared.places.Place.{Place}
use Rattle.kn_base.specs.declared.places.Place.TheVariants.{Phase, Want, Pending, State, RootSet, Local, Global, Node, Frame, Side, Body}
use Rattle.kn_base.specs.Sizes.{frame_count, word_count as heap_words}

abbrev is_phase : Place → Bool
is_phase Phase = true
is_phase _ = false

abbrev is_want : Place → Bool
is_want Want = true
is_want _ = false

abbrev is_pending : Place → Bool
is_pending Pending = true
is_pending _ = false

abbrev is_state : ℕ → Place → Bool
is_state i (State j) = i == j
is_state i _ = false

abbrev is_root_set : ℕ → Place → Bool
is_root_set i (RootSet j) = i == j
is_root_set i _ = false

abbrev is_local : ℕ → ℕ → Place → Bool
is_local i r (Local j s) = cond (i == j) (r == s) false
is_local i r _ = false

abbrev is_global : ℕ → Place → Bool
is_global i (Global j) = i == j
is_global i _ = false

abbrev is_node : ℕ → Place → Bool
is_node i (Node j) = i == j
is_node i _ = false

abbrev is_frame : ℕ → Place → Bool
is_frame i (Frame j) = i == j
is_frame i _ = false

abbrev is_side : ℕ → Place → Bool
is_side i (Side j) = i == j
is_side i _ = false

abbrev is_body : ℕ → Place → Bool
is_body i (Body j) = i == j
is_body i _ = false

-- two places are one
abbrev pub same_place : Place → Place → Bool
same_place Phase q = is_phase q
same_place Want q = is_want q
same_place Pending q = is_pending q
same_place (State i) q = is_state i q
same_place (RootSet i) q = is_root_set i q
same_place (Local i r) q = is_local i r q
same_place (Global i) q = is_global i q
same_place (Node i) q = is_node i q
same_place (Frame i) q = is_frame i q
same_place (Side i) q = is_side i q
same_place (Body i) q = is_body i q

-- the words, with another one at one place
abbrev pub put : (Place → ℕ) → Place → ℕ → Place → ℕ
put words p n q = cond (same_place p q) n (words q)

-- the sorts of places, in the order of their words
abbrev pub sort : Place → ℕ
sort Phase = 0
sort Want = 1
sort Pending = 2
sort (State i) = 3
sort (RootSet i) = 4
sort (Local i r) = 5
sort (Global i) = 6
sort (Node i) = 7
sort (Frame i) = 8
sort (Side a) = 9
sort (Body a) = 10

-- the number of a place among those of its sort
abbrev pub offset : Place → ℕ
offset Phase = 0
offset Want = 0
offset Pending = 0
offset (State i) = i
offset (RootSet i) = i
offset (Local i r) = LOCALS * i + r
offset (Global i) = i
offset (Node i) = i
offset (Frame i) = i
offset (Side a) = a
offset (Body a) = a

-- how many words there are of each sort: one phase, one epoch wanted, one count of mark work, a state for each thread and
-- one for the collector, and so on
abbrev pub count : Sizes → ℕ → ℕ
count z n =
    cond (n == 3) (z.threads + 1) (cond (n == 4) (z.threads + 2) (cond (n == 5) (LOCALS * z.threads) (cond (n == 6) z.globals
    (cond (n == 7) (z.stable + z.weak + z.back) (cond (n == 8) (frame_count z) (cond (n == 9) (heap_words z + 1)
    (cond (n == 10) (heap_words z + 1) 1)))))))

-- the words of the first n sorts
abbrev pub base : Sizes → ℕ → ℕ
base z zero = 0
base z (suc n) = base z n + count z n

-- where the word of a place lies
abbrev pub index : Sizes → Place → ℕ
index z p = base z (sort p) + offset p

-- the words of a heap's table
abbrev pub table_words : Sizes → ℕ
table_words z = base z 11

-- the place is one of the heap's
abbrev pub Within : Sizes → Place → Type 0
Within z (Local i r) = (i < z.threads) × (r < LOCALS)
Within z p = offset p < count z (sort p)
