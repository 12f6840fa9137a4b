-- The heap as a marking finds it: objects by address, as the graph and the words have them, and the words of the root sets.
use Rattle.std.specs.Prelude.{ℕ, zero, suc, ◌+◌, ◌-◌, ◌==◌, Bool, true, false, cond, ◌&&◌, ◌||◌, not, Option, Some, None, nat_lt}
use Rattle.kn_base.specs.declared.limits.TheConstants.{LOCALS}
use Rattle.kn_base.specs.declared.heap.Sizes.{Sizes}
use Rattle.kn_base.specs.declared.places.Place.{Place}
use Rattle.kn_base.specs.declared.places.Place.TheVariants.{Local, Global, Node, Body}
use Rattle.kn_base.specs.declared.kinds.NodeKind.{NodeKind}
use Rattle.kn_base.specs.declared.kinds.NodeKind.TheVariants as nodes
use Rattle.kn_base.specs.declared.node_word.NodeWord.{NodeWord}
use Rattle.kn_base.specs.Sizes.{small_area, large_area}
use Rattle.kn_layout.specs.declared.layouts.FieldKind.{FieldKind}
use Rattle.kn_layout.specs.declared.layouts.FieldKind.TheVariants.{Ref as of_ref, Int as of_int}
use Rattle.kn_graph.specs.Ground.{Ground}
use Rattle.kn_graph.specs.Graph.{Shape}
use Rattle.kn_marking.specs.declared.work.Doing.{Doing}
use Rattle.kn_marking.specs.declared.work.Doing.TheVariants as doings
use Rattle.kn_marking.specs.Heap.{Heap}
use Rattle.kn_rule.specs.Decoding.{header_of, node_of}
use Rattle.kn_rule.specs.Requests.{told_kind}

-- the words of small and large frames, in which objects lie, are those below this address
abbrev pub cell_limit : Sizes → ℕ
cell_limit z = 1 + small_area z + large_area z

-- an object is not released and lies at an address
abbrev pub lies_at : Shape → ℕ → Bool
lies_at o a = not o.released && (o.address == a)

-- one of n objects does
abbrev pub is_live_at : ℕ → (ℕ → Shape) → ℕ → Bool
is_live_at zero shape a = false
is_live_at (suc n) shape a = lies_at (shape n) a || is_live_at n shape a

-- and is condemned
abbrev pub is_condemned_at : ℕ → (ℕ → Shape) → ℕ → Bool
is_condemned_at zero shape a = false
is_condemned_at (suc n) shape a = cond (lies_at (shape n) a) (shape n).condemned (is_condemned_at n shape a)

-- the object that a word of a local, of a global or of a reference field holds
abbrev pub object_in : ℕ → Option ℕ
object_in w = cond {A = Option ℕ} (w == 0) None (Some w)

abbrev pub counted_in : NodeWord → Option ℕ
counted_in v = cond {A = Option ℕ} (v.count == 0) None (Some v.addr)

abbrev pub held_by : NodeWord → NodeKind → Option ℕ
held_by v nodes.Vacant = None
held_by v nodes.Stable = Some v.addr
held_by v nodes.Weak = None
held_by v nodes.Back = counted_in v
held_by v nodes.Cleared = None

-- the object that the word of a name holds: a stable name, or a back name with a count
abbrev pub object_named : ℕ → Option ℕ
object_named w = held_by (node_of w) (node_of w).kind

-- the object that field i of the object with header h holds, where its word is w
abbrev pub object_if : Option FieldKind → ℕ → Option ℕ
object_if None w = None
object_if (Some of_ref) w = object_in w
object_if (Some of_int) w = None

-- root set j has the locals of thread j, or all globals, or all stable and back names
module _ (z : Sizes) where
  abbrev pub set_words : ℕ → ℕ
  set_words j = cond (j == z.threads) z.globals (cond (j == z.threads + 1) (z.stable + z.back) LOCALS)

  -- the number of the name that is word i of its root set: the weak names are left out
  abbrev pub name_in_set : ℕ → ℕ
  name_in_set i = cond (nat_lt i z.stable) i (z.weak + i)

  -- the place of word i of root set j
  abbrev pub set_place : ℕ → ℕ → Place
  set_place j i = cond (j == z.threads) (Global i) (cond (j == z.threads + 1) (Node (name_in_set i)) (Local j i))

  -- what a word of root set j holds
  abbrev pub set_holds : ℕ → ℕ → Option ℕ
  set_holds j w = cond (j == z.threads) (object_in w) (cond (j == z.threads + 1) (object_named w) (object_in w))

-- the heap by addresses
abbrev pub heap_of : Ground → ℕ → (ℕ → Shape) → (Place → ℕ) → Heap
heap_of z born shape word = record {
  objects = cell_limit z.sizes;
  live = is_live_at born shape;
  condemned = is_condemned_at born shape;
  size = λ a. (header_of (word (Body a))).length;
  field = λ a i. object_if (told_kind z (word (Body a)) i) (word (Body (a + 1 + i)));
  sets = z.sizes.threads + 2;
  words = set_words z.sizes;
  root = λ j i. cond (j == z.sizes.threads) (object_in (word (Global i)))
      (cond (j == z.sizes.threads + 1) (object_named (word (Node (name_in_set z.sizes i)))) (object_in (word (Local j i))));
}

abbrev pub is_of_ref : Option FieldKind → Bool
is_of_ref None = false
is_of_ref (Some of_ref) = true
is_of_ref (Some of_int) = false

-- of n numbers from k on, the first one that a test takes, and the one behind them where it takes none
abbrev pub first_from : (ℕ → Bool) → ℕ → ℕ → ℕ
first_from test zero k = k
first_from test (suc n) k = cond (test k) k (first_from test n (k + 1))

-- the first reference field, from field k on, of the object with header h
abbrev pub next_ref : Ground → ℕ → ℕ → ℕ
next_ref z h k = first_from (λ i. is_of_ref (told_kind z h i)) ((header_of h).length - k) k

-- the place behind the one that a marker has reached: the next word of a root set, or the next reference field of a cell
abbrev pub place_behind : Ground → Doing → ℕ
place_behind z doings.Free = 0
place_behind z (doings.Set j i) = i + 1
place_behind z (doings.Header x) = 0
place_behind z (doings.Cell x h i) = next_ref z h (i + 1)
