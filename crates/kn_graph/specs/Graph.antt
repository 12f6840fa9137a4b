-- The graph that never frees: objects in order of birth, the locals of each thread, globals and names.
use Rattle.std.specs.Prelude.{◌≡◌, ◌≢◌, ℕ, ◌+◌, ◌<◌, nat_lt, Bool, false, cond, Option, Some, None, List, [], length, slice_get}
use Rattle.kn_base.specs.declared.numbers.Span.{Span}
use Rattle.kn_base.specs.declared.heap.Sizes.{Sizes}
use Rattle.kn_base.specs.Spans.{LiesIn, AreApart}
use Rattle.kn_base.specs.Sizes.{span_of_frame}
use Rattle.kn_base.specs.Functions.{upd}
use Rattle.kn_layout.specs.declared.layouts.Layout.{Layout}
use Rattle.kn_layout.specs.declared.layouts.FieldKind.{FieldKind}
use Rattle.kn_layout.specs.Layouts.{cell_size, fields_of}
use Rattle.kn_graph.specs.Ground.{Ground}

-- an object: the address of its first word, its layout, the number of its fields, what each field holds as a
-- reference and as a number (its kind says which one counts), its tie (a cleaner and a number), whether it was
-- condemned, released and queued, and the number of pauses before it was finalized
pub record Object : Type 0 where
  pub address : ℕ
  pub layout : ℕ
  pub length : ℕ
  pub points : ℕ → Option ℕ
  pub number : ℕ → ℕ
  pub tie : Option (ℕ × ℕ)
  pub condemned : Bool
  pub released : Bool
  pub queued : Bool
  pub finalized : Option ℕ

-- a graph: how many objects were born, the object of each number below that, what each local of each thread, each
-- global and each stable, weak and back name holds (none, or an object's number), the counts of back names, the
-- numbers of the last pause and of the last epoch done, and the epoch of each caller's last entry
pub record Graph : Type 0 where
  pub born : ℕ
  pub object : ℕ → Object
  pub local : ℕ → ℕ → Option ℕ
  pub global : ℕ → Option ℕ
  pub stable : ℕ → Option ℕ
  pub weak : ℕ → Option ℕ
  pub back : ℕ → Option ℕ
  pub count : ℕ → ℕ
  pub paused : ℕ
  pub done : ℕ
  pub entered : ℕ → ℕ

-- an object as it is born: null and 0 in each field, no tie, no flag
abbrev pub newborn : ℕ → ℕ → ℕ → Object
newborn address layout length = record {
  address = address;
  layout = layout;
  length = length;
  points = λ _. None;
  number = λ _. 0;
  tie = None;
  condemned = false;
  released = false;
  queued = false;
  finalized = None;
}

-- the graph in which nothing was born, each local, global and name is null, and nothing has happened
abbrev pub empty_graph : Graph
empty_graph = record {
  born = 0;
  object = λ _. newborn 0 0 0;
  local = λ _ _. None;
  global = λ _. None;
  stable = λ _. None;
  weak = λ _. None;
  back = λ _. None;
  count = λ _. 0;
  paused = 0;
  done = 0;
  entered = λ _. 0;
}

-- the graph with a local written
abbrev pub with_local : Graph → ℕ → ℕ → Option ℕ → Graph
with_local g thread r value = record g { local = upd g.local thread (upd (g.local thread) r value) }

-- the graph with a global written
abbrev pub with_global : Graph → ℕ → Option ℕ → Graph
with_global g i value = record g { global = upd g.global i value }

-- the graph with a stable name made or given up
abbrev pub with_stable : Graph → ℕ → Option ℕ → Graph
with_stable g h value = record g { stable = upd g.stable h value }

-- the graph with a weak name made
abbrev pub with_weak : Graph → ℕ → ℕ → Graph
with_weak g w n = record g { weak = upd g.weak w (Some n) }

-- the graph with a back name made, its count 0
abbrev pub with_back : Graph → ℕ → ℕ → Graph
with_back g b n = record g { back = upd g.back b (Some n); count = upd g.count b 0 }

-- the graph with the count of a back name written
abbrev pub with_count : Graph → ℕ → ℕ → Graph
with_count g b n = record g { count = upd g.count b n }

-- the graph with object n changed
abbrev pub with_object : Graph → ℕ → Object → Graph
with_object g n o = record g { object = upd g.object n o }

-- the graph with a reference field, or a number field, of object n written
abbrev pub with_points : Graph → ℕ → ℕ → Option ℕ → Graph
with_points g n f value = with_object g n (record (g.object n) { points = upd (g.object n).points f value })

abbrev pub with_number : Graph → ℕ → ℕ → ℕ → Graph
with_number g n f value = with_object g n (record (g.object n) { number = upd (g.object n).number f value })

-- the graph with object n tied to a cleaner and a number
abbrev pub with_tie : Graph → ℕ → ℕ → ℕ → Graph
with_tie g n cleaner number = with_object g n (record (g.object n) { tie = Some (cleaner, number) })

-- the graph with one more object, which a local then holds
abbrev pub with_birth : Graph → ℕ → ℕ → Object → Graph
with_birth g thread r new = record g {
  born = g.born + 1;
  object = upd g.object g.born new;
  local = upd g.local thread (upd (g.local thread) r (Some g.born));
}

-- the graph with the epoch of a caller's last entry
abbrev pub with_entered : Graph → ℕ → ℕ → Graph
with_entered g by epoch = record g { entered = upd g.entered by epoch }

-- the words of a cell at this address for so many fields
abbrev pub cell_at : ℕ → ℕ → Span
cell_at address fields = record { start = address; len = cell_size fields }

-- what of an object its fields, its tie and what the sweep makes of that do not change
pub record Shape : Type 0 where
  pub address : ℕ
  pub layout : ℕ
  pub length : ℕ
  pub condemned : Bool
  pub released : Bool

abbrev pub shape_of : Object → Shape
shape_of o = record { address = o.address; layout = o.layout; length = o.length; condemned = o.condemned; released = o.released }

abbrev pub shapes : Graph → ℕ → Shape
shapes g n = shape_of (g.object n)

-- what the fields of each object hold as references, and as numbers
abbrev pub pointers : Graph → ℕ → ℕ → Option ℕ
pointers g n = (g.object n).points

abbrev pub numbers : Graph → ℕ → ℕ → ℕ
numbers g n = (g.object n).number

-- the words of an object
abbrev pub words_of : Shape → Span
words_of o = cell_at o.address o.length

-- the kinds of the fields of an object of this layout and length; none where there is no such layout
abbrev pub kinds_for : Option Layout → ℕ → List FieldKind
kinds_for None n = []
kinds_for (Some layout) n = fields_of layout n

-- how many fields an object has that is born with this layout and length
abbrev pub length_for : Ground → ℕ → ℕ → ℕ
length_for z layout n = length (kinds_for (slice_get z.layouts layout) n)

-- the kind of field f of an object; none where it has no such field
abbrev pub field_kind : Ground → Shape → ℕ → Option FieldKind
field_kind z o f = cond (nat_lt f o.length) (slice_get (kinds_for (slice_get z.layouts o.layout) o.length) f) None

-- object n was born and is not released
abbrev pub Lives : ℕ → (ℕ → Shape) → ℕ → Type 0
Lives born shape n = (n < born) × ((shape n).released ≡ false)

-- an address names the youngest object with that address that is not released
pub record Names (g : Graph) (a n : ℕ) : Type 0 where
  pub lives : Lives g.born (shapes g) n
  pub address : (g.object n).address ≡ a
  pub youngest : (m : ℕ) → n < m → Lives g.born (shapes g) m → (g.object m).address ≢ a

-- the words lie in one small or large frame
pub record LiesInFrame (z : Sizes) (cell : Span) : Type 0 where
  pub frame : ℕ
  pub is_for_cells : frame < z.small + z.large
  pub words : Span
  pub is_frame : span_of_frame z frame ≡ Some words
  pub inside : LiesIn cell words

-- the words overlap those of no object that is not released
abbrev pub IsFree : Graph → Span → Type 0
IsFree g cell = (n : ℕ) → Lives g.born (shapes g) n → AreApart (words_of (shapes g n)) cell

-- a birth may take these words
pub record IsLegalBirth (z : Ground) (g : Graph) (cell : Span) : Type 0 where
  pub in_frame : LiesInFrame z.sizes cell
  pub free : IsFree g cell
