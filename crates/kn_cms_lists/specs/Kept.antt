-- What the core keeps, as lists, and the writes that its steps make of them.
use Rattle.std.specs.Prelude.{ℕ, ◌+◌, ◌<◌, Option, Some, None, List, [], cond, length, nat_lt, replicate, slice_get, slice_index}
use Rattle.std.specs.Prelude.{slice_index_or, slice_set, ◌∷◌, ◌++◌}
use Rattle.std.specs.List.{fold}
use Rattle.kn_base.specs.Sizes.{word_count}
use Rattle.kn_graph.specs.declared.calls.Call.{Call}
use Rattle.kn_graph.specs.declared.calls.Reply.{Reply}
use Rattle.kn_graph.specs.declared.entries.Entry.{Entry}
use Rattle.kn_graph.specs.Ground.{Ground}
use Rattle.kn_layout.specs.Layouts.{cell_size}
use Rattle.kn_layout.specs.declared.layouts.FieldKind.{FieldKind}
use Rattle.kn_graph.specs.Graph.{kinds_for}
use Rattle.kn_replay.specs.Seen.{call_entry}
use Rattle.kn_objects.specs.Holders.{KeptHolders, no_holders}
use Rattle.kn_cms_rule.specs.declared.stages.Colour.{Colour}
use Rattle.kn_cms_rule.specs.declared.stages.Colour.TheVariants.{White}
use Rattle.kn_cms_rule.specs.declared.stages.Doing.{Doing}
use Rattle.kn_cms_rule.specs.declared.stages.Doing.TheVariants.{Free}
use Rattle.kn_cms_rule.specs.declared.stages.Stage.{Stage}
use Rattle.kn_cms_rule.specs.declared.stages.Stage.TheVariants.{Waiting, Marking}
use Rattle.kn_cms_lists.specs.declared.cells.Cell.{Cell}
use Rattle.kn_cms_rule.specs.Words.{one_framed}
use Rattle.kn_cms_rule.specs.State.{birth_colour, shaded}
use Rattle.kn_cms_rule.specs.Steps.{pause_entry}
use Rattle.std.specs.Option.{IfSome}

-- the objects in order of birth, what each word of the heap holds as a reference, the number of words taken, and how many
-- objects there is room for
pub record KeptCells : Type 0 where
  pub cells : List Cell
  pub points : List (Option ℕ)
  pub taken : ℕ
  pub room : ℕ

-- what a field of an object is kept to hold; nothing past the last one
abbrev pub point_of : List (Option ℕ) → Option Cell → ℕ → Option ℕ
point_of points None f = None
point_of points (Some c) f = cond (nat_lt f c.length) (slice_index_or points (c.address + f) None) None

abbrev pub kept_point : KeptCells → ℕ → ℕ → Option ℕ
kept_point k n f = point_of k.points (slice_get k.cells n) f

-- entries, and for how many there is room
pub record KeptEntries : Type 0 where
  pub list : List Entry
  pub room : ℕ

-- the sizes and layouts, the calls of each thread and how many it has answered, the objects, what locals and globals hold,
-- the colours, what the threads and the collector are at, the number of objects at the snapshot, and the history
pub record Kept : Type 0 where
  pub ground : Ground
  pub calls : List (List Call)
  pub made : List ℕ
  pub cells : KeptCells
  pub holders : KeptHolders
  pub colours : List Colour
  pub doing : List Doing
  pub stage : Stage
  pub snapshot : Option ℕ
  pub history : KeptEntries

-- the calls of each thread
abbrev pub calls_of_threads : List (List Call) → ℕ → List Call
calls_of_threads calls i = slice_index_or calls i []

-- the number of pauses at a stage
abbrev pub epoch_at : Stage → ℕ
epoch_at Waiting = 0
epoch_at _ = 1

-- the first call that a thread has left
abbrev pub next_call : Kept → ℕ → Option Call
next_call k i = slice_get (calls_of_threads k.calls i) (slice_index k.made i)

-- a thread has answered its call
abbrev pub answered_lists : Kept → ℕ → Call → Reply → ℕ → Kept
answered_lists k i call reply address = record k {
  made = slice_set k.made i (slice_index k.made i + 1);
  doing = slice_set k.doing i Free;
  history = record k.history { list = k.history.list ++ call_entry i (epoch_at k.stage) call reply address ∷ [] };
}

-- an object that has no colour becomes gray
abbrev pub shaded_list : List Colour → Option ℕ → List Colour
shaded_list colours None = colours
shaded_list colours (Some n) = slice_set colours n (shaded (slice_index_or colours n White))

-- the kind of a field of an object; none where it has no such field
abbrev pub kind_in : Ground → Option Cell → ℕ → Option FieldKind
kind_in z None f = None
kind_in z (Some c) f = cond (nat_lt f c.length) (slice_get (kinds_for (slice_get z.layouts c.layout) c.length) f) None

abbrev pub kept_kind : Kept → ℕ → ℕ → Option FieldKind
kept_kind k n f = kind_in k.ground (slice_get k.cells.cells n) f

-- what a local of a thread holds
abbrev pub kept_local : Kept → ℕ → ℕ → Option ℕ
kept_local k i r = slice_index_or (slice_index_or k.holders.locals i []) r None

-- a local of a thread written
abbrev pub with_kept_local : Kept → ℕ → ℕ → Option ℕ → Kept
with_kept_local k i r value = record k {
  holders = record k.holders { locals = slice_set k.holders.locals i (slice_set (slice_index_or k.holders.locals i []) r value) };
}

-- what is kept before all steps
abbrev pub opening_lists : Ground → List (List Call) → Kept
opening_lists z calls = record {
  ground = z;
  calls = calls;
  made = replicate z.sizes.threads 0;
  cells = record { cells = []; points = replicate (word_count z.sizes + 1) None; taken = 0; room = 16384 };
  holders = no_holders z.sizes;
  colours = replicate 16384 White;
  doing = replicate z.sizes.threads Free;
  stage = Waiting;
  snapshot = None;
  history = record { list = []; room = 16385 };
}

-- a field of an object written
abbrev pub with_kept_point : Kept → Cell → ℕ → Option ℕ → Kept
with_kept_point k c f value = record k { cells = record k.cells { points = slice_set k.cells.points (c.address + f) value } }

-- one more object behind the others, of the colour of a birth, which a local then holds
abbrev pub born_lists : Kept → ℕ → ℕ → ℕ → ℕ → Kept
born_lists k i r layout fields = record (with_kept_local k i r (Some (length k.cells.cells))) {
  cells = record k.cells {
    cells = k.cells.cells ++ (record { address = 1 + k.cells.taken; layout = layout; length = fields }) ∷ [];
    taken = k.cells.taken + cell_size fields;
  };
  colours = slice_set k.colours (length k.cells.cells) (birth_colour k.stage);
}

-- what all locals and globals hold becomes gray
abbrev pub all_shaded : List Colour → List (Option ℕ) → List Colour
all_shaded colours values = fold shaded_list colours values

abbrev pub rows_shaded : List Colour → List (List (Option ℕ)) → List Colour
rows_shaded colours rows = fold all_shaded colours rows

abbrev pub held_shaded : List Colour → KeptHolders → List Colour
held_shaded colours h = all_shaded (rows_shaded colours h.locals) h.globals

-- what is kept after the snapshot
abbrev pub snapshot_lists : Kept → Kept
snapshot_lists k = record k {
  colours = held_shaded k.colours k.holders;
  stage = Marking;
  snapshot = Some (length k.cells.cells);
  history = record k.history { list = k.history.list ++ pause_entry (one_framed k.ground) ∷ [] };
}

-- each value of a list is null or below a number
abbrev pub AreBelow : ℕ → List (Option ℕ) → Type 0
AreBelow bound values = (i : ℕ) → IfSome (slice_index_or values i None) (λ n. n < bound)
