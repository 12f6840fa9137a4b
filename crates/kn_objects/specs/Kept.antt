-- What holds of the objects that are kept, between any two steps.
use Rattle.std.specs.Prelude.{◌≡◌, ℕ, ◌+◌, ◌^◌, ◌<◌, ◌≤◌, ◌⊎◌, ◌↔◌, ◌||◌, not, Bool, cond, Option, Some, None, List}
use Rattle.std.specs.Prelude.{length, nat_lt, slice_get, slice_index_or}
use Rattle.std.specs.Option.{option_map}
use Rattle.kn_base.specs.declared.numbers.Span.{Span}
use Rattle.kn_base.specs.Spans.{end_of}
use Rattle.kn_objects.specs.declared.objects.KeptObject.{KeptObject}
use Rattle.kn_graph.specs.Graph.{Object, Shape, Lives, shape_of, cell_at, words_of}
use Rattle.kn_objects.specs.Replay.{object_of}

-- the objects in order of birth, the fields of all of them, as references and as numbers, and the number of words that
-- may have an owner
pub record KeptObjects : Type 0 where
  pub kept : List KeptObject
  pub points : List (Option ℕ)
  pub numbers : List ℕ
  pub words : ℕ

-- the object of a number
abbrev pub nth_object : KeptObjects → ℕ → Object
nth_object o n = object_of o.points o.numbers (slice_get o.kept n)

abbrev pub nth_shape : KeptObjects → ℕ → Shape
nth_shape o n = shape_of (nth_object o n)

-- the places of an object's fields in the lists of fields
abbrev pub span_of_fields : KeptObject → Span
span_of_fields o = record { start = o.first; len = o.length }

abbrev pub field_spans : List KeptObject → ℕ → Option Span
field_spans kept n = option_map span_of_fields (slice_get kept n)

-- the place of a field in these lists, where the object has that field
abbrev pub field_place : Option KeptObject → ℕ → Option ℕ
field_place None f = None
field_place (Some o) f = cond (nat_lt f o.length) (Some (o.first + f)) None

-- the words of an object; none where it is released
abbrev pub cell_of : Option KeptObject → Option Span
cell_of None = None
cell_of (Some o) = cond o.released None (Some (cell_at o.address o.length))

abbrev pub cells : List KeptObject → ℕ → Option Span
cells kept n = cell_of (slice_get kept n)

-- the span has the word
abbrev pub HasWord : Option Span → ℕ → Type 0
HasWord None w = ⊥
HasWord (Some span) w = (span.start ≤ w) × (w < end_of span)

-- the fields of each object lie in the lists of fields, and behind those of each older object
pub record AreLaid (spans : ℕ → Option Span) (fields : ℕ) : Type 0 where
  pub within : (n : ℕ) (span : Span) → spans n ≡ Some span → end_of span ≤ fields
  pub behind : (m n : ℕ) (a b : Span) → m < n → spans m ≡ Some a → spans n ≡ Some b → end_of a ≤ b.start

-- word by word, the owner is the object that is not released and has it
abbrev pub AreOwners : List (Option ℕ) → (ℕ → Option Span) → Type 0
AreOwners owners cell = (w n : ℕ) → (slice_index_or owners w None ≡ Some n) ↔ HasWord (cell n) w

-- objects have numbers of 32 bits, their fields are laid out apart, and each word has its owner
pub record AreKept (kept : List KeptObject) (points numbers : ℕ) (owners : List (Option ℕ)) : Type 0 where
  pub few : length kept < 2 ^ 32
  pub both : numbers ≡ points
  pub laid : AreLaid (field_spans kept) points
  pub owned : AreOwners owners (cells kept)

-- the words from one address up to another have no owner
abbrev pub HaveNoOwner : List (Option ℕ) → ℕ → ℕ → Type 0
HaveNoOwner owners start stop = (w : ℕ) → start ≤ w → w < stop → slice_index_or owners w None ≡ None

-- each object that is not released ends before the words or begins behind them
abbrev pub AreClear : KeptObjects → ℕ → ℕ → Type 0
AreClear o start stop = (n : ℕ) → Lives (length o.kept) (nth_shape o) n →
    (end_of (words_of (nth_shape o n)) ≤ start) ⊎ (stop ≤ (nth_object o n).address)

-- the words from one address up to another have this owner, and the others the one that they had
pub record Gives (start stop : ℕ) (owner : Option ℕ) (old new : List (Option ℕ)) : Type 0 where
  pub inside : (w : ℕ) → start ≤ w → w < stop → slice_index_or new w None ≡ owner
  pub outside : (w : ℕ) → (w < start) ⊎ (stop ≤ w) → slice_index_or new w None ≡ slice_index_or old w None

-- the object, condemned unless it has a mark
abbrev pub condemned_unless : Bool → KeptObject → KeptObject
condemned_unless marked o = record o { condemned = o.condemned || not marked }
