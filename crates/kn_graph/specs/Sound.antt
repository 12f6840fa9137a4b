-- What holds of the graph after every legal history.
use Rattle.std.specs.Prelude.{◌≡◌, ◌≢◌, ℕ, ◌+◌, ◌<◌, ◌≤◌, ◌⊎◌, Bool, true, false, Option, Some, None, length, slice_get}
use Rattle.std.specs.Option.{IfSome}
use Rattle.kn_base.specs.declared.heap.Sizes.{Sizes}
use Rattle.kn_base.specs.Spans.{AreApart}
use Rattle.kn_layout.specs.declared.layouts.FieldKind.TheVariants.{Ref as of_ref}
use Rattle.kn_layout.specs.declared.layouts.Layout.{Layout}
use Rattle.kn_layout.specs.declared.layouts.Layout.TheVariants.{Fields, Array}
use Rattle.kn_graph.specs.Ground.{Ground}
use Rattle.kn_graph.specs.Graph.{Graph, Object, Shape, shapes, pointers, words_of, field_kind, Lives, LiesInFrame}
use Rattle.kn_graph.specs.Answers.{greatest_count}
use Rattle.kn_graph.specs.Collections.{IsSettled}

-- the tie of an object, and what came of it
pub record Finalization : Type 0 where
  pub tie : Option (ℕ × ℕ)
  pub queued : Bool
  pub finalized : Option ℕ

abbrev pub finalization_of : Object → Finalization
finalization_of o = record { tie = o.tie; queued = o.queued; finalized = o.finalized }

abbrev pub finalizations : Graph → ℕ → Finalization
finalizations g n = finalization_of (g.object n)

-- null, or an object that was born
abbrev pub WasBorn : ℕ → Option ℕ → Type 0
WasBorn born value = IfSome value (λ n. n < born)

-- null, or an object that was born and is not condemned
abbrev pub Alive : ℕ → (ℕ → Shape) → Option ℕ → Type 0
Alive born shape None = Unit {0}
Alive born shape (Some n) = (n < born) × ((shape n).condemned ≡ false)

-- each root is null, or an object that was born and is not condemned
pub record RootsAlive (born : ℕ) (shape : ℕ → Shape) (local : ℕ → ℕ → Option ℕ) (global stable back : ℕ → Option ℕ)
    (count : ℕ → ℕ) : Type 0 where
  pub locals : (thread r : ℕ) → Alive born shape (local thread r)
  pub globals : (i : ℕ) → Alive born shape (global i)
  pub stables : (h : ℕ) → Alive born shape (stable h)
  pub backs : (b : ℕ) → 0 < count b → Alive born shape (back b)

-- no local, global or name past the numbers of the heap holds an object
pub record HoldInRange (z : Sizes) (local : ℕ → ℕ → Option ℕ) (global stable weak back : ℕ → Option ℕ) : Type 0 where
  pub locals : (thread r n : ℕ) → local thread r ≡ Some n → (thread < z.threads) × (r ≤ 15)
  pub globals : (i n : ℕ) → global i ≡ Some n → i < z.globals
  pub stables : (h n : ℕ) → stable h ≡ Some n → h < z.stable
  pub weaks : (w n : ℕ) → weak w ≡ Some n → w < z.weak
  pub backs : (b n : ℕ) → back b ≡ Some n → b < z.back

-- weak and back names name objects that were born, and no count is above the greatest
pub record NamesBorn (born : ℕ) (weak back : ℕ → Option ℕ) (count : ℕ → ℕ) : Type 0 where
  pub weaks : (w : ℕ) → WasBorn born (weak w)
  pub backs : (b : ℕ) → WasBorn born (back b)
  pub counts : (b : ℕ) → count b ≤ greatest_count

-- only reference fields of an object hold references; and unless it is condemned, each is null, or an object that was
-- born and is not condemned
pub record FieldsAlive (z : Ground) (born : ℕ) (shape : ℕ → Shape) (o : Shape) (points : ℕ → Option ℕ) : Type 0 where
  pub kinds : (f n : ℕ) → points f ≡ Some n → field_kind z o f ≡ Some of_ref
  pub values : o.condemned ≡ false → (f : ℕ) → Alive born shape (points f)

-- what is released or queued is condemned, what is queued has a tie, what is finalized is queued, and what is released
-- has no tie or is finalized
pub record FlagsAgree (o : Shape) (f : Finalization) : Type 0 where
  pub released : o.condemned ≡ false → o.released ≡ false
  pub queued : o.condemned ≡ false → f.queued ≡ false
  pub tied : f.queued ≡ true → f.tie ≢ None
  pub finalized : f.finalized ≢ None → f.queued ≡ true
  pub let_go : o.released ≡ true → (f.tie ≡ None) ⊎ (f.finalized ≢ None)

-- an object of this layout may have so many fields: those of the list, or up to 60,000 elements
abbrev pub MayHaveLength : Option Layout → ℕ → Type 0
MayHaveLength None n = ⊥
MayHaveLength (Some (Fields kinds)) n = n ≡ length kinds
MayHaveLength (Some (Array kind)) n = n ≤ 60000

-- an object has a layout of the heap and a length that goes with it, and its words lie in one small or large frame
pub record HasCell (z : Ground) (o : Shape) : Type 0 where
  pub laid_out : MayHaveLength (slice_get z.layouts o.layout) o.length
  pub placed : LiesInFrame z.sizes (words_of o)

-- objects that are not released have no word in common
abbrev pub CellsApart : ℕ → (ℕ → Shape) → Type 0
CellsApart born shape = (n m : ℕ) → Lives born shape n → Lives born shape m → n ≢ m → AreApart (words_of (shape n)) (words_of (shape m))

-- the last pause is that of an epoch that is done
abbrev pub IsDone : Graph → Type 0
IsDone g = g.done ≡ g.paused

-- the graph is sound: its roots, names, fields, flags and cells are; the last epoch that is done is that of the last pause
-- or the one before it; and where it is that of the last pause, each object is settled
pub record IsSound (z : Ground) (g : Graph) : Type 0 where
  pub roots : RootsAlive g.born (shapes g) g.local g.global g.stable g.back g.count
  pub ranges : HoldInRange z.sizes g.local g.global g.stable g.weak g.back
  pub names : NamesBorn g.born g.weak g.back g.count
  pub fields : (n : ℕ) → n < g.born → FieldsAlive z g.born (shapes g) (shapes g n) (pointers g n)
  pub flags : (n : ℕ) → n < g.born → FlagsAgree (shapes g n) (finalizations g n)
  pub cells : (n : ℕ) → n < g.born → HasCell z (shapes g n)
  pub apart : CellsApart g.born (shapes g)
  pub epochs : g.done ≤ g.paused
  pub ahead : g.paused ≤ g.done + 1
  pub settled : IsDone g → (n : ℕ) → n < g.born → IsSettled g.paused (g.object n)
