-- The clauses of the rule on objects, their fields, the values of locals, globals and names, and cells that are not born.
use Rattle.std.specs.Prelude.{◌≡◌, ◌≢◌, ℕ, ◌+◌, ◌<◌, ◌≤◌, true, false, Option, Some, None}
use Rattle.kn_base.specs.declared.limits.TheConstants.{LOCALS}
use Rattle.kn_base.specs.declared.heap.Sizes.{Sizes}
use Rattle.kn_base.specs.declared.kinds.NodeKind.{NodeKind}
use Rattle.kn_base.specs.declared.kinds.NodeKind.TheVariants as nodes
use Rattle.kn_base.specs.declared.mark_word.MarkWord.{MarkWord}
use Rattle.kn_base.specs.Words.{packed_mark, IsMarkWord, packed_header, IsHeaderWord, packed_node}
use Rattle.kn_base.specs.Sizes.{frame_count}
use Rattle.kn_base.specs.Spans.{AreApart, LiesIn}
use Rattle.kn_layout.specs.declared.layouts.FieldKind.{FieldKind}
use Rattle.kn_layout.specs.declared.layouts.FieldKind.TheVariants.{Ref as of_ref, Int as of_int}
use Rattle.kn_graph.specs.Ground.{Ground}
use Rattle.kn_graph.specs.Graph.{Shape, words_of, field_kind, Lives}
use Rattle.kn_rule.specs.declared.positions.Position.{Position}
use Rattle.kn_rule.specs.declared.positions.Position.TheVariants.{Calling, Writing}
use Rattle.kn_rule.specs.declared.parts.Taken.{Taken}
use Rattle.kn_rule.specs.Decoding.{header_of}
use Rattle.kn_rule.specs.FrameSpans.{frame_span}
use Rattle.kn_rule.specs.Requests.{words_asked, field_of, cleared_word}
use Rattle.kn_rule.specs.MarkedHeap.{cell_limit}
use Rattle.kn_rule.specs.Steps.{callers}

-- the address of what a value names, and 0 for null
abbrev pub address_of : (ℕ → Shape) → Option ℕ → ℕ
address_of shape None = 0
address_of shape (Some n) = (shape n).address

-- a side word is a mark
pub record IsMarked (side : ℕ) : Type 0 where
  pub mark : MarkWord
  pub ranges : IsMarkWord mark
  pub packs : side ≡ packed_mark mark

-- a body word is a header with the object's layout and length
pub record IsHeadedBy (o : Shape) (body : ℕ) : Type 0 where
  pub extra : ℕ
  pub ranges : IsHeaderWord (record { layout = o.layout; length = o.length; extra = extra })
  pub packs : body ≡ packed_header (record { layout = o.layout; length = o.length; extra = extra })

-- each object that is not released has a mark and a header at its first word, and every other side word of the small and large
-- frames is 0
pub record Headed (z : Ground) (born : ℕ) (shape : ℕ → Shape) (side body : ℕ → ℕ) : Type 0 where
  pub marks : (n : ℕ) → Lives born shape n → IsMarked (side (shape n).address)
  pub headers : (n : ℕ) → Lives born shape n → IsHeadedBy (shape n) (body (shape n).address)
  pub blank : (a : ℕ) → a < cell_limit z.sizes → ((n : ℕ) → Lives born shape n → (shape n).address ≢ a) → side a ≡ 0

abbrev pub IsReadFor : (ℕ → Shape) → (ℕ → Option ℕ) → Option (ℕ × ℕ × FieldKind) → Option ℕ → Type 0
IsReadFor shape local None h = Unit {0}
IsReadFor shape local (Some t) None = Unit {0}
IsReadFor shape local (Some t) (Some h) =
    (n : ℕ) → local t.0 ≡ Some n → ((header_of h).layout ≡ (shape n).layout) × ((header_of h).length ≡ (shape n).length)

abbrev pub IsReadAt : (ℕ → Shape) → (ℕ → Option ℕ) → Position → Option ℕ → Type 0
IsReadAt shape local (Calling call) h = IsReadFor shape local (field_of call) h
IsReadAt shape local _ h = Unit {0}

-- the layout and the length that a view has read for its call are those of the object
pub record ReadRight (z : Ground) (shape : ℕ → Shape) (local : ℕ → ℕ → Option ℕ) (position : ℕ → Position)
    (header : ℕ → Option ℕ) : Type 0 where
  pub each : (c : ℕ) → c < z.sizes.threads → IsReadAt shape (local c) (position c) (header c)

-- the field words of each object that is not condemned are its fields, references by address
pub record Fielded (z : Ground) (born : ℕ) (shape : ℕ → Shape) (points : ℕ → ℕ → Option ℕ) (number : ℕ → ℕ → ℕ)
    (body : ℕ → ℕ) : Type 0 where
  pub refs : (n i : ℕ) → n < born → (shape n).condemned ≡ false → field_kind z (shape n) i ≡ Some of_ref →
      body ((shape n).address + 1 + i) ≡ address_of shape (points n i)
  pub ints : (n i : ℕ) → n < born → (shape n).condemned ≡ false → field_kind z (shape n) i ≡ Some of_int →
      body ((shape n).address + 1 + i) ≡ number n i

abbrev pub IsCleared : Ground → (ℕ → ℕ) → (ℕ → ℕ) → Position → Option Taken → Type 0
IsCleared z body local (Calling call) (Some t) = (i : ℕ) → i < t.cleared → body (t.span.start + i) ≡ cleared_word z local call i
IsCleared z body local _ t = Unit {0}

-- as far as a cell that was taken and is not born is cleared, it has the words of the call, for the locals of its caller
pub record Cleared (z : Ground) (body : ℕ → ℕ) (local : ℕ → ℕ → ℕ) (position : ℕ → Position) (taken : ℕ → Option Taken) : Type 0 where
  pub each : (c : ℕ) → c < callers z.sizes → IsCleared z body (local c) (position c) (taken c)

-- a write of this local is under way
abbrev pub IsWriting : Position → ℕ → Type 0
IsWriting (Writing r w n) s = s ≡ r
IsWriting _ s = ⊥

abbrev pub IsValueDue : Position → (ℕ → ℕ) → Type 0
IsValueDue (Writing r w n) local = w ≡ local r
IsValueDue _ local = Unit {0}

-- the words of locals are those of the graph, but for one with a write under way; those that a view has, the value that is due
-- among them, are those of the graph
pub record Localed (z : Ground) (shape : ℕ → Shape) (value : ℕ → ℕ → Option ℕ) (word : ℕ → ℕ → ℕ) (position : ℕ → Position)
    (local : ℕ → ℕ → ℕ) : Type 0 where
  pub words : (c r : ℕ) → c < z.sizes.threads → r < LOCALS → ¬ IsWriting (position c) r → word c r ≡ address_of shape (value c r)
  pub views : (c r : ℕ) → c < z.sizes.threads → r < LOCALS → local c r ≡ address_of shape (value c r)
  pub due : (c : ℕ) → c < z.sizes.threads → IsValueDue (position c) (local c)

-- the words of globals are those of the graph
pub record Globaled (z : Ground) (shape : ℕ → Shape) (value : ℕ → Option ℕ) (word : ℕ → ℕ) : Type 0 where
  pub words : (i : ℕ) → i < z.sizes.globals → word i ≡ address_of shape (value i)

-- the word of a name of a kind, by what it names and its count
abbrev pub name_word : (ℕ → Shape) → NodeKind → Option ℕ → ℕ → ℕ
name_word shape kind None count = packed_node (record { kind = nodes.Vacant; count = 0; addr = 0 })
name_word shape kind (Some n) count = packed_node (record { kind = kind; count = count; addr = (shape n).address })

-- the word of a name that was cleared
abbrev pub cleared_name : ℕ
cleared_name = packed_node (record { kind = nodes.Cleared; count = 0; addr = 0 })

-- the object that a name names is condemned
abbrev pub NamesCondemned : (ℕ → Shape) → Option ℕ → Type 0
NamesCondemned shape None = ⊥
NamesCondemned shape (Some n) = (shape n).condemned ≡ true

-- the words of names are those of the graph, but for weak and back ones that are cleared, which name what is condemned: the stable
-- ones, then the weak ones, then the back ones
pub record Named (z : Sizes) (shape : ℕ → Shape) (stable weak back : ℕ → Option ℕ) (count : ℕ → ℕ) (word : ℕ → ℕ) : Type 0 where
  pub stables : (h : ℕ) → h < z.stable → word h ≡ name_word shape nodes.Stable (stable h) 0
  pub weaks : (w : ℕ) → w < z.weak → word (z.stable + w) ≢ cleared_name → word (z.stable + w) ≡ name_word shape nodes.Weak (weak w) 0
  pub backs : (b : ℕ) → b < z.back → word (z.stable + z.weak + b) ≢ cleared_name →
      word (z.stable + z.weak + b) ≡ name_word shape nodes.Back (back b) (count b)
  pub cleared_weaks : (w : ℕ) → w < z.weak → word (z.stable + w) ≡ cleared_name → NamesCondemned shape (weak w)
  pub cleared_backs : (b : ℕ) → b < z.back → word (z.stable + z.weak + b) ≡ cleared_name → NamesCondemned shape (back b)

-- the call under way asks for a cell of this length
abbrev pub IsAskedBy : Ground → Position → Taken → Type 0
IsAskedBy z (Calling call) t = words_asked z call ≡ Some t.span.len
IsAskedBy z _ t = ⊥

-- the cells that were taken and are not born are apart from all objects and from one another; each lies in its frame, and is as
-- long as the request of a call under way
pub record Apart (z : Ground) (born : ℕ) (shape : ℕ → Shape) (position : ℕ → Position) (taken : ℕ → Option Taken) : Type 0 where
  pub objects : (c n : ℕ) (t : Taken) → c < callers z.sizes → taken c ≡ Some t → Lives born shape n → AreApart (words_of (shape n)) t.span
  pub others : (c d : ℕ) (t u : Taken) → c < callers z.sizes → d < callers z.sizes → c ≢ d → taken c ≡ Some t → taken d ≡ Some u →
      AreApart t.span u.span
  pub asked : (c : ℕ) (t : Taken) → c < callers z.sizes → taken c ≡ Some t → IsAskedBy z (position c) t
  pub inside : (c : ℕ) (t : Taken) → c < callers z.sizes → taken c ≡ Some t →
      (t.frame < frame_count z.sizes) × LiesIn t.span (frame_span z.sizes t.frame) × (t.cleared ≤ t.span.len)
