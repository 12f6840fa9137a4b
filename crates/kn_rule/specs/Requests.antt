-- What a call needs: a cell, its class, a frame of its area, the words that it is cleared to, and a field of a kind.
use Rattle.std.specs.Prelude.{◌≡◌, ℕ, ◌+◌, ◌*◌, ◌<◌, ◌≤◌, ◌==◌, Bool, true, false, cond, ◌&&◌, ◌||◌, not, List, []}
use Rattle.std.specs.Prelude.{◌∷◌, Option}
use Rattle.std.specs.Prelude.{Some, None, nat_le, nat_lt}
use Rattle.kn_base.specs.declared.numbers.Span.{Span}
use Rattle.kn_base.specs.declared.heap.Sizes.{Sizes}
use Rattle.kn_base.specs.declared.classes.TheConstants.{MOST_CELL, NEXT_FIT_CLASS, SINGLE_CLASS, EXTRA_CLASS}
use Rattle.kn_base.specs.declared.kinds.FrameKind.{FrameKind}
use Rattle.kn_base.specs.declared.kinds.FrameKind.TheVariants as frames
use Rattle.kn_base.specs.declared.frame_word.FrameWord.{FrameWord}
use Rattle.kn_base.specs.Classes.{IsCellSize}
use Rattle.kn_base.specs.Words.{packed_header}
use Rattle.kn_base.specs.Sizes.{frame_count}
use Rattle.kn_base.specs.SpanLists.{HasWord, Covers}
use Rattle.kn_layout.specs.declared.layouts.FieldKind.{FieldKind}
use Rattle.kn_layout.specs.declared.layouts.FieldKind.TheVariants.{Ref, Int}
use Rattle.kn_layout.specs.Layouts.{cell_size}
use Rattle.kn_graph.specs.declared.calls.Call.{Call}
use Rattle.kn_graph.specs.declared.calls.Call.TheVariants.{New, NewArray, Get, Set, Put, Read}
use Rattle.kn_graph.specs.Ground.{Ground}
use Rattle.kn_graph.specs.Graph.{Shape, length_for, field_kind}
use Rattle.kn_rule.specs.Decoding.{frame_of, header_of}

-- the local, the layout and the number of fields of the object that a call makes
abbrev pub birth_of : Ground → Call → Option (ℕ × ℕ × ℕ)
birth_of z (New r layout) = Some (r, layout, length_for z layout 0)
birth_of z (NewArray r layout n) = Some (r, layout, length_for z layout n)
birth_of z _ = None

abbrev pub birth_words : Option (ℕ × ℕ × ℕ) → Option ℕ
birth_words None = None
birth_words (Some b) = Some (cell_size b.2)

-- the words of the cell that a call asks for
abbrev pub words_asked : Ground → Call → Option ℕ
words_asked z call = birth_words (birth_of z call)

-- the class of the cells of n words: fixed ones where they are short enough, next-fit ones where they fit a small frame
abbrev pub class_for : Sizes → ℕ → ℕ
class_for z n = cond (nat_le n MOST_CELL) n (cond (nat_le n z.small_words) NEXT_FIT_CLASS SINGLE_CLASS)

abbrev pub class_where : Sizes → Option ℕ → ℕ
class_where z None = 0
class_where z (Some n) = class_for z n

-- the class of the cell that a call asks for, and 0 where it asks for none
abbrev pub class_asked : Ground → Call → ℕ
class_asked z call = class_where z.sizes (words_asked z call)

-- the class belongs to the area of frame p: fixed and next-fit ones to the small frames, single ones to the large ones, those
-- of extra cells to the extra ones
pub record InArea (z : Sizes) (p class : ℕ) : Type 0 where
  pub small : class ≤ NEXT_FIT_CLASS → p < z.small
  pub large : class ≡ SINGLE_CLASS → (z.small ≤ p) × (p < z.small + z.large)
  pub extra : EXTRA_CLASS ≤ class → (z.small + z.large ≤ p) × (p < frame_count z)

-- the first frame of a class's area, how many frames the area has, and the words of each
abbrev pub area_from : Sizes → ℕ → ℕ
area_from z class = cond (nat_le class NEXT_FIT_CLASS) 0 (cond (class == SINGLE_CLASS) z.small (z.small + z.large))

abbrev pub area_count : Sizes → ℕ → ℕ
area_count z class = cond (nat_le class NEXT_FIT_CLASS) z.small (cond (class == SINGLE_CLASS) z.large z.extra)

abbrev pub area_words : Sizes → ℕ → ℕ
area_words z class = cond (nat_le class NEXT_FIT_CLASS) z.small_words (cond (class == SINGLE_CLASS) z.large_words z.extra_words)

-- a cell of n words is longer than a frame of its class's area, or the area has no frame
abbrev pub is_too_long : Sizes → ℕ → ℕ → Bool
is_too_long z class n = nat_lt (area_words z class) n || (area_count z class == 0)

abbrev pub asks_too_much : Sizes → ℕ → Option ℕ → Bool
asks_too_much z class None = false
asks_too_much z class (Some n) = is_too_long z class n

abbrev pub is_usable_as : ℕ → FrameWord → FrameKind → Bool
is_usable_as class v frames.Vacant = true
is_usable_as class v frames.Empty = true
is_usable_as class v frames.Ready = v.class == class
is_usable_as class v frames.Used = false
is_usable_as class v frames.Unswept = true
is_usable_as class v frames.Owned = false

-- a search for a class may claim a frame with this word: it is vacant, empty, unswept, or ready and of the class
abbrev pub is_usable : ℕ → ℕ → Bool
is_usable class w = is_usable_as class (frame_of w) (frame_of w).kind

-- a cell lies in a frame as the cells of a class do: a fixed one has the class's size and begins a whole number of such sizes
-- behind the frame's start, a next-fit one is longer than any fixed one, and a single one begins at the frame's start
pub record IsCellOf (class : ℕ) (frame cell : Span) : Type 0 where
  pub fixed : IsCellSize class → (cell.len ≡ class) × ((n : ℕ) × (cell.start ≡ frame.start + n * class))
  pub next_fit : class ≡ NEXT_FIT_CLASS → NEXT_FIT_CLASS ≤ cell.len
  pub single : class ≡ SINGLE_CLASS → cell.start ≡ frame.start

-- every word of the span is free
abbrev pub AreFree : List Span → Span → Type 0
AreFree free cell = (a : ℕ) → HasWord cell a → Covers free a

-- all words of the frame are free
abbrev pub is_whole : Span → List Span → Bool
is_whole frame [] = false
is_whole frame (span ∷ []) = (span.start == frame.start) && (span.len == frame.len)
is_whole frame (span ∷ next ∷ rest) = false

-- a free span has at least n words
abbrev pub has_span : ℕ → List Span → Bool
has_span n [] = false
has_span n (span ∷ rest) = nat_le n span.len || has_span n rest

-- the words of the least cell of a class: two of an extra cell, and as many as the number of any other class says
abbrev pub least_cell : ℕ → ℕ
least_cell class = cond (class == EXTRA_CLASS) 2 class

-- a page of the class, if it is not single, has a free span for the least cell
abbrev pub has_room : ℕ → List Span → Bool
has_room class free = not (class == SINGLE_CLASS) && has_span (least_cell class) free

abbrev pub home_as : FrameWord → Bool → Bool → FrameWord
home_as v true room = record { kind = frames.Empty; class = 0; stamp = v.stamp; seat = 0 }
home_as v false true = record { kind = frames.Ready; class = v.class; stamp = v.stamp; seat = 0 }
home_as v false false = record { kind = frames.Used; class = v.class; stamp = v.stamp; seat = 0 }

-- the word with which a frame is given back, for its owned word and its free spans
abbrev pub home_word : Span → FrameWord → List Span → FrameWord
home_word frame v free = home_as v (is_whole frame free) (has_room v.class free)

abbrev pub owned_as : FrameWord → ℕ → ℕ → ℕ → FrameKind → FrameWord
owned_as v class epoch c frames.Vacant = record { kind = frames.Owned; class = class; stamp = epoch; seat = c }
owned_as v class epoch c frames.Empty = record { kind = frames.Owned; class = class; stamp = epoch; seat = c }
owned_as v class epoch c _ = record { kind = frames.Owned; class = v.class; stamp = v.stamp; seat = c }

-- the word of a frame that caller c claims for a class, for its word before
abbrev pub owned_word : FrameWord → ℕ → ℕ → ℕ → FrameWord
owned_word v class epoch c = owned_as v class epoch c v.kind

-- the local that names the object of a call on a field, the field, and the kind wanted
abbrev pub field_of : Call → Option (ℕ × ℕ × FieldKind)
field_of (Get r s f) = Some (s, f, Ref)
field_of (Set s f r) = Some (s, f, Ref)
field_of (Put s f n) = Some (s, f, Int)
field_of (Read s f) = Some (s, f, Int)
field_of _ = None

-- what a header tells of its object; the rest of the shape counts for nothing
abbrev pub told_shape : ℕ → Shape
told_shape h = record { address = 0; layout = (header_of h).layout; length = (header_of h).length; condemned = false; released = false }

-- the kind of field i of the object that a header tells of; none where it has no such field
abbrev pub told_kind : Ground → ℕ → ℕ → Option FieldKind
told_kind z h i = field_kind z (told_shape h) i

abbrev pub header_for : Option (ℕ × ℕ × ℕ) → ℕ
header_for None = 0
header_for (Some b) = packed_header (record { layout = b.1; length = b.2; extra = 0 })

-- word i of the cell of a call, when it is cleared, for the values of the caller's locals: the header, and then 0
abbrev pub cleared_word : Ground → (ℕ → ℕ) → Call → ℕ → ℕ
cleared_word z local call i = cond (i == 0) (header_for (birth_of z call)) 0
