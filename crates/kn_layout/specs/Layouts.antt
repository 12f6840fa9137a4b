-- Layouts: the fields of objects, and the sizes of their cells.
use Rattle.std.specs.Prelude.{ℕ, ◌+◌, ◌≤◌, List, Option, length, max, replicate, slice_get}
use Rattle.kn_layout.specs.declared.layouts.FieldKind.{FieldKind}
use Rattle.kn_layout.specs.declared.layouts.Layout.{Layout}
use Rattle.kn_layout.specs.declared.layouts.Layout.TheVariants.{Fields, Array}

-- the kinds of an object's fields, in order: those of the list, or as many copies of the one kind as its length
abbrev pub fields_of : Layout → ℕ → List FieldKind
fields_of (Fields kinds) n = kinds
fields_of (Array kind) n = replicate n kind

-- the words of a cell for so many fields: one, and one for each field, and at least two
abbrev pub cell_size : ℕ → ℕ
cell_size fields = max (1 + fields) 2

-- the words of a cell for an object of this layout and length
abbrev pub size_of : Layout → ℕ → ℕ
size_of layout n = cell_size (length (fields_of layout n))

-- the kind of field i of an object of this layout and length; none past its last field
abbrev pub nth_kind : Layout → ℕ → ℕ → Option FieldKind
nth_kind layout n i = slice_get (fields_of layout n) i

-- a list of fields has at most 64 of them
abbrev pub IsLayout : Layout → Type 0
IsLayout (Fields kinds) = length kinds ≤ 64
IsLayout (Array kind) = Unit {0}
