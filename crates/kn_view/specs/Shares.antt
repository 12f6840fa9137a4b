-- What a step of a marker asks of the share that is stored, and of the word found.
use Rattle.std.specs.Prelude.{◌≢◌, ℕ, ◌+◌, ◌<◌, ◌^◌}
use Rattle.kn_base.specs.declared.heap.Sizes.{Sizes}
use Rattle.kn_marking.specs.declared.work.Work.{Work}
use Rattle.kn_marking.specs.declared.work.Doing.{Doing}
use Rattle.kn_marking.specs.declared.work.Doing.TheVariants.{Set, Cell}
use Rattle.kn_marking.specs.declared.work.Child.{Child}
use Rattle.kn_marking.specs.declared.work.Child.TheVariants.{Met, Reserved}
use Rattle.kn_marking.specs.Marking.{place}

-- one more unit may be owed
abbrev pub MayOwe : Work → Type 0
MayOwe w = w.owed + 1 < 2 ^ 64

-- the place behind that of a child has a number
abbrev pub IsChildNear : Doing → Child → Type 0
IsChildNear d (Met y) = place d + 1 < 2 ^ 32
IsChildNear d (Reserved y v) = place d + 1 < 2 ^ 32
IsChildNear d _ = Unit {0}

-- the word of a root set may be kept: that of a local or a global is an address
abbrev pub IsRootRead : Sizes → Doing → ℕ → Type 0
IsRootRead z (Set j i) n = (i + 1 < 2 ^ 32) × (j ≢ z.threads + 1 → n < 2 ^ 32)
IsRootRead z _ n = Unit {0}

-- the word of a reference field may be kept
abbrev pub IsCellRead : Doing → ℕ → Type 0
IsCellRead (Cell x h i) n = (i + 1 < 2 ^ 32) × (n < 2 ^ 32)
IsCellRead _ n = Unit {0}
