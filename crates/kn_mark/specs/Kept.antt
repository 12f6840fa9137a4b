-- What a marker keeps.
use Rattle.std.specs.Prelude.{ℕ, ◌+◌, ◌<◌, List, [], None}
use Rattle.std.specs.List.{AllByRecursion}
use Rattle.kn_base.specs.declared.heap.Sizes.{Sizes}
use Rattle.kn_base.specs.Sizes.{IsGood}
use Rattle.kn_marking.specs.declared.work.Work.{Work}
use Rattle.kn_marking.specs.declared.work.Doing.{Doing}
use Rattle.kn_marking.specs.declared.work.Doing.TheVariants as doings
use Rattle.kn_marking.specs.declared.work.Child.{Child}
use Rattle.kn_marking.specs.declared.work.Child.TheVariants as children
use Rattle.kn_marking.specs.Shares.{joined}
use Rattle.kn_rule.specs.Decoding.{header_of}
use Rattle.kn_rule.specs.MarkedHeap.{cell_limit, set_words}
use Rattle.kn_mark.specs.declared.stage.Stage.{Stage}
use Rattle.kn_mark.specs.declared.stage.Stage.TheVariants.{Looks, TakesUp, Searches}

-- the sizes of its heap; its caller's share of the marking; what it comes to where it goes through nothing; its hints, of which the
-- last one is taken up first; and the address at which it searches next
pub record Kept : Type 0 where
  pub sizes : Sizes
  pub work : Work
  pub stage : Stage
  pub hints : List ℕ
  pub cursor : ℕ

-- a share of an epoch with nothing under way
abbrev pub free_share : ℕ → Work
free_share e = record { epoch = e; due = None; doing = doings.Free; child = children.NoChild; owed = 0 }

-- a marker that was not started
abbrev pub new_kept : Sizes → Kept
new_kept z = record { sizes = z; work = free_share 0; stage = Looks 0; hints = []; cursor = 1 }

-- a marker that was started for an epoch: its cursor stays, and so does what is under way
abbrev pub started : Kept → ℕ → Kept
started k e = record k { work = joined k.work e; stage = Looks 0; hints = [] }

-- the root set that it comes to is one of the heap's
abbrev pub SetLies : Sizes → Stage → Type 0
SetLies z (Looks j) = j < z.threads + 2
SetLies z TakesUp = Unit {0}
SetLies z (Searches n) = Unit {0}

-- the cell that it scans lies where objects do
abbrev pub CellLies : Sizes → Doing → Type 0
CellLies z doings.Free = Unit {0}
CellLies z (doings.Set j i) = Unit {0}
CellLies z (doings.Header x) = x < cell_limit z
CellLies z (doings.Cell x h i) = x < cell_limit z

-- the place that it reached is one of the set's, or of the cell's
abbrev pub PlaceLies : Sizes → Doing → Type 0
PlaceLies z doings.Free = Unit {0}
PlaceLies z (doings.Set j i) = i < set_words z j
PlaceLies z (doings.Header x) = Unit {0}
PlaceLies z (doings.Cell x h i) = i < (header_of h).length

-- so does the child, and the place that names it is there
abbrev pub ChildLies : Sizes → Doing → Child → Type 0
ChildLies z d children.NoChild = Unit {0}
ChildLies z d (children.Met y) = (y < cell_limit z) × PlaceLies z d
ChildLies z d (children.Seen y v) = (y < cell_limit z) × PlaceLies z d
ChildLies z d (children.Reserved y v) = (y < cell_limit z) × PlaceLies z d

-- all that a marker keeps lies in its heap
pub record LiesInHeap (k : Kept) : Type 0 where
  pub good : IsGood k.sizes
  pub set : SetLies k.sizes k.stage
  pub cell : CellLies k.sizes k.work.doing
  pub child : ChildLies k.sizes k.work.doing k.work.child
  pub hints : AllByRecursion (λ x. x < cell_limit k.sizes) k.hints
  pub cursor : k.cursor < cell_limit k.sizes
