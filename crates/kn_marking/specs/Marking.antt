-- What holds between any two steps of the marking, and between two markings.
use Rattle.std.specs.Prelude.{◌≡◌, ◌≢◌, ◌⊎◌, ◌↔◌, ℕ, ◌+◌, ◌*◌, ◌<◌, ◌≤◌, Bool, true, Option, Some, None}
use Rattle.kn_marking.specs.declared.work.Work.{Work}
use Rattle.kn_marking.specs.declared.work.Doing.{Doing}
use Rattle.kn_marking.specs.declared.work.Doing.TheVariants.{Free, Set, Header, Cell}
use Rattle.kn_marking.specs.declared.work.Child.{Child}
use Rattle.kn_marking.specs.declared.work.Child.TheVariants.{NoChild, Met, Seen, Reserved}
use Rattle.kn_marking.specs.Heap.{Heap, Live, Holds, Roots, Reachable}
use Rattle.kn_marking.specs.Totals.{total}
use Rattle.kn_marking.specs.Words.{gray, scanned, black, claimed, finished, before, one, but, SetIs}

-- the cell, or the root set, that a caller goes through
abbrev pub cell_of : Doing → Option ℕ
cell_of Free = None
cell_of (Set j i) = None
cell_of (Header x) = Some x
cell_of (Cell x h i) = Some x

abbrev pub set_of : Doing → Option ℕ
set_of Free = None
set_of (Set j i) = Some j
set_of (Header x) = None
set_of (Cell x h i) = None

-- a caller goes through a root set or a cell
abbrev pub Busy : Doing → Type 0
Busy Free = ⊥
Busy _ = Unit {0}

-- the place reached
abbrev pub place : Doing → ℕ
place Free = 0
place (Set j i) = i
place (Header x) = 0
place (Cell x h i) = i

-- the same root set or cell, with another place reached
abbrev pub to : ℕ → Doing → Doing
to p Free = Free
to p (Set j i) = Set j p
to p (Header x) = Header x
to p (Cell x h i) = Cell x h p

module _ (H : Heap) where
  -- how many places there are to go through
  abbrev pub bound : Doing → ℕ
  bound Free = 0
  bound (Set j i) = H.words j
  bound (Header x) = 0
  bound (Cell x h i) = H.size x

  -- the object that place k holds
  abbrev pub ref : Doing → ℕ → Option ℕ
  ref Free k = None
  ref (Set j i) k = H.root j k
  ref (Header x) k = None
  ref (Cell x h i) k = H.field x k

  -- a place that is done holds y
  abbrev pub Past : Doing → ℕ → Type 0
  Past d y = (k : ℕ) × ((k < place d) × (k < bound d) × (ref d k ≡ Some y))

  -- the place reached holds y
  abbrev pub Names : Doing → ℕ → Type 0
  Names d y = (place d < bound d) × (ref d (place d) ≡ Some y)

  -- from place a on, no place before p holds an object
  abbrev pub Empty : Doing → ℕ → ℕ → Type 0
  Empty d a p = (k y : ℕ) → a ≤ k → k < p → k < bound d → ref d k ≡ Some y → ⊥

-- the units of work that a caller holds for a child
abbrev pub held : Child → ℕ
held (Reserved y w) = 1
held _ = 0

-- the units of work that a caller holds
abbrev pub credits : Work → ℕ
credits w = w.owed + held w.child

module _ (e : ℕ) (mark : ℕ → ℕ) where
  -- y has a mark of the epoch
  abbrev pub Marked : ℕ → Type 0
  Marked y = 4 * e ≤ mark y

  -- the mark w that was loaded of y is of an earlier epoch; it stands still, or gave way to one of the epoch
  abbrev pub Loaded : ℕ → ℕ → Type 0
  Loaded y w = (w < 4 * e) × ((mark y ≡ w) ⊎ Marked y)

-- a child is the object that the place reached names, and the mark loaded of it is right
module _ (H : Heap) (e : ℕ) (mark : ℕ → ℕ) (d : Doing) where
  abbrev pub ChildFits : Child → Type 0
  ChildFits NoChild = Unit {0}
  ChildFits (Met y) = Names H d y
  ChildFits (Seen y w) = Names H d y × Loaded e mark y w
  ChildFits (Reserved y w) = Names H d y × Loaded e mark y w

-- what one caller has is so: its epoch is not past that of the marking, and is that one where it goes through a set or a cell; what
-- the places that are done hold is marked; its child fits; the word of a set that is due is of an epoch below its own; and it holds one
-- unit of work at most
pub record Fits (H : Heap) (e : ℕ) (mark : ℕ → ℕ) (w : Work) : Type 0 where
  pub early : w.epoch ≤ e
  pub current : Busy w.doing → w.epoch ≡ e
  pub done : (y : ℕ) → Past H w.doing y → Marked e mark y
  pub child : ChildFits H e mark w.doing w.child
  pub due : (j v : ℕ) → w.due ≡ Some (j, v) → (j < H.sets) × (v < 4 * w.epoch)
  pub few : credits w ≤ 1

-- the marks of objects, behind `now` pauses: those of the condemned are of an epoch below now; none is past the epoch of the marking;
-- each is a colour; gray and scanned ones are of the epoch, and what is marked is reachable
pub record Colours (H : Heap) (now e : ℕ) (mark : ℕ → ℕ) : Type 0 where
  pub aged : (x : ℕ) → Live H x → (H.condemned x ≡ true) ↔ (mark x < 4 * now)
  pub last : (x : ℕ) → Live H x → mark x ≤ black e
  pub coloured : (x k : ℕ) → Live H x → mark x ≢ 4 * k
  pub tinted : (x k : ℕ) → Live H x → (mark x ≡ gray k) ⊎ (mark x ≡ scanned k) → k ≡ e
  pub reached : (x : ℕ) → Live H x → Marked e mark x → Reachable H x

-- what is done refers to nothing that is not marked: black objects, and root sets that are finished
pub record Closed (H : Heap) (e : ℕ) (mark set : ℕ → ℕ) : Type 0 where
  pub blacks : (x y : ℕ) → Live H x → mark x ≡ black e → Holds H x y → Marked e mark y
  pub ended : (j y : ℕ) → j < H.sets → set j ≡ finished e → Roots H j y → Marked e mark y

-- the word of i is v exactly where one of n callers has i
pub record Tied (n : ℕ) (Of : ℕ → Type 0) (word : ℕ → ℕ) (v : ℕ) (has : ℕ → Option ℕ) : Type 0 where
  pub into : (i : ℕ) → Of i → word i ≡ v → (c : ℕ) × ((c < n) × (has c ≡ Some i))
  pub back : (i c : ℕ) → c < n → has c ≡ Some i → Of i × (word i ≡ v)
  pub single : (i c d : ℕ) → c < n → d < n → has c ≡ Some i → has d ≡ Some i → c ≡ d

-- all open work: root sets that are not finished, gray objects, scanned objects, and the units that n callers hold
abbrev pub open_work : Heap → ℕ → ℕ → (ℕ → ℕ) → (ℕ → ℕ) → (ℕ → Work) → ℕ
open_work H e n mark set work =
    total H.sets (λ j. but (finished e) (set j)) + total H.objects (λ x. one (gray e) (mark x)) + total H.objects (λ x. one (scanned e) (mark x))
    + total n (λ c. credits (work c))

-- the shares of n callers in the marking of the epoch: root sets are before it, claimed or finished; the count is that of all open
-- work; a scanned cell, and a claimed set, is in exactly one share; and what each caller has is so
pub record Shares (H : Heap) (e n : ℕ) (mark set : ℕ → ℕ) (work : ℕ → Work) (pending : ℕ) : Type 0 where
  pub sets : (j : ℕ) → j < H.sets → SetIs e (set j)
  pub counted : pending ≡ open_work H e n mark set work
  pub cells : Tied n (Live H) mark (scanned e) (λ c. cell_of (work c).doing)
  pub claims : Tied n (λ j. j < H.sets) set (claimed e) (λ c. set_of (work c).doing)
  pub fits : (c : ℕ) → c < n → Fits H e mark (work c)

-- the marking of epoch e, behind `now` pauses
pub record Marking (H : Heap) (now e n : ℕ) (mark set : ℕ → ℕ) (work : ℕ → Work) (pending : ℕ) : Type 0 where
  pub next : e ≡ now + 1
  pub colours : Colours H now e mark
  pub closed : Closed H e mark set
  pub shares : Shares H e n mark set work pending

-- the marks tell what is reachable
abbrev pub Settled : Heap → ℕ → (ℕ → ℕ) → Type 0
Settled H e mark =
    (x : ℕ) → Live H x → (Reachable H x ↔ (mark x ≡ black e)) × ((Reachable H x → ⊥) ↔ (mark x < 4 * e))

-- a pause condemns what is not reachable, and leaves what was condemned
abbrev pub Pauses : Heap → (ℕ → Bool) → Type 0
Pauses H condemned = (x : ℕ) → Live H x → (condemned x ≡ true) ↔ ((H.condemned x ≡ true) ⊎ (Reachable H x → ⊥))

-- a caller that has no share
pub record Idle (w : Work) : Type 0 where
  pub free : w.doing ≡ Free
  pub no_child : w.child ≡ NoChild
  pub no_debt : w.owed ≡ 0

-- between two markings, e being the epoch of the last one, and 0 before the first: each root set is finished for it, no caller has
-- a share, and none has an epoch past it
pub record Rest (count e n : ℕ) (set : ℕ → ℕ) (work : ℕ → Work) : Type 0 where
  pub sets : (j : ℕ) → j < count → set j ≡ before (e + 1)
  pub idle : (c : ℕ) → c < n → Idle (work c)
  pub early : (c : ℕ) → c < n → (work c).epoch ≤ e
  pub due : (c j v : ℕ) → c < n → (work c).due ≡ Some (j, v) → (j < count) × (v < 4 * (work c).epoch)

-- the marks between two markings, behind `now` pauses: those of the condemned are of an epoch below now; none is past it; each is a
-- colour, and neither gray nor scanned
pub record Blackened (H : Heap) (now : ℕ) (mark : ℕ → ℕ) : Type 0 where
  pub aged : (x : ℕ) → Live H x → (H.condemned x ≡ true) ↔ (mark x < 4 * now)
  pub coloured : (x k : ℕ) → Live H x → mark x ≢ 4 * k
  pub tinted : (x k : ℕ) → Live H x → (mark x ≢ gray k) × (mark x ≢ scanned k)
