-- What the laws of the marking say: of a heap H, an epoch e behind `now` pauses, n callers, the marks, the words of root sets, the shares of
-- the callers, the count of open work, and the caller c that makes the step.
use Rattle.std.specs.Prelude.{◌≡◌, ◌≢◌, ◌↔◌, ℕ, ◌+◌, ◌-◌, ◌*◌, ◌<◌, ◌≤◌, Bool, true, Some}
use Rattle.kn_base.specs.Functions.{upd}
use Rattle.kn_marking.specs.declared.work.Work.{Work}
use Rattle.kn_marking.specs.declared.work.Doing.TheVariants.{Free, Set, Header, Cell}
use Rattle.kn_marking.specs.declared.work.Child.TheVariants.{NoChild, Met, Seen, Reserved}
use Rattle.kn_marking.specs.Heap.{Heap, Live, Sound}
use Rattle.kn_marking.specs.Words.{gray, scanned, black, claimed, finished}
use Rattle.kn_marking.specs.Marking.{place, Names, Empty, Shares, Marking, Idle, Settled, Pauses, Rest, Blackened}
use Rattle.kn_marking.specs.Shares.{looked, took, missed, rested, passed, met, seen, reserved, passed_child, lost_child, paid, began, opened, joined}

-- a step that changes no mark and no word of a root set, and that leaves the shares right, leaves the whole right
abbrev pub SharesAreWhole : Type 0
SharesAreWhole = (H : Heap) (now e n : ℕ) (mark set : ℕ → ℕ) (work work' : ℕ → Work) (pending pending' : ℕ) →
    Marking H now e n mark set work pending → Shares H e n mark set work' pending' → Marking H now e n mark set work' pending'

-- a caller loads or stores the phase word of the marking
abbrev pub EpochsAreSeen : Type 0
EpochsAreSeen = (H : Heap) (e n : ℕ) (mark set : ℕ → ℕ) (work : ℕ → Work) (pending c : ℕ) → Shares H e n mark set work pending → c < n →
    Shares H e n mark set (upd work c (joined (work c) e)) pending

-- the word of a root set is loaded
abbrev pub SetsAreLooked : Type 0
SetsAreLooked = (H : Heap) (e n : ℕ) (mark set : ℕ → ℕ) (work : ℕ → Work) (pending c j : ℕ) → Shares H e n mark set work pending → c < n →
    j < H.sets → Shares H e n mark set (upd work c (looked (work c) j (set j))) pending

-- an exchange of the word of a root set is lost; one by a caller of an earlier epoch always is
abbrev pub SetsAreMissed : Type 0
SetsAreMissed = (H : Heap) (e n : ℕ) (mark set : ℕ → ℕ) (work : ℕ → Work) (pending c : ℕ) → Shares H e n mark set work pending → c < n →
    Shares H e n mark set (upd work c (missed (work c))) pending

abbrev pub StaleSetsAreMissed : Type 0
StaleSetsAreMissed = (H : Heap) (e n : ℕ) (mark set : ℕ → ℕ) (work : ℕ → Work) (pending c j v : ℕ) → Shares H e n mark set work pending →
    c < n → (work c).due ≡ Some (j, v) → (work c).epoch < e → set j ≢ v

-- it is won: the root set is claimed
abbrev pub SetsAreTaken : Type 0
SetsAreTaken = (H : Heap) (now e n : ℕ) (mark set : ℕ → ℕ) (work : ℕ → Work) (pending c j v : ℕ) → Sound H →
    Marking H now e n mark set work pending → c < n → (work c).due ≡ Some (j, v) → (work c).doing ≡ Free → set j ≡ v →
    Marking H now e n mark (upd set j (claimed e)) (upd work c (took (work c) j)) pending

-- a root set, all of whose words are done, is finished
abbrev pub SetsAreFinished : Type 0
SetsAreFinished = (H : Heap) (now e n : ℕ) (mark set : ℕ → ℕ) (work : ℕ → Work) (pending c j i : ℕ) → Sound H →
    Marking H now e n mark set work pending → c < n → (work c).doing ≡ Set j i → H.words j ≤ i → (work c).child ≡ NoChild →
    (work c).owed ≡ 0 →
    Marking H now e n mark (upd set j (finished e)) (upd work c (rested (work c))) pending

-- a load of a word of a root set, or of a field, finds nothing
abbrev pub PlacesArePassed : Type 0
PlacesArePassed = (H : Heap) (e n : ℕ) (mark set : ℕ → ℕ) (work : ℕ → Work) (pending c p : ℕ) → Shares H e n mark set work pending → c < n →
    Empty H (work c).doing (place (work c).doing) p → (work c).child ≡ NoChild → Shares H e n mark set (upd work c (passed (work c) p)) pending

-- it finds an object
abbrev pub ChildrenAreMet : Type 0
ChildrenAreMet = (H : Heap) (e n : ℕ) (mark set : ℕ → ℕ) (work : ℕ → Work) (pending c y : ℕ) → Shares H e n mark set work pending → c < n →
    Names H (work c).doing y → (work c).child ≡ NoChild → Shares H e n mark set (upd work c (met (work c) y)) pending

-- the mark of a child is loaded, and is of an earlier epoch; or it is of this one
abbrev pub ChildrenAreSeen : Type 0
ChildrenAreSeen = (H : Heap) (e n : ℕ) (mark set : ℕ → ℕ) (work : ℕ → Work) (pending c y : ℕ) → Shares H e n mark set work pending → c < n →
    (work c).child ≡ Met y → mark y < 4 * e → Shares H e n mark set (upd work c (seen (work c) y (mark y))) pending

abbrev pub MarkedChildrenArePassed : Type 0
MarkedChildrenArePassed = (H : Heap) (e n : ℕ) (mark set : ℕ → ℕ) (work : ℕ → Work) (pending c y p : ℕ) →
    Shares H e n mark set work pending → c < n → (work c).child ≡ Met y → 4 * e ≤ mark y →
    Empty H (work c).doing (place (work c).doing + 1) p → Shares H e n mark set (upd work c (passed_child (work c) p)) pending

-- a unit of work is added for a child
abbrev pub UnitsAreAdded : Type 0
UnitsAreAdded = (H : Heap) (e n : ℕ) (mark set : ℕ → ℕ) (work : ℕ → Work) (pending c y v : ℕ) → Shares H e n mark set work pending → c < n →
    (work c).child ≡ Seen y v → (work c).owed ≡ 0 → Shares H e n mark set (upd work c (reserved (work c) y v)) (pending + 1)

-- the exchange of a child's mark is won: the child is gray
abbrev pub ChildrenAreGrayed : Type 0
ChildrenAreGrayed = (H : Heap) (now e n : ℕ) (mark set : ℕ → ℕ) (work : ℕ → Work) (pending c y v p : ℕ) → Sound H →
    Marking H now e n mark set work pending → c < n → (work c).child ≡ Reserved y v → mark y ≡ v →
    Empty H (work c).doing (place (work c).doing + 1) p →
    Marking H now e n (upd mark y (gray e)) set (upd work c (passed_child (work c) p)) pending

-- it is lost
abbrev pub ChildrenAreLost : Type 0
ChildrenAreLost = (H : Heap) (e n : ℕ) (mark set : ℕ → ℕ) (work : ℕ → Work) (pending c y v p : ℕ) → Shares H e n mark set work pending →
    c < n → (work c).child ≡ Reserved y v → mark y ≢ v → Empty H (work c).doing (place (work c).doing + 1) p →
    Shares H e n mark set (upd work c (lost_child (work c) p)) pending

-- a unit of work is given back; the count has it
abbrev pub UnitsAreGiven : Type 0
UnitsAreGiven = (H : Heap) (e n : ℕ) (mark set : ℕ → ℕ) (work : ℕ → Work) (pending c : ℕ) → Shares H e n mark set work pending → c < n →
    0 < (work c).owed → (1 ≤ pending) × Shares H e n mark set (upd work c (paid (work c))) (pending - 1)

-- few units are open: one for each root set, two for each object and one for each caller at most
abbrev pub FewAreOpen : Type 0
FewAreOpen = (H : Heap) (e n : ℕ) (mark set : ℕ → ℕ) (work : ℕ → Work) (pending : ℕ) → Shares H e n mark set work pending →
    pending ≤ H.sets + H.objects + H.objects + n

-- a gray object becomes scanned; by a caller of an earlier epoch none does
abbrev pub GrayAreScanned : Type 0
GrayAreScanned = (H : Heap) (now e n : ℕ) (mark set : ℕ → ℕ) (work : ℕ → Work) (pending c x : ℕ) → Sound H →
    Marking H now e n mark set work pending → c < n → Live H x → (work c).doing ≡ Free → mark x ≡ gray (work c).epoch →
    ((work c).epoch ≡ e) × Marking H now e n (upd mark x (scanned e)) set (upd work c (began (work c) x)) pending

-- the header of a scanned cell is read, and no field before place p holds an object
abbrev pub HeadersAreRead : Type 0
HeadersAreRead = (H : Heap) (e n : ℕ) (mark set : ℕ → ℕ) (work : ℕ → Work) (pending c x h p : ℕ) → Shares H e n mark set work pending →
    c < n → (work c).doing ≡ Header x → Empty H (Cell x h 0) 0 p → Shares H e n mark set (upd work c (opened (work c) x h p)) pending

-- a cell, all of whose fields are done, becomes black
abbrev pub CellsAreBlackened : Type 0
CellsAreBlackened = (H : Heap) (now e n : ℕ) (mark set : ℕ → ℕ) (work : ℕ → Work) (pending c x h i : ℕ) → Sound H →
    Marking H now e n mark set work pending → c < n → (work c).doing ≡ Cell x h i → H.size x ≤ i → (work c).child ≡ NoChild →
    (work c).owed ≡ 0 →
    Marking H now e n (upd mark x (black e)) set (upd work c (rested (work c))) pending

-- where the count is 0 no caller has a share
abbrev pub NoneHasAShare : Type 0
NoneHasAShare = (H : Heap) (e n : ℕ) (mark set : ℕ → ℕ) (work : ℕ → Work) (pending c : ℕ) → Shares H e n mark set work pending →
    pending ≡ 0 → c < n → Idle (work c)

-- where the count is 0 the black objects are the reachable ones, and those with an older mark are the others
abbrev pub MarksAreSettled : Type 0
MarksAreSettled = (H : Heap) (now e n : ℕ) (mark set : ℕ → ℕ) (work : ℕ → Work) (pending : ℕ) → Sound H →
    Marking H now e n mark set work pending → pending ≡ 0 → Settled H e mark

-- a pause there condemns exactly the objects with an older mark, and what is not condemned then holds only what is not
abbrev pub PausesCondemn : Type 0
PausesCondemn = (H : Heap) (now e n : ℕ) (mark set : ℕ → ℕ) (work : ℕ → Work) (pending : ℕ) (condemned : ℕ → Bool) → Sound H →
    Marking H now e n mark set work pending → pending ≡ 0 → Pauses H condemned →
    ((x : ℕ) → Live H x → (condemned x ≡ true) ↔ (mark x < 4 * e)) × Sound (record H { condemned = condemned })

-- what a marking leaves
abbrev pub MarkingsRest : Type 0
MarkingsRest = (H : Heap) (e n : ℕ) (mark set : ℕ → ℕ) (work : ℕ → Work) → 0 < e → Shares H e n mark set work 0 → Rest H.sets e n set work

-- between two markings the word of a root set is loaded; an exchange of it is lost
abbrev pub RestingSetsAreLooked : Type 0
RestingSetsAreLooked = (sets e n : ℕ) (set : ℕ → ℕ) (work : ℕ → Work) (c j v : ℕ) → Rest sets e n set work → c < n → j < sets →
    Rest sets e n set (upd work c (looked (work c) j v))

abbrev pub RestingSetsAreMissed : Type 0
RestingSetsAreMissed = (sets e n : ℕ) (set : ℕ → ℕ) (work : ℕ → Work) (c : ℕ) → Rest sets e n set work → c < n →
    ((j v : ℕ) → (work c).due ≡ Some (j, v) → set j ≢ v) × Rest sets e n set (upd work c (missed (work c)))

-- the number of root sets is stored as the count of open work; then the phase word of the marking is stored
abbrev pub MarkingsBegin : Type 0
MarkingsBegin = (H : Heap) (now n : ℕ) (mark set : ℕ → ℕ) (work : ℕ → Work) → Rest H.sets now n set work →
    ((x : ℕ) → x < H.objects → mark x < 4 * (now + 1)) → Blackened H now mark → Marking H now (now + 1) n mark set work H.sets
