-- What a marker does next: which step, when, what it keeps behind it, and what its turn answers.
use Rattle.std.specs.Prelude.{◌≡◌, ℕ, ◌+◌, ◌-◌, ◌*◌, ◌<◌, ◌≤◌, ◌==◌, cond, List, [], ◌∷◌, ◌++◌, length, take}
use Rattle.std.specs.Prelude.{slice_get, Option, Some, None, nat_lt}
use Rattle.kn_base.specs.declared.heap.Sizes.{Sizes}
use Rattle.kn_base.specs.declared.places.Place.TheVariants.{Pending, RootSet, Side, Body}
use Rattle.kn_graph.specs.Ground.{Ground}
use Rattle.kn_marking.specs.declared.work.Work.{Work}
use Rattle.kn_marking.specs.declared.work.Doing.TheVariants as doings
use Rattle.kn_marking.specs.declared.work.Child.TheVariants as children
use Rattle.kn_marking.specs.Words.{gray, scanned, black, claimed, finished}
use Rattle.kn_marking.specs.Shares.{looked, took, missed, rested, seen, reserved, passed_child, lost_child, paid, began, opened}
use Rattle.kn_rule.specs.declared.steps.Action.{Action}
use Rattle.kn_rule.specs.declared.steps.Kind.TheVariants.{K16, K17, K18, K19, K20, K21, K22, K23, K24}
use Rattle.kn_rule.specs.declared.steps.Action.TheVariants.{Loads, Stores, Swaps, Adds as AddsTo, Subtracts}
use Rattle.kn_rule.specs.Decoding.{header_of}
use Rattle.kn_rule.specs.MarkedHeap.{cell_limit, set_words, set_place, set_holds, object_in, next_ref, place_behind}
use Rattle.kn_rule.specs.MarkSteps.{arrived}
use Rattle.kn_rule.specs.Steps.{Step, does}
use Rattle.kn_mark.specs.declared.stage.Stage.{Stage}
use Rattle.kn_mark.specs.declared.stage.Stage.TheVariants as stages
use Rattle.kn_mark.specs.declared.next.Next.{Next}
use Rattle.kn_mark.specs.declared.next.Next.TheVariants.{Gives, Meets, Adds, Grays, LoadsRoot, Finishes, LoadsHeader, LoadsField, Blackens}
use Rattle.kn_mark.specs.declared.next.Next.TheVariants.{Claims, LooksAt, TakesUp, Counts, Searches}
use Rattle.kn_mark.specs.declared.turn.MarkTurn.{MarkTurn}
use Rattle.kn_mark.specs.declared.turn.MarkTurn.TheVariants.{Moved, Idle, Over}
use Rattle.kn_mark.specs.Kept.{Kept}

-- the last hint, and the others
abbrev pub last_of : List ℕ → Option ℕ
last_of hints = slice_get hints (length hints - 1)

abbrev pub but_last : List ℕ → List ℕ
but_last hints = take (length hints - 1) hints

-- the hints with one more, which is kept where fewer than 64 are
abbrev pub with_hint : List ℕ → ℕ → List ℕ
with_hint hints x = cond (nat_lt (length hints) 64) (hints ++ x ∷ []) hints

-- it owes no unit and has no child
abbrev pub IsClear : Kept → Type 0
IsClear k = (k.work.owed ≡ 0) × (k.work.child ≡ children.NoChild)

-- nor does it go through a root set or a cell
abbrev pub IsFree : Kept → Type 0
IsFree k = IsClear k × (k.work.doing ≡ doings.Free)

-- nor is the exchange of a root set's word due: it is at a stage
abbrev pub IsAt : Kept → Stage → Type 0
IsAt k t = IsFree k × (k.work.due ≡ None) × (k.stage ≡ t)

-- what it does next: it gives back what it owes; then it goes on with its child; then with the place that it reached, or, where all
-- places are done, it ends its root set or its cell; then it claims the root set that is due; then it goes on with its stage
abbrev pub IsNext : Kept → Next → Type 0
IsNext k Gives = 0 < k.work.owed
IsNext k (Meets y) = (k.work.owed ≡ 0) × (k.work.child ≡ children.Met y)
IsNext k (Adds y v) = (k.work.owed ≡ 0) × (k.work.child ≡ children.Seen y v)
IsNext k (Grays y v) = (k.work.owed ≡ 0) × (k.work.child ≡ children.Reserved y v)
IsNext k (LoadsRoot j i) = IsClear k × (k.work.doing ≡ doings.Set j i) × (i < set_words k.sizes j)
IsNext k (Finishes j) = IsClear k × ((i : ℕ) × (k.work.doing ≡ doings.Set j i) × (set_words k.sizes j ≤ i))
IsNext k (LoadsHeader x) = IsClear k × (k.work.doing ≡ doings.Header x)
IsNext k (LoadsField x h i) = IsClear k × (k.work.doing ≡ doings.Cell x h i) × (i < (header_of h).length)
IsNext k (Blackens x) = IsClear k × ((h i : ℕ) × (k.work.doing ≡ doings.Cell x h i) × ((header_of h).length ≤ i))
IsNext k (Claims j v) = IsFree k × (k.work.due ≡ Some (j, v))
IsNext k (LooksAt j) = IsAt k (stages.Looks j)
IsNext k (TakesUp x) = IsAt k stages.TakesUp × (last_of k.hints ≡ Some x)
IsNext k Counts = IsAt k stages.TakesUp × (k.hints ≡ [])
IsNext k (Searches n) = IsAt k (stages.Searches n)

-- the step
abbrev pub step_of : Kept → Next → Step
step_of k Gives = does K21 Pending (Subtracts 1)
step_of k (Meets y) = does K20 (Side y) Loads
step_of k (Adds y v) = does K19 Pending (AddsTo 1)
step_of k (Grays y v) = does K20 (Side y) (Swaps v (gray k.work.epoch))
step_of k (LoadsRoot j i) = does K18 (set_place k.sizes j i) Loads
step_of k (Finishes j) = does K17 (RootSet j) (Stores (finished k.work.epoch))
step_of k (LoadsHeader x) = does K23 (Body x) Loads
step_of k (LoadsField x h i) = does K23 (Body (x + 1 + i)) Loads
step_of k (Blackens x) = does K24 (Side x) (Stores (black k.work.epoch))
step_of k (Claims j v) = does K17 (RootSet j) (Swaps v (claimed k.work.epoch))
step_of k (LooksAt j) = does K17 (RootSet j) Loads
step_of k (TakesUp x) = does K22 (Side x) (Swaps (gray k.work.epoch) (scanned k.work.epoch))
step_of k Counts = does K16 Pending Loads
step_of k (Searches n) = does K20 (Side k.cursor) Loads

-- the share behind the step that found the word w
abbrev pub work_behind : Ground → Kept → Next → ℕ → Work
work_behind z k Gives w = paid k.work
work_behind z k (Meets y) w =
    cond (nat_lt w (4 * k.work.epoch)) (seen k.work y w) (passed_child k.work (place_behind z k.work.doing))
work_behind z k (Adds y v) w = reserved k.work y v
work_behind z k (Grays y v) w =
    cond (w == v) (passed_child k.work (place_behind z k.work.doing)) (lost_child k.work (place_behind z k.work.doing))
work_behind z k (LoadsRoot j i) w = arrived z k.work w (set_holds k.sizes j w)
work_behind z k (Finishes j) w = rested k.work
work_behind z k (LoadsHeader x) w = opened k.work x w (next_ref z w 0)
work_behind z k (LoadsField x h i) w = arrived z k.work w (object_in w)
work_behind z k (Blackens x) w = rested k.work
work_behind z k (Claims j v) w = cond (w == v) (took k.work j) (missed k.work)
work_behind z k (LooksAt j) w = looked k.work j w
work_behind z k (TakesUp x) w = cond (w == gray k.work.epoch) (began k.work x) k.work
work_behind z k Counts w = k.work
work_behind z k (Searches n) w = k.work

-- behind root set j comes the next one, and behind the last one the hints
abbrev pub after_set : Sizes → ℕ → Stage
after_set z j = cond (nat_lt (j + 1) (z.threads + 2)) (stages.Looks (j + 1)) stages.TakesUp

-- behind a mark that was not gray the search goes on, but not past so many loads or the last address
abbrev pub searched : Kept → ℕ → Stage
searched k n =
    cond (nat_lt (k.cursor + 1) (cell_limit k.sizes)) (cond (nat_lt 1 n) (stages.Searches (n - 1)) stages.TakesUp) stages.TakesUp

abbrev pub stage_behind : Kept → Next → ℕ → Stage
stage_behind k (LooksAt j) w = after_set k.sizes j
stage_behind k Counts w = cond (w == 0) k.stage (stages.Searches 64)
stage_behind k (Searches n) w = cond (w == gray k.work.epoch) stages.TakesUp (searched k n)
stage_behind k _ w = k.stage

-- a child that became gray is kept as a hint, and so is a gray object that was found; one that is taken up is a hint no more
abbrev pub hints_behind : Kept → Next → ℕ → List ℕ
hints_behind k (Grays y v) w = cond (w == v) (with_hint k.hints y) k.hints
hints_behind k (TakesUp x) w = but_last k.hints
hints_behind k (Searches n) w = cond (w == gray k.work.epoch) (with_hint k.hints k.cursor) k.hints
hints_behind k _ w = k.hints

-- a load of a search moves the cursor on, and behind the last address it begins anew
abbrev pub moved_on : Kept → ℕ
moved_on k = cond (nat_lt (k.cursor + 1) (cell_limit k.sizes)) (k.cursor + 1) 1

abbrev pub cursor_behind : Kept → Next → ℕ
cursor_behind k (Searches n) = moved_on k
cursor_behind k _ = k.cursor

-- what it keeps behind the step that found the word w
abbrev pub behind : Ground → Kept → Next → ℕ → Kept
behind z k n w = record k {
  work = work_behind z k n w;
  stage = stage_behind k n w;
  hints = hints_behind k n w;
  cursor = cursor_behind k n;
}

-- what the turn answers
abbrev pub answer_behind : Kept → Next → ℕ → MarkTurn
answer_behind k (LooksAt j) w = cond (nat_lt w (4 * k.work.epoch)) Moved (Idle (RootSet j) w)
answer_behind k Counts w = cond (w == 0) Over Moved
answer_behind k (Searches n) w = cond (w == gray k.work.epoch) Moved (Idle (Side k.cursor) w)
answer_behind k _ w = Moved

-- an object that a loaded word names lies where objects do
abbrev pub NamesNear : Kept → Next → ℕ → Type 0
NamesNear k (LoadsRoot j i) w = (y : ℕ) → set_holds k.sizes j w ≡ Some y → y < cell_limit k.sizes
NamesNear k (LoadsField x h i) w = (y : ℕ) → object_in w ≡ Some y → y < cell_limit k.sizes
NamesNear k _ w = Unit {0}

-- a step tells the word that it found, but for a store
abbrev pub Tells : Action → ℕ → ℕ → Type 0
Tells (Stores n) word told = Unit {0}
Tells _ word told = word ≡ told
