-- What marking keeps: a mark for each object, and a list of the marked objects whose fields are still to be read.
use Rattle.std.specs.Prelude.{◌≡◌, ℕ, ◌+◌, ◌<◌, ◌≤◌, ◌⊎◌, ◌↔◌, Bool, true, false, not, Option, Some, None, List, [], length}
use Rattle.std.specs.Prelude.{count_by, slice_get, slice_index, slice_index_or}
use Rattle.kn_objects.specs.declared.objects.KeptObject.{KeptObject}
use Rattle.kn_objects.specs.declared.marking.Roots.{Roots}
use Rattle.kn_graph.specs.Reachable.{IsReachable}
use Rattle.kn_objects.specs.Replay.{Replay, object_of, graph_of}

-- the object has a mark
abbrev pub IsMarked : List Bool → ℕ → Type 0
IsMarked marks n = slice_index_or marks n false ≡ true

-- the object is one of the first so many on the work list
abbrev pub IsListed : List ℕ → ℕ → ℕ → Type 0
IsListed work height n = (k : ℕ) × (k < height) × (slice_index work k ≡ n)

-- how many objects are still to be read: those on the work list, and those without a mark
abbrev pub objects_left : List Bool → ℕ → ℕ
objects_left marks height = height + count_by not marks

-- some value of the list is object n
abbrev pub IsHeldIn : List (Option ℕ) → ℕ → Type 0
IsHeldIn values n = (k : ℕ) × (slice_index_or values k None ≡ Some n)

-- some back name of a positive count is object n
abbrev pub IsCounted : List (Option ℕ) → List ℕ → ℕ → Type 0
IsCounted back counts n = (b : ℕ) × ((slice_index_or back b None ≡ Some n) × (0 < slice_index counts b))

-- some row has object n
abbrev pub IsHeldInRows : List (List (Option ℕ)) → ℕ → Type 0
IsHeldInRows rows n = (k : ℕ) × IsHeldIn (slice_index_or rows k []) n

-- some root is object n
abbrev pub IsRootIn : Roots → ℕ → Type 0
IsRootIn roots n = IsHeldInRows roots.locals.now n
    ⊎ (IsHeldIn roots.globals.now n ⊎ (IsHeldIn roots.stable.now n ⊎ IsCounted roots.back.now roots.counts.now n))

-- some field of object n holds object m
abbrev pub HoldsIn : List KeptObject → List (Option ℕ) → ℕ → ℕ → Type 0
HoldsIn objects points n m = (f : ℕ) × ((object_of points [] (slice_get objects n)).points f ≡ Some m)

-- exactly the objects of a set are marked beside those that were, and they are added to the work list
pub record Adds (held : ℕ → Type 0) (marks : List Bool) (work : List ℕ) (height : ℕ)
    (marks' : List Bool) (work' : List ℕ) (height' : ℕ) : Type 0 where
  pub marked : (n : ℕ) → IsMarked marks' n ↔ (IsMarked marks n ⊎ ((n < length marks) × held n))
  pub kept : (k : ℕ) → k < height → slice_index work' k ≡ slice_index work k
  pub higher : height ≤ height'
  pub listed : (n : ℕ) → IsMarked marks' n → IsMarked marks n ⊎ IsListed work' height' n
  pub all_marked : (k : ℕ) → height ≤ k → k < height' → IsMarked marks' (slice_index work' k)
  pub left : objects_left marks' height' ≡ objects_left marks height

-- each object on the work list is marked, and each marked object is on it or holds marked objects only
pub record IsWorkList (objects : List KeptObject) (points : List (Option ℕ))
    (marks : List Bool) (work : List ℕ) (height : ℕ) : Type 0 where
  pub marked : (k : ℕ) → k < height → IsMarked marks (slice_index work k)
  pub read : (n m : ℕ) → IsMarked marks n → HoldsIn objects points n m → m < length objects → IsListed work height n ⊎ IsMarked marks m

-- an object of a set, or one that a field of an object behind the set holds
pub data IsBehind (start : ℕ → Type 0) (objects : List KeptObject) (points : List (Option ℕ)) : ℕ → Type 0 where
  first : {n : ℕ} → start n → IsBehind start objects points n
  next : {n m : ℕ} → IsBehind start objects points n → HoldsIn objects points n m → IsBehind start objects points m

-- these are the objects, their fields and the roots that are kept of a graph
pub record IsReplayOf (r : Replay) (objects : List KeptObject) (points : List (Option ℕ)) (roots : Roots) : Type 0 where
  pub objects_are : objects ≡ r.objects
  pub points_are : points ≡ r.points
  pub locals_are : roots.locals.now ≡ r.locals
  pub globals_are : roots.globals.now ≡ r.globals
  pub stable_are : roots.stable.now ≡ r.stable
  pub back_are : roots.back.now ≡ r.back
  pub counts_are : roots.counts.now ≡ r.counts

-- of the objects born, exactly the reachable ones are marked
abbrev pub MarksReachable : Replay → List Bool → Type 0
MarksReachable r marks = (n : ℕ) → n < length r.objects → IsMarked marks n ↔ IsReachable (graph_of r) n
