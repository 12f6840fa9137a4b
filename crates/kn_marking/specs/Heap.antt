-- The heap as the marking finds it: which objects there are, what they hold, and what the root sets hold.
use Rattle.std.specs.Prelude.{◌≡◌, ℕ, ◌<◌, Bool, true, false, List, [], ◌∷◌, Option, Some}

-- the objects lie below a limit; `live` says which of them were born and are not released, and `condemned` which pauses found them
-- unreachable; an object has a number of fields, some of which hold an object, and a root set a number of words, some of which hold one
pub record Heap : Type 0 where
  pub objects : ℕ
  pub live : ℕ → Bool
  pub condemned : ℕ → Bool
  pub size : ℕ → ℕ
  pub field : ℕ → ℕ → Option ℕ
  pub sets : ℕ
  pub words : ℕ → ℕ
  pub root : ℕ → ℕ → Option ℕ

-- an object was born and is not released
abbrev pub Live : Heap → ℕ → Type 0
Live H x = (x < H.objects) × (H.live x ≡ true)

-- and is not condemned
abbrev pub Good : Heap → ℕ → Type 0
Good H x = Live H x × (H.condemned x ≡ false)

-- a field of x holds y
abbrev pub Holds : Heap → ℕ → ℕ → Type 0
Holds H x y = (i : ℕ) × (i < H.size x) × (H.field x i ≡ Some y)

-- a word of root set j holds y
abbrev pub Roots : Heap → ℕ → ℕ → Type 0
Roots H j y = (i : ℕ) × (i < H.words j) × (H.root j i ≡ Some y)

-- a word of some root set holds y
abbrev pub IsRoot : Heap → ℕ → Type 0
IsRoot H y = (j : ℕ) × ((j < H.sets) × Roots H j y)

-- a walk to x, behind the objects of a list, the last one first
abbrev pub Walk : Heap → ℕ → List ℕ → Type 0
Walk H x [] = IsRoot H x
Walk H x (y ∷ ys) = Holds H y x × Walk H y ys

-- some walk ends at x
abbrev pub Reachable : Heap → ℕ → Type 0
Reachable H x = (ys : List ℕ) × Walk H x ys

-- what a root set holds, and what an object that is not condemned holds, is an object that is not condemned
pub record Sound (H : Heap) : Type 0 where
  pub roots : (y : ℕ) → IsRoot H y → Good H y
  pub fields : (x y : ℕ) → Good H x → Holds H x y → Good H y
