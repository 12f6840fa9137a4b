-- Roots, walks, and what is reachable.
use Rattle.std.specs.Prelude.{◌≡◌, ℕ, ◌<◌, Some, List, [], ◌∷◌}
use Rattle.kn_graph.specs.Graph.{Graph, pointers}

-- an object in a local, in a global, in a live stable name, or in a back name with a positive count
pub data IsRoot (g : Graph) (n : ℕ) : Type 0 where
  in_local : (thread r : ℕ) → g.local thread r ≡ Some n → IsRoot g n
  in_global : (i : ℕ) → g.global i ≡ Some n → IsRoot g n
  in_stable : (h : ℕ) → g.stable h ≡ Some n → IsRoot g n
  in_back : (b : ℕ) → g.back b ≡ Some n → 0 < g.count b → IsRoot g n

-- object m is a field value of object n
abbrev pub Holds : Graph → ℕ → ℕ → Type 0
Holds g n m = (f : ℕ) × (pointers g n f ≡ Some m)

-- a walk that ends at n, behind the objects `before`, the last one first
abbrev pub IsWalk : Graph → ℕ → List ℕ → Type 0
IsWalk g n [] = IsRoot g n
IsWalk g n (m ∷ before) = Holds g m n × IsWalk g m before

-- some walk ends at the object
abbrev pub IsReachable : Graph → ℕ → Type 0
IsReachable g n = (before : List ℕ) × IsWalk g n before
