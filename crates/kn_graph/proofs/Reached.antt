-- What is reachable is not condemned.
use Rattle.std.proofs.Common.{ℕ, List, [], ◌∷◌, Some}
use Rattle.kn_graph.specs.Ground.{Ground}
use Rattle.kn_graph.specs.Graph.{Graph, shapes, pointers}
use Rattle.kn_graph.specs.Reachable.{IsReachable, IsRoot, IsWalk, in_local, in_global, in_stable, in_back}
use Rattle.kn_graph.specs.Sound.{Alive, IsSound}
use Rattle.kn_graph.proofs.Writes.{alive_at}

module _ (z : Ground) (g : Graph) (s : IsSound z g) where
  root_alive : (n : ℕ) → IsRoot g n → Alive g.born (shapes g) (Some n)
  root_alive n (in_local i r e) = alive_at g.born (shapes g) (g.local i r) n e (s.roots.locals i r)
  root_alive n (in_global i e) = alive_at g.born (shapes g) (g.global i) n e (s.roots.globals i)
  root_alive n (in_stable h e) = alive_at g.born (shapes g) (g.stable h) n e (s.roots.stables h)
  root_alive n (in_back b e pos) = alive_at g.born (shapes g) (g.back b) n e (s.roots.backs b pos)

  walk_alive : (before : List ℕ) (n : ℕ) → IsWalk g n before → Alive g.born (shapes g) (Some n)
  walk_alive [] n w = root_alive n w
  walk_alive (m ∷ before) n w =
      let a = walk_alive before m w.1 in
      alive_at g.born (shapes g) (pointers g m w.0.0) n w.0.1 ((s.fields m a.0).values a.1 w.0.0)

  pub reachable_alive : (n : ℕ) → IsReachable g n → Alive g.born (shapes g) (Some n)
  reachable_alive n r = walk_alive r.0 n r.1
