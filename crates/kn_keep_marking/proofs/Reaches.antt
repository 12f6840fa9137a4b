-- What is reachable by address is what is reachable in the graph, and what is not condemned holds only what is not condemned.
use Rattle.std.proofs.Common.{◌≡◌, ◌↔◌, ℕ, List, [], ◌∷◌, map, Some, sym, subst}
use Rattle.kn_base.specs.declared.places.Place.{Place}
use Rattle.kn_graph.specs.Ground.{Ground, IsGoodGround}
use Rattle.kn_graph.specs.Graph.{Graph, shapes, pointers, Lives}
use Rattle.kn_graph.specs.Reachable.{Holds, IsWalk, IsReachable}
use Rattle.kn_graph.specs.Sound.{IsSound, Alive}
use Rattle.kn_graph.proofs.Writes.{alive_at}
use Rattle.kn_graph.proofs.Reached.{reachable_alive}
use Rattle.kn_marking.specs.Heap as heaps
use Rattle.kn_keep_heap.proofs.Values.{lives}
use Rattle.kn_keep_heap.proofs.ByAddress.{one_there}
use Rattle.kn_keep_marking.specs.WordsStand.{WordsStand}
use Rattle.kn_keep_marking.proofs.Bridge.{heap, good_at, alive_there, holds_there, holds_back}
use Rattle.kn_keep_marking.proofs.Roots.{root_there, root_back}

module _ (z : Ground) (good : IsGoodGround z) (g : Graph) (sound : IsSound z g) (word : Place → ℕ) (stand : WordsStand z g word) where
  abbrev at : ℕ → ℕ
  at n = (shapes g n).address

  abbrev H : heaps.Heap
  H = heap z g sound word stand

  -- what a walk comes to is alive
  walk_alive : (n : ℕ) (before : List ℕ) → IsWalk g n before → Alive g.born (shapes g) (Some n)
  walk_alive n before w = reachable_alive z g sound n (before, w)

  held_alive : (n m : ℕ) → Alive g.born (shapes g) (Some n) → Holds g n m → Alive g.born (shapes g) (Some m)
  held_alive n m a h = alive_at g.born (shapes g) (pointers g n h.0) m h.1 ((sound.fields n a.0).values a.1 h.0)

  walk_there : (n : ℕ) (before : List ℕ) → IsWalk g n before → heaps.Walk H (at n) (map at before)
  walk_there n [] w = root_there z good g sound word stand n w
  walk_there n (m ∷ before) w = (holds_there z g sound word stand m n (walk_alive m before w.1) w.0, walk_there m before w.1)

  -- the object at an address, with the walk to it
  abbrev Found : ℕ → Type 0
  Found b = (n : ℕ) × (IsReachable g n × (at n ≡ b))

  found_next : (a b : ℕ) → Found a → heaps.Holds H a b → Found b
  found_next a b n h =
      let alive = walk_alive n.0 n.1.0.0 n.1.0.1 in
      let m = holds_back z g sound word stand n.0 b alive (subst (λ c. heaps.Holds H c b) (sym n.1.1) h) in
      (m.0, ((n.0 ∷ n.1.0.0, (m.1.0, n.1.0.1)), m.1.1))

  walk_back : (b : ℕ) (ys : List ℕ) → heaps.Walk H b ys → Found b
  walk_back b [] w = let m = root_back z good g sound word stand b w in (m.0, (([], m.1.0), m.1.1))
  walk_back b (a ∷ ys) w = found_next a b (walk_back a ys w.1) w.0

  reach_back : (n : ℕ) → Lives g.born (shapes g) n → heaps.Reachable H (at n) → IsReachable g n
  reach_back n l r =
      let m = walk_back (at n) r.0 r.1 in
      let k = lives z g sound m.0 (walk_alive m.0 m.1.0.0 m.1.0.1) in
      subst (λ y. IsReachable g y) (one_there z g sound m.0 n k l m.1.1) m.1.0

  pub reach_same : (n : ℕ) → Lives g.born (shapes g) n → IsReachable g n ↔ heaps.Reachable H (at n)
  reach_same n l = (λ r. (map at r.0, walk_there n r.0 r.1), reach_back n l)

  pub heap_sound : heaps.Sound H
  heap_sound = record {
    roots = λ b r.
        let m = root_back z good g sound word stand b r in
        subst (λ c. heaps.Good H c) m.1.1 (good_at z g sound word stand m.0 (walk_alive m.0 [] m.1.0));
    fields = λ a b h e.
        let n = alive_there z g sound word stand a h in
        let m = holds_back z g sound word stand n.0 b n.1.0 (subst (λ c. heaps.Holds H c b) (sym n.1.1) e) in
        subst (λ c. heaps.Good H c) m.1.1 (good_at z g sound word stand m.0 (held_alive n.0 m.0 n.1.0 m.1.0));
  }
