-- What is behind the marked objects, and what is reachable.
use Rattle.std.proofs.Common.{◌≡◌, ℕ, ◌+◌, ◌<◌, ◌↔◌, Bool, false, Option, Some, None, List, [], ◌∷◌, length}
use Rattle.std.proofs.Common.{get_or, refl, sym, ap, ◌∙◌, subst, inl, inr, arith}
use Rattle.std.specs.List.{slice_get}
use Rattle.std.proofs.lemmas.Bool.{cases_lt}
use Rattle.std.proofs.lemmas.List.{get_or_past}
use Rattle.std.proofs.lemmas.Option.{slice_get_past}
use Rattle.kn_objects.specs.declared.objects.KeptObject.{KeptObject}
use Rattle.kn_objects.specs.declared.marking.Roots.{Roots}
use Rattle.kn_graph.specs.Reachable.{IsRoot, in_local, in_global, in_stable, in_back, Holds, IsWalk, IsReachable}
use Rattle.kn_objects.specs.Replay.{Replay, object_of, graph_of}
use Rattle.kn_objects.specs.Marking.{IsMarked, IsRootIn, HoldsIn, Adds, IsWorkList, IsBehind, first, next, IsReplayOf}

-- a field holds the same whatever numbers stand beside it
points_same : (points : List (Option ℕ)) (numbers numbers' : List ℕ) (o : Option KeptObject) (f : ℕ)
    → (object_of points numbers o).points f ≡ (object_of points numbers' o).points f
points_same points numbers numbers' None f = refl
points_same points numbers numbers' (Some o) f = refl

-- a marked object was born
pub IsMarked-born : (marks : List Bool) (n : ℕ) → IsMarked marks n → n < length marks
IsMarked-born marks n marked = elim (cases_lt n (length marks)) [ inl lt ↦ lt | inr le ↦ absurd (let past = get_or_past marks n false le in cc) ]

-- an object that holds another was born
HoldsIn-born : (objects : List KeptObject) (points : List (Option ℕ)) (n m : ℕ) → HoldsIn objects points n m → n < length objects
HoldsIn-born objects points n m (f, e) =
    elim (cases_lt n (length objects)) [
      | inl lt ↦ lt
      | inr le ↦
          let unborn : slice_get objects n ≡ None = slice_get_past objects n le in
          let none : None ≡ Some m = subst (λ o. (object_of points [] o).points f ≡ Some m) unborn e in
          absurd (cc)
    ]

-- the last object of a work list is taken off, and what it holds is added
pub IsWorkList-read : (objects : List KeptObject) (points : List (Option ℕ)) (held : ℕ → Type 0)
    {marks marks' : List Bool} {work work' : List ℕ} {low height height' : ℕ}
    → length marks ≡ length objects → height ≡ low + 1 → IsWorkList objects points marks work height
    → Adds held marks work low marks' work' height' → ((m : ℕ) → HoldsIn objects points (get_or work low 0) m → held m)
    → IsWorkList objects points marks' work' height'
IsWorkList-read objects points held {marks} {marks'} {work} {work'} {low} {height} {height'} same next_lower w a each = record {
  marked = λ k lt. elim (cases_lt k low) [
    | inl below ↦ subst (λ j. IsMarked marks' j) (sym (a.kept k below)) ((a.marked (get_or work k 0)).1 (inl (w.marked k (omega arith))))
    | inr up ↦ a.all_marked k up lt
  ];
  read = λ n m marked field born. elim (a.listed n marked) [
    | inl old ↦ elim (w.read n m old field born) [
      | inl (k, lt, e) ↦ elim (cases_lt k low) [
        | inl below ↦ inl (k, omega (arith, a.higher), a.kept k below ∙ e)
        | inr up ↦
            let last : k ≡ low = omega arith in
            let is : n ≡ get_or work low 0 = sym e ∙ ap (λ j. get_or work j 0) last in
            inr ((a.marked m).1 (inr (omega arith, each m (subst (λ j. HoldsIn objects points j m) is field))))
      ]
      | inr known ↦ inr ((a.marked m).1 (inl known))
    ]
    | inr listed ↦ inl listed
  ];
}

-- what is behind a set is marked where the set is, and where marked objects hold marked ones only
pub IsBehind-marked : {start : ℕ → Type 0} {objects : List KeptObject} {points : List (Option ℕ)} (marks : List Bool)
    → ((n : ℕ) → start n → n < length objects → IsMarked marks n)
    → ((n m : ℕ) → IsMarked marks n → HoldsIn objects points n m → m < length objects → IsMarked marks m)
    → (n : ℕ) → n < length objects → IsBehind start objects points n → IsMarked marks n
IsBehind-marked marks starts closed n lt (first s) = starts n s lt
IsBehind-marked {start} {objects} {points} marks starts closed m lt (next {n} b field) =
    closed n m (IsBehind-marked marks starts closed n (HoldsIn-born objects points n m field) b) field lt

-- what a walk ends at is behind the roots
IsBehind-walk : (r : Replay) (start : ℕ → Type 0) → ((n : ℕ) → n < length r.objects → IsRoot (graph_of r) n → start n)
    → (before : List ℕ) (n : ℕ) → n < length r.objects → IsWalk (graph_of r) n before → IsBehind start r.objects r.points n
IsBehind-walk r start roots [] n lt root = first (roots n lt root)
IsBehind-walk r start roots (m ∷ before) n lt ((f, e), walk) =
    let field : HoldsIn r.objects r.points m n = (f, points_same r.points [] r.numbers (slice_get r.objects m) f ∙ e) in
    next (IsBehind-walk r start roots before m (HoldsIn-born r.objects r.points m n field) walk) field

-- what is behind the roots is reachable
IsBehind-reachable : (r : Replay) (start : ℕ → Type 0) → ((n : ℕ) → start n → IsRoot (graph_of r) n)
    → (n : ℕ) → IsBehind start r.objects r.points n → IsReachable (graph_of r) n
IsBehind-reachable r start roots n (first s) = ([], roots n s)
IsBehind-reachable r start roots m (next {n} b (f, e)) =
    let so_far = IsBehind-reachable r start roots n b in
    let holds : Holds (graph_of r) n m = (f, points_same r.points r.numbers [] (slice_get r.objects n) f ∙ e) in
    (n ∷ so_far.0, (holds, so_far.1))

-- the lists of roots have the roots of the graph that is kept so
IsRootIn-root : {r : Replay} {objects : List KeptObject} {points : List (Option ℕ)} {roots : Roots} → IsReplayOf r objects points roots
    → (n : ℕ) → IsRootIn roots n ↔ IsRoot (graph_of r) n
IsRootIn-root are n =
    let InRow : ℕ → ℕ → List (List (Option ℕ)) → Type 0 = λ thread q rows. get_or (get_or rows thread []) q None ≡ Some n in
    let In : ℕ → List (Option ℕ) → Type 0 = λ i values. get_or values i None ≡ Some n in
    let Counts : ℕ → List ℕ → Type 0 = λ b counts. 0 < get_or counts b 0 in (
      λ s. elim s [
        | inl (thread, (q, e)) ↦ in_local thread q (subst (InRow thread q) are.locals_are e)
        | inr (inl (i, e)) ↦ in_global i (subst (In i) are.globals_are e)
        | inr (inr (inl (h, e))) ↦ in_stable h (subst (In h) are.stable_are e)
        | inr (inr (inr (b, (e, some)))) ↦ in_back b (subst (In b) are.back_are e) (subst (Counts b) are.counts_are some)
      ],
      λ root. elim root [
        | in_local thread q e ↦ inl (thread, (q, subst (InRow thread q) (sym are.locals_are) e))
        | in_global i e ↦ inr (inl (i, subst (In i) (sym are.globals_are) e))
        | in_stable h e ↦ inr (inr (inl (h, subst (In h) (sym are.stable_are) e)))
        | in_back b e some ↦ inr (inr (inr (b, (subst (In b) (sym are.back_are) e, subst (Counts b) (sym are.counts_are) some))))
      ],
    )

-- of the objects born, those behind the roots are the reachable ones
pub IsBehind-roots : {r : Replay} {objects : List KeptObject} {points : List (Option ℕ)} {roots : Roots} (start : ℕ → Type 0)
    → IsReplayOf r objects points roots → ((n : ℕ) → start n ↔ ((n < length objects) × IsRootIn roots n))
    → (n : ℕ) → n < length objects → IsBehind start objects points n ↔ IsReachable (graph_of r) n
IsBehind-roots {r} {objects} {points} {roots} start are starts n born =
    let root = IsRootIn-root are in
    let long : length objects ≡ length r.objects = ap (λ o. length o) are.objects_are in
    let forth = IsBehind-reachable r start (λ k s. (root k).0 ((starts k).0 s).1) n in
    let back : IsReachable (graph_of r) n → IsBehind start r.objects r.points n =
    λ (before, walk). IsBehind-walk r start (λ k lt k_root. (starts k).1 (omega arith, (root k).1 k_root)) before n (omega arith) walk in
    let here : IsBehind start r.objects r.points n ↔ IsReachable (graph_of r) n = (forth, back) in
    subst (λ o. IsBehind start o points n ↔ IsReachable (graph_of r) n) (sym are.objects_are)
    (subst (λ p. IsBehind start r.objects p n ↔ IsReachable (graph_of r) n) (sym are.points_are) here)
