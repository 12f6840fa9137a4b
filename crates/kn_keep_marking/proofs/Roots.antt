-- The words of the root sets hold exactly the roots of the graph.
use Rattle.std.proofs.Common.{◌≡◌, ◌≢◌, inl, inr, ℕ, ◌+◌, ◌-◌, ◌^◌, ◌<◌, ◌≤◌, true, false, cond, eqb, Option}
use Rattle.std.proofs.Common.{Some, None, refl, sym}
use Rattle.std.proofs.Common.{ap, ◌∙◌, subst, arith, eq-eqb, ne_eqb}
use Rattle.std.proofs.lemmas.Bool.{cases_lt, lt-ltb, le-ltb}
use Rattle.std.proofs.lemmas.Bool.Decides.{eqb_tells}
use Rattle.kn_base.specs.declared.places.Place.{Place}
use Rattle.kn_base.specs.declared.places.Place.TheVariants.{Local, Global, Node}
use Rattle.kn_base.specs.declared.kinds.NodeKind.TheVariants as nodes
use Rattle.kn_base.specs.declared.node_word.NodeWord.{NodeWord}
use Rattle.kn_base.specs.Words.{IsNodeWord, packed_node}
use Rattle.kn_base.specs.Functions.{Tells}
use Rattle.kn_graph.specs.Ground.{Ground, IsGoodGround}
use Rattle.kn_graph.specs.Graph.{Graph, shapes}
use Rattle.kn_graph.specs.Reachable.{IsRoot, in_local, in_global, in_stable, in_back}
use Rattle.kn_graph.specs.Sound.{IsSound, Alive, WasBorn}
use Rattle.kn_marking.specs.Heap as heaps
use Rattle.kn_rule.specs.MarkedHeap.{object_in, object_named, counted_in, held_by, set_words, name_in_set}
use Rattle.kn_rule.specs.ObjectClauses.{name_word, cleared_name, NamesCondemned}
use Rattle.kn_rule.proofs.Decodings.{node_packed}
use Rattle.kn_keep_heap.proofs.Changed.{some_is}
use Rattle.kn_keep_heap.proofs.Values.{positive}
use Rattle.kn_keep_heap.proofs.CellLimit.{below_limit}
use Rattle.kn_keep_marking.specs.WordsStand.{WordsStand}
use Rattle.kn_keep_marking.proofs.Bridge.{heap, value_some, value_back}

-- what the word of a name holds, by what it packs
named_by : (v : NodeWord) → IsNodeWord v → object_named (packed_node v) ≡ held_by v v.kind
named_by v h = ap (λ (x : NodeWord). held_by x x.kind) (node_packed v h)

vacant_word : IsNodeWord (record { kind = nodes.Vacant; count = 0; addr = 0 })
vacant_word = record { of_count = refl; of_addr = refl }

none_vacant : object_named (packed_node (record { kind = nodes.Vacant; count = 0; addr = 0 })) ≡ None
none_vacant = named_by (record { kind = nodes.Vacant; count = 0; addr = 0 }) vacant_word

none_cleared : object_named cleared_name ≡ None
none_cleared = named_by (record { kind = nodes.Cleared; count = 0; addr = 0 }) (record { of_count = refl; of_addr = refl })

not_none : {A : Type 0} (x : Option ℕ) (b : ℕ) → x ≡ None → x ≡ Some b → A
not_none x b e h = let f : Option.None ≡ Some b = sym e ∙ h in absurd (cc)

module _ (z : Ground) (good : IsGoodGround z) (g : Graph) (sound : IsSound z g) (word : Place → ℕ) (stand : WordsStand z g word) where
  abbrev T : ℕ
  T = z.sizes.threads

  abbrev at : ℕ → ℕ
  at n = (shapes g n).address

  abbrev H : heaps.Heap
  H = heap z g sound word stand

  abbrev Rooted : ℕ → Type 0
  Rooted b = (n : ℕ) × (IsRoot g n × (at n ≡ b))

  -- which root set is which
  local_words : (c : ℕ) → c < T → set_words z.sizes c ≡ 16
  local_words c l =
      ap (λ b. cond b z.sizes.globals (cond (eqb c (T + 1)) (z.sizes.stable + z.sizes.back) 16)) (ne_eqb c T (λ e. absurd (omega (arith, l, e))))
      ∙ ap (λ b. cond b (z.sizes.stable + z.sizes.back) 16) (ne_eqb c (T + 1) (λ e. absurd (omega (arith, l, e))))

  pub local_root : (c i : ℕ) → c < T → H.root c i ≡ object_in (word (Local c i))
  local_root c i l =
      ap (λ b. cond b (object_in (word (Global i))) (cond (eqb c (T + 1)) (object_named (word (Node (name_in_set z.sizes i))))
      (object_in (word (Local c i))))) (ne_eqb c T (λ e. absurd (omega (arith, l, e))))
      ∙ ap (λ b. cond b (object_named (word (Node (name_in_set z.sizes i)))) (object_in (word (Local c i))))
      (ne_eqb c (T + 1) (λ e. absurd (omega (arith, l, e))))

  global_words : (j : ℕ) → j ≡ T → set_words z.sizes j ≡ z.sizes.globals
  global_words j e = ap (λ b. cond b z.sizes.globals (cond (eqb j (T + 1)) (z.sizes.stable + z.sizes.back) 16)) (eq-eqb j T e)

  pub global_root : (j i : ℕ) → j ≡ T → H.root j i ≡ object_in (word (Global i))
  global_root j i e =
      ap (λ b. cond b (object_in (word (Global i))) (cond (eqb j (T + 1)) (object_named (word (Node (name_in_set z.sizes i))))
      (object_in (word (Local j i))))) (eq-eqb j T e)

  name_words : (j : ℕ) → j ≡ T + 1 → set_words z.sizes j ≡ z.sizes.stable + z.sizes.back
  name_words j e =
      ap (λ b. cond b z.sizes.globals (cond (eqb j (T + 1)) (z.sizes.stable + z.sizes.back) 16)) (ne_eqb j T (λ h. absurd (omega (arith, e, h))))
      ∙ ap (λ b. cond b (z.sizes.stable + z.sizes.back) 16) (eq-eqb j (T + 1) e)

  pub name_root : (j i : ℕ) → j ≡ T + 1 → H.root j i ≡ object_named (word (Node (name_in_set z.sizes i)))
  name_root j i e =
      ap (λ b. cond b (object_in (word (Global i))) (cond (eqb j (T + 1)) (object_named (word (Node (name_in_set z.sizes i))))
      (object_in (word (Local j i))))) (ne_eqb j T (λ h. absurd (omega (arith, e, h))))
      ∙ ap (λ b. cond b (object_named (word (Node (name_in_set z.sizes i)))) (object_in (word (Local j i)))) (eq-eqb j (T + 1) e)

  -- the word of a name
  small_address : (n : ℕ) → n < g.born → (0 < at n) × (at n < 2 ^ 32)
  small_address n l =
      let low = below_limit z.sizes (shapes g n) (sound.cells n l).placed in
      let most = good.sizes.of_frames.words.1 in
      let some = positive z g sound n l in (some, omega (arith, low, most))

  stable_word : (n : ℕ) → n < g.born → IsNodeWord (record { kind = nodes.Stable; count = 0; addr = at n })
  stable_word n l = record { of_count = refl; of_addr = small_address n l }

  back_word : (n c : ℕ) → n < g.born → c ≤ 4095 → IsNodeWord (record { kind = nodes.Back; count = c; addr = at n })
  back_word n c l m = record { of_count = m; of_addr = small_address n l }

  stable_back : (x : Option ℕ) (b : ℕ) → Alive g.born (shapes g) x → object_named (name_word (shapes g) nodes.Stable x 0) ≡ Some b →
      (n : ℕ) × ((x ≡ Some n) × (at n ≡ b))
  stable_back None b a e = not_none _ b none_vacant e
  stable_back (Some n) b a e =
      (n, (refl, some_is (at n) b (sym (named_by (record { kind = nodes.Stable; count = 0; addr = at n }) (stable_word n a.0)) ∙ e)))

  counted_back : (v : NodeWord) (b : ℕ) → Tells v.count 0 → counted_in v ≡ Some b → (0 < v.count) × (v.addr ≡ b)
  counted_back v b (inl t) e = not_none _ b (ap (λ c. cond {A = Option ℕ} c None (Some v.addr)) t.0) e
  counted_back v b (inr t) e =
      let ne = t.1 in (omega arith, some_is v.addr b (sym (ap (λ c. cond {A = Option ℕ} c None (Some v.addr)) t.0) ∙ e))

  back_back : (x : Option ℕ) (c b : ℕ) → WasBorn g.born x → c ≤ 4095 → object_named (name_word (shapes g) nodes.Back x c) ≡ Some b →
      (n : ℕ) × ((x ≡ Some n) × ((at n ≡ b) × (0 < c)))
  back_back None c b a m e = not_none _ b none_vacant e
  back_back (Some n) c b a m e =
      let v : NodeWord = record { kind = nodes.Back; count = c; addr = at n } in
      let r = counted_back v b (eqb_tells c 0) (sym (named_by v (back_word n c a m)) ∙ e) in
      (n, (refl, (r.1, r.0)))

  -- the number of a name in its root set
  stable_place : (i : ℕ) → i < z.sizes.stable → name_in_set z.sizes i ≡ i
  stable_place i l = ap (λ b. cond b i (z.sizes.weak + i)) (lt-ltb i z.sizes.stable l)

  back_place : (i : ℕ) → z.sizes.stable ≤ i → name_in_set z.sizes i ≡ z.sizes.stable + z.sizes.weak + (i - z.sizes.stable)
  back_place i l =
      let e = ap (λ b. cond b i (z.sizes.weak + i)) (le-ltb i z.sizes.stable l) in omega (arith, e, l)

  -- a root of the graph is one of the words
  pub root_there : (n : ℕ) → IsRoot g n → heaps.IsRoot H (at n)
  root_there n (in_local c r e) =
      let near = sound.ranges.locals c r n e in
      let l = near.0 in let m = near.1 in let w = local_words c l in (
        c,
        (
          omega (arith, l),
          (
            r,
            omega (arith, m, w),
            local_root c r l ∙ value_some z g sound word stand (g.local c r) n (word (Local c r)) (sound.roots.locals c r) e
                (stand.locals c r l (omega (arith, m))),
          ),
        ),
      )
  root_there n (in_global i e) =
      let l = sound.ranges.globals i n e in let w = global_words T refl in (
        T,
        (
          omega arith,
          (
            i,
            omega (arith, l, w),
            global_root T i refl ∙ value_some z g sound word stand (g.global i) n (word (Global i)) (sound.roots.globals i) e
                (stand.globals.words i l),
          ),
        ),
      )
  root_there n (in_stable h e) =
      let l = sound.ranges.stables h n e in let w = name_words (T + 1) refl in
      let alive = subst (λ x. Alive g.born (shapes g) x) e (sound.roots.stables h) in
      let v : NodeWord = record { kind = nodes.Stable; count = 0; addr = at n } in (
        T + 1,
        (
          omega arith,
          (
            h,
            omega (arith, l, w),
            name_root (T + 1) h refl
                ∙ (ap (λ k. object_named (word (Node k))) (stable_place h l)
                ∙ (ap object_named (stand.named.stables h l ∙ ap (λ x. name_word (shapes g) nodes.Stable x 0) e)
                ∙ named_by v (stable_word n alive.0))),
          ),
        ),
      )
  root_there n (in_back b e pos) =
      let l = sound.ranges.backs b n e in let w = name_words (T + 1) refl in
      let i = z.sizes.stable + b in
      let alive = subst (λ x. Alive g.born (shapes g) x) e (sound.roots.backs b pos) in
      let v : NodeWord = record { kind = nodes.Back; count = g.count b; addr = at n } in
      let place : name_in_set z.sizes i ≡ z.sizes.stable + z.sizes.weak + b =
      (let p = back_place i (omega arith) in omega (arith, p)) in
      let kept : word (Node (z.sizes.stable + z.sizes.weak + b)) ≢ cleared_name = λ c.
      let dead = subst (λ x. NamesCondemned (shapes g) x) e (stand.named.cleared_backs b l c) in
      let f : true ≡ false = sym dead ∙ alive.1 in absurd (cc) in (
        T + 1,
        (
          omega arith,
          (
            i,
            omega (arith, l, w),
            name_root (T + 1) i refl
                ∙ (ap (λ k. object_named (word (Node k))) place
                ∙ (ap object_named (stand.named.backs b l kept ∙ ap (λ x. name_word (shapes g) nodes.Back x (g.count b)) e)
                ∙ (named_by v (back_word n (g.count b) alive.0 (sound.names.counts b))
                ∙ ap (λ c. cond {A = Option ℕ} c None (Some (at n))) (ne_eqb (g.count b) 0 (λ h. absurd (omega (arith, h, pos))))))),
          ),
        ),
      )

  -- and a word of a root set is a root of the graph
  name_back : (i b : ℕ) → i < z.sizes.stable + z.sizes.back → object_named (word (Node (name_in_set z.sizes i))) ≡ Some b → Rooted b
  name_back i b l e = elim (cases_lt i z.sizes.stable) [ inl less ↦ of_stable less | inr more ↦ of_back more ]
    where
      of_stable : i < z.sizes.stable → Rooted b
      of_stable less =
          let r = stable_back (g.stable i) b (sound.roots.stables i)
          (sym (ap (λ k. object_named (word (Node k))) (stable_place i less) ∙ ap object_named (stand.named.stables i less)) ∙ e) in
          (r.0, (in_stable i r.1.0, r.1.1))

      of_back : z.sizes.stable ≤ i → Rooted b
      of_back more =
          let k = i - z.sizes.stable in
          let near : k < z.sizes.back = omega (arith, l, more) in
          let w = word (Node (z.sizes.stable + z.sizes.weak + k)) in
          let h : object_named w ≡ Some b = sym (ap (λ k. object_named (word (Node k))) (back_place i more)) ∙ e in
          at_back k near h (eqb_tells w cleared_name)
        where
          at_back : (k : ℕ) → k < z.sizes.back → object_named (word (Node (z.sizes.stable + z.sizes.weak + k))) ≡ Some b →
              Tells (word (Node (z.sizes.stable + z.sizes.weak + k))) cleared_name → Rooted b
          at_back k near h (inl t) = not_none _ b (ap object_named t.1 ∙ none_cleared) h
          at_back k near h (inr t) =
              let r = back_back (g.back k) (g.count k) b (sound.names.backs k) (sound.names.counts k)
              (sym (ap object_named (stand.named.backs k near t.1)) ∙ h) in
              (r.0, (in_back k r.1.0 r.1.1.1, r.1.1.0))

  root_at : (j i b : ℕ) → j < T + 2 → i < set_words z.sizes j → H.root j i ≡ Some b → Tells j T → Tells j (T + 1) → Rooted b
  root_at j i b l m e (inl t) u =
      let w = global_words j t.1 in
      let v = value_back z g sound word stand (g.global i) (word (Global i)) b (stand.globals.words i (omega (arith, m, w)))
      (sym (global_root j i t.1) ∙ e) in
      (v.0, (in_global i v.1.0, v.1.1))
  root_at j i b l m e (inr t) (inl u) =
      let w = name_words j u.1 in name_back i b (omega (arith, m, w)) (sym (name_root j i u.1) ∙ e)
  root_at j i b l m e (inr t) (inr u) =
      let ne = t.1 in let ne' = u.1 in
      let near : j < T = omega arith in
      let w = local_words j near in
      let v = value_back z g sound word stand (g.local j i) (word (Local j i)) b (stand.locals j i near (omega (arith, m, w)))
      (sym (local_root j i near) ∙ e) in
      (v.0, (in_local j i v.1.0, v.1.1))

  pub root_back : (b : ℕ) → heaps.IsRoot H b → Rooted b
  root_back b r = root_at r.0 r.1.1.0 b r.1.0 r.1.1.1 r.1.1.2 (eqb_tells r.0 T) (eqb_tells r.0 (T + 1))
