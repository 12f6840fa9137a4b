-- Where nothing is open, the black objects are the reachable ones.
use Rattle.std.proofs.Common.{◌≡◌, ◌≢◌, ◌⊎◌, ◌↔◌, inl, inr, ℕ, ◌*◌, ◌<◌, ◌≤◌, Bool, true, false, List, []}
use Rattle.std.proofs.Common.{◌∷◌, refl, sym, ap, ◌∙◌, arith}
use Rattle.std.proofs.lemmas.Bool.{cases_lt}
use Rattle.kn_marking.specs.declared.work.Work.{Work}
use Rattle.kn_marking.specs.declared.work.Doing.{Doing}
use Rattle.kn_marking.specs.declared.work.Doing.TheVariants.{Free, Set, Header, Cell}
use Rattle.kn_marking.specs.Heap.{Heap, Live, Good, Walk, Reachable, Sound}
use Rattle.kn_marking.specs.Words.{gray, scanned, black, finished, one, but}
use Rattle.kn_marking.specs.Marking.{Marked, Shares, Marking, credits, cell_of, set_of, Idle, Pauses, Settled}
use Rattle.kn_marking.proofs.Quiet.{free_child}
use Rattle.kn_marking.proofs.Totals.{total_zero, one_zero, but_zero}

pub good_walk : (H : Heap) → Sound H → (x : ℕ) (ys : List ℕ) → Walk H x ys → Good H x
good_walk H s x [] w = s.roots x w
good_walk H s x (y ∷ ys) w = s.fields y x (good_walk H s y ys w.1) w.0

pub good_reachable : (H : Heap) → Sound H → (x : ℕ) → Reachable H x → Good H x
good_reachable H s x r = good_walk H s x r.0 r.1

-- where nothing is open
module _ (H : Heap) (e n : ℕ) (mark set : ℕ → ℕ) (work : ℕ → Work) (pending : ℕ) (m : Shares H e n mark set work pending)
    (none : pending ≡ 0) where
  pub all_ended : (j : ℕ) → j < H.sets → set j ≡ finished e
  all_ended j l = let c = m.counted in but_zero (finished e) (set j) (total_zero H.sets (λ i. but (finished e) (set i)) j (omega arith) l)

  pub no_gray : (x : ℕ) → x < H.objects → mark x ≢ gray e
  no_gray x l = let c = m.counted in one_zero (gray e) (mark x) (total_zero H.objects (λ i. one (gray e) (mark i)) x (omega arith) l)

  pub no_scanned : (x : ℕ) → x < H.objects → mark x ≢ scanned e
  no_scanned x l = let c = m.counted in one_zero (scanned e) (mark x) (total_zero H.objects (λ i. one (scanned e) (mark i)) x (omega arith) l)

  module _ (c : ℕ) (less : c < n) where
    free_at : (d : Doing) → (work c).doing ≡ d → (work c).doing ≡ Free
    free_at Free is = is
    free_at (Set j i) is = let b = m.claims.back j c less (ap set_of is) in let u = b.1 in let v = all_ended j b.0 in absurd (omega arith)
    free_at (Header x) is = let b = m.cells.back x c less (ap cell_of is) in absurd (no_scanned x b.0.0 b.1)
    free_at (Cell x h i) is = let b = m.cells.back x c less (ap cell_of is) in absurd (no_scanned x b.0.0 b.1)

    -- no caller has a root set, a cell, a child or a unit
    pub idle : Idle (work c)
    idle =
        let free = free_at (work c).doing refl in let k = m.counted in
        let t = total_zero n (λ d. credits (work d)) c (omega arith) less in
        record { free = free; no_child = free_child H e mark (work c) (m.fits c less) free; no_debt = omega arith }

module _ (H : Heap) (sound : Sound H) (now e n : ℕ) (mark set : ℕ → ℕ) (work : ℕ → Work) (pending : ℕ)
    (m : Marking H now e n mark set work pending) (none : pending ≡ 0) where
  black_of : (x : ℕ) → Live H x → Marked e mark x → mark x ≡ black e
  black_of x l h =
      let a = no_gray H e n mark set work pending m.shares none x l.0 in let b = no_scanned H e n mark set work pending m.shares none x l.0 in
      let c = m.colours.coloured x e l in let d = m.colours.last x l in omega arith

  walk_black : (x : ℕ) (ys : List ℕ) → Walk H x ys → mark x ≡ black e
  walk_black x [] w = black_of x (sound.roots x w).0 (m.closed.ended w.0 x w.1.0 (all_ended H e n mark set work pending m.shares none w.0 w.1.0) w.1.1)
  walk_black x (y ∷ ys) w =
      let g = good_walk H sound y ys w.1 in black_of x (sound.fields y x g w.0).0 (m.closed.blacks y x g.0 (walk_black y ys w.1) w.0)

  black_back : (x : ℕ) → Live H x → mark x ≡ black e → Reachable H x
  black_back x l h = m.colours.reached x l (omega arith)

  unmarked_at : (x : ℕ) → Live H x → (Reachable H x → ⊥) → (mark x < 4 * e) ⊎ (4 * e ≤ mark x) → mark x < 4 * e
  unmarked_at x l un (inl h) = h
  unmarked_at x l un (inr h) = absurd (un (m.colours.reached x l h))

  unmarked_back : (x : ℕ) → mark x < 4 * e → Reachable H x → ⊥
  unmarked_back x h r = let b = walk_black x r.0 r.1 in omega arith

  pub settles : Settled H e mark
  settles x l = ((λ r. walk_black x r.0 r.1, black_back x l), (λ un. unmarked_at x l un (cases_lt (mark x) (4 * e)), unmarked_back x))

  -- at the pause
  module _ (condemned : ℕ → Bool) (pauses : Pauses H condemned) where
    aged_at : (x : ℕ) → Live H x → (H.condemned x ≡ true) ⊎ (Reachable H x → ⊥) → mark x < 4 * e
    aged_at x l (inl c) = let h = (m.colours.aged x l).0 c in let s = m.next in omega arith
    aged_at x l (inr un) = unmarked_at x l un (cases_lt (mark x) (4 * e))

    pub aged_after : (x : ℕ) → Live H x → (condemned x ≡ true) ↔ (mark x < 4 * e)
    aged_after x l = (λ c. aged_at x l ((pauses x l).0 c), λ h. (pauses x l).1 (inr (unmarked_back x h)))

    kept_at : (x : ℕ) → Live H x → condemned x ≡ false → (mark x < 4 * e) ⊎ (4 * e ≤ mark x) → Reachable H x
    kept_at x l c (inl h) = let t : Bool.true ≡ false = sym ((aged_after x l).1 h) ∙ c in cc
    kept_at x l c (inr h) = m.colours.reached x l h

    spared_at : (x : ℕ) → Reachable H x → (b : Bool) → condemned x ≡ b → condemned x ≡ false
    spared_at x r true c = let l = good_reachable H sound x r in absurd (unmarked_back x (aged_at x l.0 ((pauses x l.0).0 c)) r)
    spared_at x r false c = c

    -- what is not condemned holds only what is not condemned, also after the pause
    pub sound_after : Sound (record H { condemned = condemned })
    sound_after = record {
      roots = λ y r. ((sound.roots y r).0, spared_at y ([], r) (condemned y) refl);
      fields = λ x y g h. let r = kept_at x g.0 g.1 (cases_lt (mark x) (4 * e)) in let q : Reachable H y = (x ∷ r.0, (h, r.1)) in
          ((good_reachable H sound y q).0, spared_at y q (condemned y) refl);
    }
