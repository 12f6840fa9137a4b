-- The steps of the marking, each on all that holds between steps.
use Rattle.std.proofs.Common.{◌≡◌, inl, inr, ℕ, ◌+◌, ◌*◌, ◌<◌, ◌≤◌, [], ◌∷◌, Some, refl, sym, ap, ◌∙◌, arith, subst}
use Rattle.kn_marking.specs.declared.work.Work.{Work}
use Rattle.kn_marking.specs.declared.work.Doing.{Doing}
use Rattle.kn_marking.specs.declared.work.Doing.TheVariants.{Free, Set, Header, Cell}
use Rattle.kn_marking.specs.declared.work.Child.TheVariants.{NoChild, Reserved}
use Rattle.kn_marking.specs.Heap.{Heap, Live, Good, Holds, Roots, Reachable, Sound}
use Rattle.kn_base.specs.Functions.{upd}
use Rattle.kn_marking.specs.Words.{gray, scanned, black, claimed, finished, one, but}
use Rattle.kn_marking.specs.Marking.{cell_of, set_of, place, Past, Names, Empty, credits, held, Marked, Loaded, ChildFits, Fits, Tied, Marking}
use Rattle.kn_marking.specs.Words.{SetIs}
use Rattle.kn_marking.specs.Shares.{took, rested, passed_child, began}
use Rattle.kn_base.proofs.Updates.{part_same, part_upd}
use Rattle.kn_marking.proofs.Changes.{each_upd}
use Rattle.kn_marking.proofs.Totals.{total_part, one_here, one_else, but_here, but_else}
use Rattle.kn_marking.proofs.Ends.{good_reachable}
use Rattle.kn_marking.proofs.Ties.{touched, taken, left}
use Rattle.kn_marking.proofs.Shades.{marked_here, fits_upd, closed_upd, closed_set, colours_upd}
use Rattle.kn_marking.proofs.Quiet.{cell_to, set_to, fits_next, names_all, fits_rested, fits_began, fits_took, stale_lost}

module _ (H : Heap) (sound : Sound H) (now e n : ℕ) (mark set : ℕ → ℕ) (work : ℕ → Work) (pending : ℕ)
    (m : Marking H now e n mark set work pending) (c : ℕ) (less : c < n) where
  f : Fits H e mark (work c)
  f = m.shares.fits c less

  epoch_at : (a b : ℕ) → a ≤ b → (a < b → ⊥) → a ≡ b
  epoch_at a b l ne = omega arith

  cells_kept : (w : Work) → cell_of w.doing ≡ cell_of (work c).doing → Tied n (Live H) mark (scanned e) (λ d. cell_of (upd work c w d).doing)
  cells_kept w same = subst (λ h. Tied n (Live H) mark (scanned e) h) (sym (part_same (λ (x : Work). cell_of x.doing) work c w same)) m.shares.cells

  claims_kept : (w : Work) → set_of w.doing ≡ set_of (work c).doing → Tied n (λ j. j < H.sets) set (claimed e) (λ d. set_of (upd work c w d).doing)
  claims_kept w same = subst (λ h. Tied n (λ j. j < H.sets) set (claimed e) h) (sym (part_same (λ (x : Work). set_of x.doing) work c w same)) m.shares.claims

  -- a root set is claimed
  module _ (j v : ℕ) (due : (work c).due ≡ Some (j, v)) (free : (work c).doing ≡ Free) (found : set j ≡ v) where
    near : j < H.sets
    near = (f.due j v due).0

    pub took_epoch : (work c).epoch ≡ e
    took_epoch = epoch_at (work c).epoch e f.early (λ l. stale_lost e (work c).epoch v (set j) l (f.due j v due).1 (m.shares.sets j near) (sym found))

    low : v < 4 * e
    low = let h = (f.due j v due).1 in let t = took_epoch in omega arith

    pub set_taken : Marking H now e n mark (upd set j (claimed e)) (upd work c (took (work c) j)) pending
    set_taken =
        let w = took (work c) j in let l = low in let is = found in
        record {
          next = m.next;
          colours = m.colours;
          closed = closed_set H e mark set m.closed j (claimed e) (λ a. absurd (omega arith));
          shares = record {
            sets = λ k k_near. each_upd (SetIs e) set j (claimed e) (inr (inl refl)) k (m.shares.sets k k_near);
            counted =
                let a = total_part (but (finished e)) H.sets set j (claimed e) near in
                let a0 = but_else (finished e) (set j) (λ x. omega arith) in
                let a1 = but_else (finished e) (claimed e) (λ x. omega arith) in
                let t = total_part credits n work c w less in let k = m.shares.counted in omega arith;
            cells = cells_kept w (sym (ap cell_of free));
            claims = subst (λ h. Tied n (λ i. i < H.sets) (upd set j (claimed e)) (claimed e) h) (sym (part_upd (λ (x : Work). set_of x.doing) work c w))
                (taken n (λ i. i < H.sets) set (claimed e) (λ d. set_of (work d).doing) m.shares.claims c j less near (λ x. omega arith) (ap set_of free));
            fits = λ d d_less. each_upd (Fits H e mark) work c w (fits_took H e mark (work c) f j free took_epoch) d (m.shares.fits d d_less);
          };
        }

  -- a root set, all of whose words are done, is finished
  module _ (j i : ℕ) (is : (work c).doing ≡ Set j i) (all : H.words j ≤ i) (no_child : (work c).child ≡ NoChild)
      (paid : (work c).owed ≡ 0) where
    mine : (j < H.sets) × (set j ≡ claimed e)
    mine = m.shares.claims.back j c less (ap set_of is)

    set_done : (y : ℕ) → Roots H j y → Marked e mark y
    set_done y r =
        let l = r.1 in
        let q : Past H (Set j i) y = (r.0, (omega arith, r.1, r.2)) in f.done y (subst (λ d. Past H d y) (sym is) q)

    pub set_finished : Marking H now e n mark (upd set j (finished e)) (upd work c (rested (work c))) pending
    set_finished =
        let w = rested (work c) in
        let was = mine.1 in
        record {
          next = m.next;
          colours = m.colours;
          closed = closed_set H e mark set m.closed j (finished e) (λ a. set_done);
          shares = record {
            sets = λ k k_near. each_upd (SetIs e) set j (finished e) (inr (inr refl)) k (m.shares.sets k k_near);
            counted =
                let a = total_part (but (finished e)) H.sets set j (finished e) mine.0 in
                let a0 = but_else (finished e) (set j) (λ x. omega arith) in
                let a1 = but_here (finished e) (finished e) refl in
                let t = total_part credits n work c w less in let k = m.shares.counted in omega arith;
            cells = cells_kept w (sym (ap cell_of is));
            claims = subst (λ h. Tied n (λ k. k < H.sets) (upd set j (finished e)) (claimed e) h) (sym (part_upd (λ (x : Work). set_of x.doing) work c w))
                (left n (λ k. k < H.sets) set (claimed e) (λ d. set_of (work d).doing) m.shares.claims c j (finished e) less (ap set_of is)
                (λ x. omega arith));
            fits = λ d d_less. each_upd (Fits H e mark) work c w (fits_rested H e mark (work c) f no_child paid) d (m.shares.fits d d_less);
          };
        }

  -- what a caller has come to is reachable
  pub named_at : (d : Doing) (y : ℕ) → (work c).doing ≡ d → Names H d y → Reachable H y
  named_at Free y is h = let l = h.0 in absurd (omega arith)
  named_at (Set j i) y is h = let b = m.shares.claims.back j c less (ap set_of is) in ([], (j, (b.0, (i, h.0, h.1))))
  named_at (Header x) y is h = let l = h.0 in absurd (omega arith)
  named_at (Cell x h i) y is n =
      let b = m.shares.cells.back x c less (ap cell_of is) in let was = b.1 in let r = m.colours.reached x b.0 (omega arith) in
      (x ∷ r.0, ((i, n.0, n.1), r.1))

  -- a child becomes gray
  module _ (y v p : ℕ) (is : (work c).child ≡ Reserved y v) (found : mark y ≡ v) (em : Empty H (work c).doing (place (work c).doing + 1) p) where
    child_is : Names H (work c).doing y × Loaded e mark y v
    child_is = subst (λ x. ChildFits H e mark (work c).doing x) is f.child

    child_reached : Reachable H y
    child_reached = named_at (work c).doing y refl child_is.0

    child_good : Good H y
    child_good = good_reachable H sound y child_reached

    pub child_live : Live H y
    child_live = child_good.0

    pub child_won : Marking H now e n (upd mark y (gray e)) set (upd work c (passed_child (work c) p)) pending
    child_won =
        let w = passed_child (work c) p in
        let low = child_is.1.0 in
        let was = found in
        let high : 4 * e ≤ gray e = omega arith in
        record {
          next = m.next;
          colours = colours_upd H now e mark m.next m.colours y (gray e) child_good child_reached (inl refl);
          closed = closed_upd e mark y (gray e) high H set m.closed (λ a. absurd (omega arith));
          shares = record {
            sets = m.shares.sets;
            counted =
                let a = total_part (one (gray e)) H.objects mark y (gray e) child_good.0.0 in
                let a0 = one_else (gray e) (mark y) (λ x. omega arith) in
                let a1 = one_here (gray e) (gray e) refl in
                let b = total_part (one (scanned e)) H.objects mark y (gray e) child_good.0.0 in
                let b0 = one_else (scanned e) (mark y) (λ x. omega arith) in
                let b1 = one_else (scanned e) (gray e) (λ x. omega arith) in
                let t = total_part credits n work c w less in let u = ap held is in let k = m.shares.counted in omega arith;
            cells = touched n (Live H) mark (scanned e) (λ d. cell_of (upd work c w d).doing) (cells_kept w (cell_to p (work c).doing)) y (gray e)
                (λ x. omega arith) (λ x. omega arith);
            claims = claims_kept w (set_to p (work c).doing);
            fits = λ d d_less. each_upd (Fits H e (upd mark y (gray e))) work c w
                (fits_next H e (upd mark y (gray e)) (work c) (fits_upd e mark y (gray e) high H (work c) f) p (work c).owed (let few = f.few in omega arith) em
                (names_all H e (upd mark y (gray e)) (work c) (fits_upd e mark y (gray e) high H (work c) f) y child_is.0 (marked_here e mark y (gray e) high)))
                d (fits_upd e mark y (gray e) high H (work d) (m.shares.fits d d_less));
          };
        }

  -- a gray object becomes scanned
  module _ (x : ℕ) (live : Live H x) (free : (work c).doing ≡ Free) (found : mark x ≡ gray (work c).epoch) where
    pub began_epoch : (work c).epoch ≡ e
    began_epoch = m.colours.tinted x (work c).epoch live (inl found)

    gray_is : mark x ≡ gray e
    gray_is = found ∙ ap gray began_epoch

    gray_reached : Reachable H x
    gray_reached = let is = gray_is in m.colours.reached x live (omega arith)

    pub gray_won : Marking H now e n (upd mark x (scanned e)) set (upd work c (began (work c) x)) pending
    gray_won =
        let w = began (work c) x in
        let was = gray_is in
        let high : 4 * e ≤ scanned e = omega arith in
        record {
          next = m.next;
          colours = colours_upd H now e mark m.next m.colours x (scanned e) (good_reachable H sound x gray_reached) gray_reached (inr (inl refl));
          closed = closed_upd e mark x (scanned e) high H set m.closed (λ a. absurd (omega arith));
          shares = record {
            sets = m.shares.sets;
            counted =
                let a = total_part (one (gray e)) H.objects mark x (scanned e) live.0 in
                let a0 = one_here (gray e) (mark x) was in
                let a1 = one_else (gray e) (scanned e) (λ y. omega arith) in
                let b = total_part (one (scanned e)) H.objects mark x (scanned e) live.0 in
                let b0 = one_else (scanned e) (mark x) (λ y. omega arith) in
                let b1 = one_here (scanned e) (scanned e) refl in
                let t = total_part credits n work c w less in let k = m.shares.counted in omega arith;
            cells = subst (λ h. Tied n (Live H) (upd mark x (scanned e)) (scanned e) h) (sym (part_upd (λ (y : Work). cell_of y.doing) work c w))
                (taken n (Live H) mark (scanned e) (λ d. cell_of (work d).doing) m.shares.cells c x less live (λ y. omega arith) (ap cell_of free));
            claims = claims_kept w (sym (ap set_of free));
            fits = λ d d_less. each_upd (Fits H e (upd mark x (scanned e))) work c w
                (fits_began H e (upd mark x (scanned e)) (work c) (fits_upd e mark x (scanned e) high H (work c) f) x free began_epoch)
                d (fits_upd e mark x (scanned e) high H (work d) (m.shares.fits d d_less));
          };
        }

  -- a cell, all of whose fields are done, becomes black
  module _ (x h i : ℕ) (is : (work c).doing ≡ Cell x h i) (all : H.size x ≤ i) (no_child : (work c).child ≡ NoChild)
      (paid : (work c).owed ≡ 0) where
    cell_mine : Live H x × (mark x ≡ scanned e)
    cell_mine = m.shares.cells.back x c less (ap cell_of is)

    cell_done : (y : ℕ) → Holds H x y → Marked e mark y
    cell_done y r =
        let l = r.1 in
        let q : Past H (Cell x h i) y = (r.0, (omega arith, r.1, r.2)) in f.done y (subst (λ d. Past H d y) (sym is) q)

    cell_reached : Reachable H x
    cell_reached = let was = cell_mine.1 in m.colours.reached x cell_mine.0 (omega arith)

    pub cell_black : Marking H now e n (upd mark x (black e)) set (upd work c (rested (work c))) pending
    cell_black =
        let w = rested (work c) in
        let was = cell_mine.1 in
        let high : 4 * e ≤ black e = omega arith in
        record {
          next = m.next;
          colours = colours_upd H now e mark m.next m.colours x (black e) (good_reachable H sound x cell_reached) cell_reached (inr (inr refl));
          closed = closed_upd e mark x (black e) high H set m.closed (λ a. cell_done);
          shares = record {
            sets = m.shares.sets;
            counted =
                let a = total_part (one (gray e)) H.objects mark x (black e) cell_mine.0.0 in
                let a0 = one_else (gray e) (mark x) (λ y. omega arith) in
                let a1 = one_else (gray e) (black e) (λ y. omega arith) in
                let b = total_part (one (scanned e)) H.objects mark x (black e) cell_mine.0.0 in
                let b0 = one_here (scanned e) (mark x) was in
                let b1 = one_else (scanned e) (black e) (λ y. omega arith) in
                let t = total_part credits n work c w less in let k = m.shares.counted in omega arith;
            cells = subst (λ h. Tied n (Live H) (upd mark x (black e)) (scanned e) h) (sym (part_upd (λ (y : Work). cell_of y.doing) work c w))
                (left n (Live H) mark (scanned e) (λ d. cell_of (work d).doing) m.shares.cells c x (black e) less (ap cell_of is) (λ y. omega arith));
            claims = claims_kept w (sym (ap set_of is));
            fits = λ d d_less. each_upd (Fits H e (upd mark x (black e))) work c w
                (fits_upd e mark x (black e) high H w (fits_rested H e mark (work c) f no_child paid))
                d (fits_upd e mark x (black e) high H (work d) (m.shares.fits d d_less));
          };
        }
