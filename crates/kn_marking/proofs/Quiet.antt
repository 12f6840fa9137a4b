-- Steps that change what one caller has, and neither a mark nor the word of a root set.
use Rattle.std.proofs.Common.{◌≡◌, ◌≢◌, ◌⊎◌, inl, inr, ℕ, ◌+◌, ◌-◌, ◌*◌, ◌<◌, ◌≤◌, Bool, true, false, cond}
use Rattle.std.proofs.Common.{eqb, ltb, Option, Some, None, refl, sym, ap, ◌∙◌, arith, subst, ltb-true, eqb-true}
use Rattle.kn_marking.specs.declared.work.Work.{Work}
use Rattle.kn_marking.specs.declared.work.Doing.{Doing}
use Rattle.kn_marking.specs.declared.work.Doing.TheVariants.{Free, Set, Header, Cell}
use Rattle.kn_marking.specs.declared.work.Child.{Child}
use Rattle.kn_marking.specs.declared.work.Child.TheVariants.{NoChild, Met, Seen, Reserved}
use Rattle.kn_marking.specs.Heap.{Heap, Live}
use Rattle.kn_base.specs.Functions.{upd}
use Rattle.kn_marking.specs.Words.{gray, scanned, claimed, finished, one, but}
use Rattle.kn_marking.specs.Marking.{cell_of, set_of, Busy, place, to, Past, Names, Empty, credits, held, Marked, ChildFits, Fits, Tied, Shares}
use Rattle.kn_marking.specs.Words.{SetIs}
use Rattle.kn_marking.specs.Shares.{looked, took, missed, rested, passed, met, seen, reserved, passed_child, lost_child, paid, began, opened, joined}
use Rattle.kn_base.proofs.Updates.{part_same}
use Rattle.kn_marking.proofs.Changes.{each_upd}
use Rattle.kn_marking.proofs.Totals.{total_part, total_few, one_few, but_few}
use Rattle.kn_marking.proofs.Shades.{past_to, past_empty, names_same}

pub cell_to : (p : ℕ) (d : Doing) → cell_of (to p d) ≡ cell_of d
cell_to p Free = refl
cell_to p (Set j i) = refl
cell_to p (Header x) = refl
cell_to p (Cell x h i) = refl

pub set_to : (p : ℕ) (d : Doing) → set_of (to p d) ≡ set_of d
set_to p Free = refl
set_to p (Set j i) = refl
set_to p (Header x) = refl
set_to p (Cell x h i) = refl

pub busy_to : (p : ℕ) (d : Doing) → Busy (to p d) → Busy d
busy_to p Free b = b
busy_to p (Set j i) b = b
busy_to p (Header x) b = b
busy_to p (Cell x h i) b = b

names_not : (H : Heap) (d : Doing) (y : ℕ) {A : Type 0} → d ≡ Free → Names H d y → A
names_not H d y is n = let m : Names H Free y = subst (λ u. Names H u y) is n in let l = m.0 in absurd (omega arith)

child_free : (H : Heap) (e : ℕ) (mark : ℕ → ℕ) (d : Doing) → d ≡ Free → (c : Child) → ChildFits H e mark d c → c ≡ NoChild
child_free H e mark d is NoChild h = refl
child_free H e mark d is (Met y) h = names_not H d y is h
child_free H e mark d is (Seen y v) h = names_not H d y is h.0
child_free H e mark d is (Reserved y v) h = names_not H d y is h.0

due_at : (sets : ℕ) (w : Work) (j v : ℕ) → j < sets → (k u : ℕ) → (b : Bool) → ltb v (4 * w.epoch) ≡ b → cond {A = Option (ℕ × ℕ)} b
    (Some (j, v)) None ≡ Some (k, u) → (k < sets) × (u < 4 * w.epoch)
due_at sets w j v l k u true t s =
    let a : j ≡ k = ap (λ (o : Option (ℕ × ℕ)). elim o [ None ↦ j | Some q ↦ q.0 ]) s in
    let b : v ≡ u = ap (λ (o : Option (ℕ × ℕ)). elim o [ None ↦ v | Some q ↦ q.1 ]) s in
    let c = ltb-true v (4 * w.epoch) t in (omega arith, omega arith)
due_at sets w j v l k u false t s = absurd cc

pub due_of : (sets : ℕ) (w : Work) (j v : ℕ) → j < sets → (k u : ℕ) → (looked w j v).due ≡ Some (k, u) → (k < sets) × (u < 4 * w.epoch)
due_of sets w j v l k u s = due_at sets w j v l k u (ltb v (4 * w.epoch)) refl s

module _ (H : Heap) (e : ℕ) (mark : ℕ → ℕ) (w : Work) (f : Fits H e mark w) where
  pub free_child : w.doing ≡ Free → w.child ≡ NoChild
  free_child is = child_free H e mark w.doing is w.child f.child

  pub fits_looked : (j v : ℕ) → j < H.sets → Fits H e mark (looked w j v)
  fits_looked j v l = record { early = f.early; current = f.current; done = f.done; child = f.child; due = λ k u s. due_of H.sets w j v l k u s; few = f.few }

  pub fits_missed : Fits H e mark (missed w)
  fits_missed = record { early = f.early; current = f.current; done = f.done; child = f.child; due = λ k u s. absurd cc; few = f.few }

  -- the place reached holds nothing
  pub fits_passed : (p : ℕ) → Empty H w.doing (place w.doing) p → w.child ≡ NoChild → Fits H e mark (passed w p)
  fits_passed p em no_child = record {
    early = f.early;
    current = λ b. f.current (busy_to p w.doing b);
    done = λ y q. f.done y (past_empty H p w.doing y q em);
    child = subst (λ c. ChildFits H e mark (to p w.doing) c) (sym no_child) tt;
    due = f.due;
    few = f.few;
  }

  -- the place reached holds what is marked
  done_next : (p y : ℕ) → ((z : ℕ) → Names H w.doing z → Marked e mark z) → Past H w.doing y ⊎ Names H w.doing y → Marked e mark y
  done_next p y all (inl q) = f.done y q
  done_next p y all (inr n) = all y n

  pub fits_next : (p owed : ℕ) → owed ≤ 1 → Empty H w.doing (place w.doing + 1) p → ((z : ℕ) → Names H w.doing z → Marked e mark z) →
      Fits H e mark (record w { doing = to p w.doing; child = NoChild; owed = owed })
  fits_next p owed few em all = record {
    early = f.early;
    current = λ b. f.current (busy_to p w.doing b);
    done = λ y q. done_next p y all (past_to H p w.doing y q em);
    child = tt;
    due = f.due;
    few = omega arith;
  }

  pub names_all : (y : ℕ) → Names H w.doing y → Marked e mark y → (z : ℕ) → Names H w.doing z → Marked e mark z
  names_all y n m z k = subst (λ u. Marked e mark u) (names_same H w.doing y z n k) m

  pub fits_child : (c : Child) → w.owed + held c ≤ 1 → ChildFits H e mark w.doing c → Fits H e mark (record w { child = c })
  fits_child c few h = record { early = f.early; current = f.current; done = f.done; child = h; due = f.due; few = few }

  pub fits_owed : (o : ℕ) → o + held w.child ≤ 1 → Fits H e mark (record w { owed = o })
  fits_owed o few = record { early = f.early; current = f.current; done = f.done; child = f.child; due = f.due; few = few }

  pub fits_rested : w.child ≡ NoChild → w.owed ≡ 0 → Fits H e mark (rested w)
  fits_rested no_child paid = record {
    early = f.early;
    current = λ b. absurd b;
    done = λ y q. let l = q.1.0 in absurd (omega arith);
    child = subst (λ c. ChildFits H e mark Free c) (sym no_child) tt;
    due = f.due;
    few = let u = ap held no_child in omega arith;
  }

  pub fits_opened : (x h p : ℕ) → w.doing ≡ Header x → ((k y : ℕ) → k < p → k < H.size x → H.field x k ≡ Some y → ⊥) → Fits H e mark
      (opened w x h p)
  fits_opened x h p is em = record {
    early = f.early;
    current = λ b. f.current (subst Busy (sym is) tt);
    done = λ y q. absurd (em q.0 y q.1.0 q.1.1 q.1.2);
    child = opened_child x h p is w.child f.child;
    due = f.due;
    few = f.few;
  }
    where
      opened_child : (x h p : ℕ) → w.doing ≡ Header x → (c : Child) → ChildFits H e mark w.doing c → ChildFits H e mark (Cell x h p) c
      opened_child x h p is NoChild c = tt
      opened_child x h p is (Met y) c = let m : Names H (Header x) y = subst (λ u. Names H u y) is c in let l = m.0 in absurd (omega arith)
      opened_child x h p is (Seen y v) c = let m : Names H (Header x) y = subst (λ u. Names H u y) is c.0 in let l = m.0 in absurd (omega arith)
      opened_child x h p is (Reserved y v) c = let m : Names H (Header x) y = subst (λ u. Names H u y) is c.0 in let l = m.0 in absurd (omega arith)

  pub fits_began : (x : ℕ) → w.doing ≡ Free → w.epoch ≡ e → Fits H e mark (began w x)
  fits_began x is at = record {
    early = f.early;
    current = λ b. at;
    done = λ y q. let l = q.1.0 in absurd (omega arith);
    child = subst (λ c. ChildFits H e mark (Header x) c) (sym (free_child is)) tt;
    due = f.due;
    few = f.few;
  }

  pub fits_took : (j : ℕ) → w.doing ≡ Free → w.epoch ≡ e → Fits H e mark (took w j)
  fits_took j is at = record {
    early = f.early;
    current = λ b. at;
    done = λ y q. let l = q.1.0 in absurd (omega arith);
    child = subst (λ c. ChildFits H e mark (Set j 0) c) (sym (free_child is)) tt;
    due = λ k u s. absurd cc;
    few = f.few;
  }

  pub fits_joined : Fits H e mark (joined w e)
  fits_joined = record {
    early = omega arith;
    current = λ b. refl;
    done = f.done;
    child = f.child;
    due = λ j v s. let d = f.due j v s in let l = f.early in (d.0, omega arith);
    few = f.few;
  }

-- an exchange from a root set word that an earlier epoch loaded is lost
before_high : (e k v : ℕ) → k < e → v < 4 * k → (b : Bool) → eqb e 1 ≡ b → v ≢ cond b 0 (4 * (e - 1) + 3)
before_high e k v l h true t s = let a = eqb-true e 1 t in omega arith
before_high e k v l h false t s = omega arith

pub stale_lost : (e k v w : ℕ) → k < e → v < 4 * k → SetIs e w → v ≢ w
stale_lost e k v w l h (inl s) t = before_high e k v l h (eqb e 1) refl (t ∙ s)
stale_lost e k v w l h (inr (inl s)) t = omega arith
stale_lost e k v w l h (inr (inr s)) t = omega arith

module _ (H : Heap) (e n : ℕ) (mark set : ℕ → ℕ) (work : ℕ → Work) (pending : ℕ) (m : Shares H e n mark set work pending) (c : ℕ)
    (less : c < n) where
  pub quiet : (w : Work) (pending' : ℕ) → cell_of w.doing ≡ cell_of (work c).doing → set_of w.doing ≡ set_of (work c).doing → pending' + credits
      (work c) ≡ pending + credits w → Fits H e mark w
      → Shares H e n mark set (upd work c w) pending'
  quiet w p cell same units f = record {
    sets = m.sets;
    counted = let t = total_part credits n work c w less in let k = m.counted in omega arith;
    cells = subst (λ h. Tied n (Live H) mark (scanned e) h) (sym (part_same (λ (x : Work). cell_of x.doing) work c w cell)) m.cells;
    claims = subst (λ h. Tied n (λ j. j < H.sets) set (claimed e) h) (sym (part_same (λ (x : Work). set_of x.doing) work c w same)) m.claims;
    fits = λ d l. each_upd (Fits H e mark) work c w f d (m.fits d l);
  }

  -- the word of a root set was loaded; an exchange of it was lost
  pub set_looked : (j v : ℕ) → j < H.sets → Shares H e n mark set (upd work c (looked (work c) j v)) pending
  set_looked j v l = quiet (looked (work c) j v) pending refl refl refl (fits_looked H e mark (work c) (m.fits c less) j v l)

  pub set_missed : Shares H e n mark set (upd work c (missed (work c))) pending
  set_missed = quiet (missed (work c)) pending refl refl refl (fits_missed H e mark (work c) (m.fits c less))

  -- a load found nothing
  pub place_passed : (p : ℕ) → Empty H (work c).doing (place (work c).doing) p → (work c).child ≡ NoChild → Shares H e n mark set
      (upd work c (passed (work c) p)) pending
  place_passed p em no_child = quiet (passed (work c) p) pending (cell_to p (work c).doing) (set_to p (work c).doing) refl
      (fits_passed H e mark (work c) (m.fits c less) p em no_child)

  -- a load found y
  pub child_met : (y : ℕ) → Names H (work c).doing y → (work c).child ≡ NoChild → Shares H e n mark set (upd work c (met (work c) y)) pending
  child_met y n no_child =
      let few = (m.fits c less).few in
      quiet (met (work c) y) pending refl refl (let u = ap held no_child in omega arith)
      (fits_child H e mark (work c) (m.fits c less) (Met y) (omega arith) n)

  -- the mark of the child was loaded
  pub child_seen : (y : ℕ) → (work c).child ≡ Met y → mark y < 4 * e → Shares H e n mark set (upd work c (seen (work c) y (mark y))) pending
  child_seen y is low =
      let f = m.fits c less in let h : ChildFits H e mark (work c).doing (Met y) = subst (λ x. ChildFits H e mark (work c).doing x) is f.child in
      quiet (seen (work c) y (mark y)) pending refl refl (let u = ap held is in omega arith)
      (fits_child H e mark (work c) f (Seen y (mark y)) (let few = f.few in omega arith) (h, (low, inl refl)))

  pub child_marked : (y p : ℕ) → (work c).child ≡ Met y → Marked e mark y → Empty H (work c).doing (place (work c).doing + 1) p →
      Shares H e n mark set (upd work c (passed_child (work c) p)) pending
  child_marked y p is high em =
      let f = m.fits c less in let h : ChildFits H e mark (work c).doing (Met y) = subst (λ x. ChildFits H e mark (work c).doing x) is f.child in
      quiet (passed_child (work c) p) pending (cell_to p (work c).doing) (set_to p (work c).doing) (let u = ap held is in omega arith)
      (fits_next H e mark (work c) f p (work c).owed (let few = f.few in omega arith) em (names_all H e mark (work c) f y h high))

  -- a unit is added for the child
  pub unit_added : (y v : ℕ) → (work c).child ≡ Seen y v → (work c).owed ≡ 0 → Shares H e n mark set (upd work c (reserved (work c) y v))
      (pending + 1)
  unit_added y v is paid =
      let f = m.fits c less in let h : ChildFits H e mark (work c).doing (Seen y v) = subst (λ x. ChildFits H e mark (work c).doing x) is f.child in
      quiet (reserved (work c) y v) (pending + 1) refl refl (let u = ap held is in omega arith) (fits_child H e mark (work c) f (Reserved y v) (omega arith) h)

  -- the exchange of its mark was lost
  marked_other : (y v : ℕ) → (mark y ≡ v) ⊎ Marked e mark y → mark y ≢ v → Marked e mark y
  marked_other y v (inl h) ne = absurd (ne h)
  marked_other y v (inr h) ne = h

  pub child_lost : (y v p : ℕ) → (work c).child ≡ Reserved y v → mark y ≢ v → Empty H (work c).doing (place (work c).doing + 1) p →
      Shares H e n mark set (upd work c (lost_child (work c) p)) pending
  child_lost y v p is ne em =
      let f = m.fits c less in let h : ChildFits H e mark (work c).doing (Reserved y v) = subst (λ x. ChildFits H e mark (work c).doing x) is f.child in
      quiet (lost_child (work c) p) pending (cell_to p (work c).doing) (set_to p (work c).doing) (let u = ap held is in omega arith)
      (fits_next H e mark (work c) f p ((work c).owed + 1) (let few = f.few in let u = ap held is in omega arith) em
      (names_all H e mark (work c) f y h.0 (marked_other y v h.1.1 ne)))

  -- a unit is given back
  pub units_below : credits (work c) ≤ pending
  units_below = let t = total_part credits n work c (record (work c) { owed = 0; child = NoChild }) less in let k = m.counted in omega arith

  pub unit_given : 0 < (work c).owed → Shares H e n mark set (upd work c (paid (work c))) (pending - 1)
  unit_given some =
      let u = units_below in
      quiet (paid (work c)) (pending - 1) refl refl (omega arith) (fits_owed H e mark (work c) (m.fits c less) ((work c).owed - 1)
      (let few = (m.fits c less).few in omega arith))

  -- the header of the cell was loaded
  pub header_read : (x h p : ℕ) → (work c).doing ≡ Header x → ((k y : ℕ) → k < p → k < H.size x → H.field x k ≡ Some y → ⊥) →
      Shares H e n mark set (upd work c (opened (work c) x h p)) pending
  header_read x h p is em = quiet (opened (work c) x h p) pending (sym (ap cell_of is)) (sym (ap set_of is)) refl
      (fits_opened H e mark (work c) (m.fits c less) x h p is em)

  -- the phase word of the marking was loaded or stored
  pub epoch_seen : Shares H e n mark set (upd work c (joined (work c) e)) pending
  epoch_seen = quiet (joined (work c) e) pending refl refl refl (fits_joined H e mark (work c) (m.fits c less))

-- a caller holds one unit at most, so few are open
module _ (H : Heap) (e n : ℕ) (mark set : ℕ → ℕ) (work : ℕ → Work) (pending : ℕ) (m : Shares H e n mark set work pending) where
  pub few_open : pending ≤ H.sets + H.objects + H.objects + n
  few_open =
      let a = total_few H.sets (λ j. but (finished e) (set j)) (λ j l. but_few (finished e) (set j)) in
      let b = total_few H.objects (λ x. one (gray e) (mark x)) (λ x l. one_few (gray e) (mark x)) in
      let c = total_few H.objects (λ x. one (scanned e) (mark x)) (λ x l. one_few (scanned e) (mark x)) in
      let d = total_few n (λ k. credits (work k)) (λ k l. (m.fits k l).few) in let k = m.counted in omega arith
