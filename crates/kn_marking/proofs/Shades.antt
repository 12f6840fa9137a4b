-- Marks, where one mark word or one root set word changed.
use Rattle.std.proofs.Common.{◌≡◌, ◌≢◌, ◌⊎◌, ◌↔◌, inl, inr, ℕ, ◌+◌, ◌*◌, ◌<◌, ◌≤◌, Bool, true, Option}
use Rattle.std.proofs.Common.{Some, refl, sym, ap, ◌∙◌, arith, subst}
use Rattle.std.proofs.lemmas.Bool.Decides.{eqb_tells}
use Rattle.std.proofs.lemmas.Bool.{cases_order}
use Rattle.kn_marking.specs.declared.work.Work.{Work}
use Rattle.kn_marking.specs.declared.work.Doing.{Doing}
use Rattle.kn_marking.specs.declared.work.Doing.TheVariants.{Free, Set, Header, Cell}
use Rattle.kn_marking.specs.declared.work.Child.{Child}
use Rattle.kn_marking.specs.declared.work.Child.TheVariants.{NoChild, Met, Seen, Reserved}
use Rattle.kn_marking.specs.Heap.{Heap, Live, Good, Holds, Roots, Reachable}
use Rattle.kn_base.specs.Functions.{upd}
use Rattle.kn_marking.specs.Words.{gray, scanned, black, finished}
use Rattle.kn_marking.specs.Marking.{place, to, bound, ref, Past, Names, Empty, Marked, Loaded, ChildFits, Fits, Colours, Closed}
use Rattle.kn_marking.specs.Words.{IsColour}
use Rattle.kn_base.specs.Functions.{Tells}
use Rattle.kn_base.proofs.Updates.{upd_here, upd_else}
use Rattle.kn_marking.proofs.Changes.{upd_at, each_upd}

-- a mark of e stays one, whatever mark of e is stored
module _ (e : ℕ) (mark : ℕ → ℕ) (x v : ℕ) (high : 4 * e ≤ v) where
  pub marked_upd : (y : ℕ) → Marked e mark y → Marked e (upd mark x v) y
  marked_upd y h = each_upd (λ w. 4 * e ≤ w) mark x v high y h

  pub marked_here : Marked e (upd mark x v) x
  marked_here = let s = upd_here mark x v in omega arith

  loaded_at : (y w : ℕ) → (mark y ≡ w) ⊎ Marked e mark y → Tells x y → (upd mark x v y ≡ w) ⊎ Marked e (upd mark x v) y
  loaded_at y w h (inl s) = let u = upd_at mark x v y s.1 in inr (omega arith)
  loaded_at y w (inl h) (inr s) = inl (upd_else mark x v y s.1 ∙ h)
  loaded_at y w (inr h) (inr s) = inr (marked_upd y h)

  loaded_upd : (y w : ℕ) → Loaded e mark y w → Loaded e (upd mark x v) y w
  loaded_upd y w h = (h.0, loaded_at y w h.1 (eqb_tells x y))

  child_upd : (H : Heap) (d : Doing) (c : Child) → ChildFits H e mark d c → ChildFits H e (upd mark x v) d c
  child_upd H d NoChild h = tt
  child_upd H d (Met y) h = h
  child_upd H d (Seen y w) h = (h.0, loaded_upd y w h.1)
  child_upd H d (Reserved y w) h = (h.0, loaded_upd y w h.1)

  pub fits_upd : (H : Heap) (w : Work) → Fits H e mark w → Fits H e (upd mark x v) w
  fits_upd H w f = record {
    few = f.few;
    early = f.early;
    current = f.current;
    done = λ y p. marked_upd y
        (f.done y p);
    child = child_upd H w.doing w.child f.child;
    due = f.due;
  }

  module _ (H : Heap) (set : ℕ → ℕ) (c : Closed H e mark set) (holds : v ≡ black e → (y : ℕ) → Holds H x y → Marked e mark y) where
    closed_at : (y z : ℕ) → Live H y → upd mark x v y ≡ black e → Holds H y z → Tells x y → Marked e mark z
    closed_at y z l b h (inl s) = holds (sym (upd_at mark x v y s.1) ∙ b) z (subst (λ u. Holds H u z) (sym s.1) h)
    closed_at y z l b h (inr s) = c.blacks y z l (sym (upd_else mark x v y s.1) ∙ b) h

    pub closed_upd : Closed H e (upd mark x v) set
    closed_upd = record { blacks = λ y z l b h. marked_upd z (closed_at y z l b h (eqb_tells x y)); ended = λ j y l s r. marked_upd y (c.ended j y l s r) }

module _ (H : Heap) (e : ℕ) (mark set : ℕ → ℕ) (c : Closed H e mark set) (j v : ℕ)
    (all : v ≡ finished e → (y : ℕ) → Roots H j y → Marked e mark y) where
  closed_set_at : (k y : ℕ) → k < H.sets → upd set j v k ≡ finished e → Roots H k y → Tells j k → Marked e mark y
  closed_set_at k y l f r (inl s) = all (sym (upd_at set j v k s.1) ∙ f) y (subst (λ u. Roots H u y) (sym s.1) r)
  closed_set_at k y l f r (inr s) = c.ended k y l (sym (upd_else set j v k s.1) ∙ f) r

  pub closed_set : Closed H e mark (upd set j v)
  closed_set = record { blacks = c.blacks; ended = λ k y l f r. closed_set_at k y l f r (eqb_tells j k) }

-- a colour of e for a reachable object
module _ (H : Heap) (now e : ℕ) (mark : ℕ → ℕ) (next : e ≡ now + 1) (c : Colours H now e mark) (x v : ℕ) (good : Good H x) (r : Reachable H x)
    (is : IsColour e v) where
  colour_high : IsColour e v → 4 * e ≤ v
  colour_high (inl h) = omega arith
  colour_high (inr (inl h)) = omega arith
  colour_high (inr (inr h)) = omega arith

  colour_last : IsColour e v → v ≤ black e
  colour_last (inl h) = omega arith
  colour_last (inr (inl h)) = omega arith
  colour_last (inr (inr h)) = omega arith

  colour_coloured : (k : ℕ) → IsColour e v → v ≢ 4 * k
  colour_coloured k (inl h) = omega arith
  colour_coloured k (inr (inl h)) = omega arith
  colour_coloured k (inr (inr h)) = omega arith

  colour_tinted : (k : ℕ) → IsColour e v → (v ≡ gray k) ⊎ (v ≡ scanned k) → k ≡ e
  colour_tinted k (inl h) (inl g) = omega arith
  colour_tinted k (inl h) (inr g) = omega arith
  colour_tinted k (inr (inl h)) (inl g) = omega arith
  colour_tinted k (inr (inl h)) (inr g) = omega arith
  colour_tinted k (inr (inr h)) (inl g) = omega arith
  colour_tinted k (inr (inr h)) (inr g) = omega arith

  aged_at : (y : ℕ) → Live H y → Tells x y → (H.condemned y ≡ true) ↔ (upd mark x v y < 4 * now)
  aged_at y l (inl s) =
      let u = upd_at mark x v y s.1 in let h = colour_high is in
      (λ d. let f : Bool.false ≡ true = sym good.1 ∙ (ap H.condemned s.1 ∙ d) in absurd cc, λ d. absurd (omega arith))
  aged_at y l (inr s) = let u = upd_else mark x v y s.1 in (λ d. let h = (c.aged y l).0 d in omega arith, λ d. (c.aged y l).1 (omega arith))

  reached_at : (y : ℕ) → Live H y → Marked e (upd mark x v) y → Tells x y → Reachable H y
  reached_at y l m (inl s) = subst (λ u. Reachable H u) s.1 r
  reached_at y l m (inr s) = let u = upd_else mark x v y s.1 in c.reached y l (omega arith)

  pub colours_upd : Colours H now e (upd mark x v)
  colours_upd = record {
    aged = λ y l. aged_at y l (eqb_tells x y);
    last = λ y l. each_upd (λ w. w ≤ black e) mark x v (colour_last is) y (c.last y l);
    coloured = λ y k l. each_upd (λ w. w ≢ 4 * k) mark x v (colour_coloured k is) y (c.coloured y k l);
    tinted = λ y k l. each_upd (λ w. (w ≡ gray k) ⊎ (w ≡ scanned k) → k ≡ e) mark x v (colour_tinted k is) y (c.tinted y k l);
    reached = λ y l m. reached_at y l m (eqb_tells x y);
  }

-- the place moves on
module _ (H : Heap) where
  place_to : (p : ℕ) (d : Doing) → place (to p d) ≤ p
  place_to p Free = omega arith
  place_to p (Set j i) = omega arith
  place_to p (Header x) = omega arith
  place_to p (Cell x h i) = omega arith

  bound_to : (p : ℕ) (d : Doing) → bound H (to p d) ≡ bound H d
  bound_to p Free = refl
  bound_to p (Set j i) = refl
  bound_to p (Header x) = refl
  bound_to p (Cell x h i) = refl

  ref_to : (p k : ℕ) (d : Doing) → ref H (to p d) k ≡ ref H d k
  ref_to p k Free = refl
  ref_to p k (Set j i) = refl
  ref_to p k (Header x) = refl
  ref_to p k (Cell x h i) = refl

  module _ (p : ℕ) (d : Doing) (y : ℕ) (q : Past H (to p d) y) where
    low : q.0 < p
    low = let a = q.1.0 in let b = place_to p d in omega arith

    inside : q.0 < bound H d
    inside = let a = q.1.1 in let b = bound_to p d in omega arith

    there : ref H d q.0 ≡ Some y
    there = sym (ref_to p q.0 d) ∙ q.1.2

    past_at : Empty H d (place d + 1) p → (q.0 ≡ place d) ⊎ ((q.0 < place d) ⊎ (place d < q.0)) → Past H d y ⊎ Names H d y
    past_at em (inl s) = inr (subst (λ k. k < bound H d) s inside, ap (ref H d) (sym s) ∙ there)
    past_at em (inr (inl s)) = inl (q.0, (s, inside, there))
    past_at em (inr (inr s)) = absurd (em q.0 y (omega arith) low inside there)

    pub past_to : Empty H d (place d + 1) p → Past H d y ⊎ Names H d y
    past_to em = past_at em (cases_order q.0 (place d))

    empty_at : Empty H d (place d) p → (q.0 ≡ place d) ⊎ ((q.0 < place d) ⊎ (place d < q.0)) → Past H d y
    empty_at em (inl s) = absurd (em q.0 y (omega arith) low inside there)
    empty_at em (inr (inl s)) = (q.0, (s, inside, there))
    empty_at em (inr (inr s)) = absurd (em q.0 y (omega arith) low inside there)

    pub past_empty : Empty H d (place d) p → Past H d y
    past_empty em = empty_at em (cases_order q.0 (place d))

  pub names_same : (d : Doing) (y z : ℕ) → Names H d y → Names H d z → y ≡ z
  names_same d y z a b = let e : Option.Some y ≡ Some z = sym a.1 ∙ b.1 in cc
