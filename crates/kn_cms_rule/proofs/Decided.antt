-- Of a sound graph there are flags that tell what is reachable: a set of reachable objects grows until it is closed.
use Rattle.std.proofs.Common.{◌≡◌, ℕ, zero, suc, ◌+◌, ◌<◌, ◌≤◌, ◌⊎◌, ◌↔◌, inl, inr, Bool, true, false, not}
use Rattle.std.proofs.Common.{◌&&◌, ◌||◌, cond, ltb}
use Rattle.std.proofs.Common.{Option, Some, None, List, [], ◌∷◌, refl, sym, ap, subst, ◌∙◌, arith}
use Rattle.std.proofs.lemmas.Bool.{lt-ltb, ltb-true}
use Rattle.std.proofs.lemmas.Bool.Decides.{eqb_tells}
use Rattle.std.specs.Option.{is_some}
use Rattle.kn_base.specs.Functions.{upd, Tells}
use Rattle.kn_base.proofs.Updates.{upd_case, upd_here, upd_else}
use Rattle.kn_graph.specs.Ground.{Ground}
use Rattle.kn_graph.specs.Graph.{Graph, pointers, shapes}
use Rattle.kn_graph.specs.Counts.{count_below}
use Rattle.kn_graph.specs.Reachable.{IsReachable, IsWalk, in_local, in_global, in_stable, in_back}
use Rattle.kn_graph.specs.Collections.{Condemns}
use Rattle.kn_graph.specs.Sound.{IsSound}
use Rattle.kn_graph.proofs.Lengths.{kind_exactly}
use Rattle.kn_graph.proofs.Reached.{reachable_alive}
use Rattle.kn_cms_rule.specs.Rule.{HoldsNoNames}
use Rattle.kn_cms_rule.proofs.Histories.{true_not_false, must_not}

-- one of the numbers below n is of a kind, or each is of the other
search_below : (P Q : ℕ → Type 0) → ((k : ℕ) → P k ⊎ Q k) → (n : ℕ) → ((k : ℕ) × (k < n) × P k) ⊎ ((k : ℕ) → k < n → Q k)
search_below P Q at zero = inr (λ k less. absurd (omega (arith, less)))
search_below P Q at (suc n) = by (search_below P Q at n) (at n)
  where
    all : ((k : ℕ) → k < n → Q k) → Q n → (k : ℕ) → k < suc n → Tells k n → Q k
    all rest here k less (inl t) = subst Q (sym t.1) here
    all rest here k less (inr t) = rest k (let ne = t.1 in omega arith)

    by : ((k : ℕ) × (k < n) × P k) ⊎ ((k : ℕ) → k < n → Q k) → P n ⊎ Q n → ((k : ℕ) × (k < suc n) × P k) ⊎ ((k : ℕ) →
        k < suc n → Q k)
    by (inl found) here = let less = found.1 in inl (found.0, omega arith, found.2)
    by (inr rest) (inl here) = inl (n, omega arith, here)
    by (inr rest) (inr here) = inr (λ k less. all rest here k less (eqb_tells k n))

one_less : (b b' : Bool) → b ≡ b' → ◌≡◌ {A = ℕ} (cond (not b) 1 0) (cond (not b') 1 0)
one_less b b' e = ap (λ (x : Bool). cond (not x) 1 0) e

left_same : (c c' : ℕ → Bool) (n : ℕ) → ((k : ℕ) → k < n → c k ≡ c' k) → count_below (λ k. not (c k)) n ≡ count_below (λ k. not (c' k)) n
left_same c c' zero f = refl
left_same c c' (suc n) f = omega (arith, left_same c c' n (λ k h. f k (omega arith)), one_less (c n) (c' n) (f n (omega arith)))

-- one more has a mark, so one less has none
left_less : (c : ℕ → Bool) (n m : ℕ) → m < n → c m ≡ false →
    count_below (λ k. not (c k)) n ≡ 1 + count_below (λ k. not (upd c m true k)) n
left_less c zero m near e = absurd (omega (arith, near))
left_less c (suc n) m near e = by (eqb_tells m n) (λ less. left_less c n m less e)
  where
    by : Tells m n → (m < n → count_below (λ k. not (c k)) n ≡ 1 + count_below (λ k. not (upd c m true k)) n) →
        count_below (λ k. not (c k)) (suc n) ≡ 1 + count_below (λ k. not (upd c m true k)) (suc n)
    by (inl t) rest =
        let same = left_same c (upd c m true) n (λ k h. sym (upd_else c m true k (let e = t.1 in λ f. omega arith))) in
        let old : ◌≡◌ {A = ℕ} (cond (not (c n)) 1 0) 1 = one_less (c n) false (ap c (sym t.1) ∙ e) in
        let new : ◌≡◌ {A = ℕ} (cond (not (upd c m true n)) 1 0) 0 = one_less (upd c m true n) true
        (ap (upd c m true) (sym t.1) ∙ upd_here c m true) in
        omega (arith, same, old, new)
    by (inr t) rest =
        let ne = t.1 in
        let here : ◌≡◌ {A = ℕ} (cond (not (c n)) 1 0) (cond (not (upd c m true n)) 1 0) = one_less (c n) (upd c m true n) (sym
        (upd_else c m true n t.1)) in
        omega (arith, rest (omega arith), here)

-- a value is an object without a mark, or no such object
escape_at : (c : ℕ → Bool) (v : Option ℕ) → ((m : ℕ) × (v ≡ Some m) × (c m ≡ false)) ⊎ ((m : ℕ) → v ≡ Some m → c m ≡ true)
escape_at c None = inr (λ m e. absurd (cc))
escape_at c (Some n) = by (c n) refl
  where
    by : (b : Bool) → c n ≡ b → ((m : ℕ) × (Some n ≡ Some m) × (c m ≡ false)) ⊎ ((m : ℕ) → Some n ≡ Some m → c m ≡ true)
    by true is = inr (λ m e. let same : n ≡ m = cc in ap c (sym same) ∙ is)
    by false is = inl (n, refl, is)

module _ (z : Ground) (g : Graph) (s : IsSound z g) (nameless : HoldsNoNames g.stable g.back) where
  -- an object without a mark that is reachable, beside those with one, which are
  module _ (c : ℕ → Bool) (reached : (n : ℕ) → c n ≡ true → IsReachable g n) where
    in_locals : (i : ℕ) → ((r : ℕ) × (r < 16) × ((m : ℕ) × (g.local i r ≡ Some m) × (c m ≡ false))) ⊎
        ((r : ℕ) → r < 16 → (m : ℕ) → g.local i r ≡ Some m → c m ≡ true)
    in_locals i = search_below (λ r. (m : ℕ) × (g.local i r ≡ Some m) × (c m ≡ false)) (λ r. (m : ℕ) → g.local i r ≡ Some m → c m ≡ true)
        (λ r. escape_at c (g.local i r)) 16

    in_threads : ((i : ℕ) × (i < z.sizes.threads) × ((r : ℕ) × (r < 16) × ((m : ℕ) × (g.local i r ≡ Some m) × (c m ≡ false)))) ⊎
        ((i : ℕ) → i < z.sizes.threads → (r : ℕ) → r < 16 → (m : ℕ) → g.local i r ≡ Some m → c m ≡ true)
    in_threads = search_below (λ i. (r : ℕ) × (r < 16) × ((m : ℕ) × (g.local i r ≡ Some m) × (c m ≡ false)))
        (λ i. (r : ℕ) → r < 16 → (m : ℕ) → g.local i r ≡ Some m → c m ≡ true) in_locals z.sizes.threads

    in_globals : ((i : ℕ) × (i < z.sizes.globals) × ((m : ℕ) × (g.global i ≡ Some m) × (c m ≡ false))) ⊎
        ((i : ℕ) → i < z.sizes.globals → (m : ℕ) → g.global i ≡ Some m → c m ≡ true)
    in_globals = search_below (λ i. (m : ℕ) × (g.global i ≡ Some m) × (c m ≡ false)) (λ i. (m : ℕ) → g.global i ≡ Some m → c m ≡ true)
        (λ i. escape_at c (g.global i)) z.sizes.globals

    in_object : (n : ℕ) → ((c n ≡ true) × ((f : ℕ) × (f < (g.object n).length) × ((m : ℕ) × (pointers g n f ≡ Some m) × (c m ≡ false)))) ⊎
        (c n ≡ true → (f : ℕ) → f < (g.object n).length → (m : ℕ) → pointers g n f ≡ Some m → c m ≡ true)
    in_object n = by (c n) refl (search_below (λ f. (m : ℕ) × (pointers g n f ≡ Some m) × (c m ≡ false)) (λ f. (m : ℕ) →
        pointers g n f ≡ Some m → c m ≡ true)
        (λ f. escape_at c (pointers g n f)) (g.object n).length)
      where
        by : (b : Bool) → c n ≡ b → ((f : ℕ) × (f < (g.object n).length) × ((m : ℕ) × (pointers g n f ≡ Some m) × (c m ≡ false))) ⊎
            ((f : ℕ) → f < (g.object n).length → (m : ℕ) → pointers g n f ≡ Some m → c m ≡ true) →
            ((c n ≡ true) × ((f : ℕ) × (f < (g.object n).length) × ((m : ℕ) × (pointers g n f ≡ Some m) × (c m ≡ false)))) ⊎
            (c n ≡ true → (f : ℕ) → f < (g.object n).length → (m : ℕ) → pointers g n f ≡ Some m → c m ≡ true)
        by false is found = inr (λ e. absurd (true_not_false (c n) e is))
        by true is (inl found) = inl (is, found)
        by true is (inr all) = inr (λ e. all)

    in_objects : ((n : ℕ) × (n < g.born) × ((c n ≡ true) × ((f : ℕ) × (f < (g.object n).length) × ((m : ℕ) ×
        (pointers g n f ≡ Some m) × (c m ≡ false))))) ⊎
        ((n : ℕ) → n < g.born → c n ≡ true → (f : ℕ) → f < (g.object n).length → (m : ℕ) → pointers g n f ≡ Some m → c m ≡ true)
    in_objects = search_below (λ n. (c n ≡ true) × ((f : ℕ) × (f < (g.object n).length) × ((m : ℕ) × (pointers g n f ≡ Some m) ×
        (c m ≡ false))))
        (λ n. c n ≡ true → (f : ℕ) → f < (g.object n).length → (m : ℕ) → pointers g n f ≡ Some m → c m ≡ true) in_object g.born

    field_within : (n f m : ℕ) → n < g.born → pointers g n f ≡ Some m → f < (g.object n).length
    field_within n f m near e = (kind_exactly z (shapes g n) (s.cells n near) f).0 (ap is_some ((s.fields n near).kinds f m e))

    -- a reachable object without a mark, or all of them have one
    closed_or : ((m : ℕ) × (c m ≡ false) × IsReachable g m) ⊎ ((n : ℕ) → IsReachable g n → c n ≡ true)
    closed_or = by in_threads in_globals in_objects
      where
        walked : ((i : ℕ) → i < z.sizes.threads → (r : ℕ) → r < 16 → (m : ℕ) → g.local i r ≡ Some m → c m ≡ true) →
            ((i : ℕ) → i < z.sizes.globals → (m : ℕ) → g.global i ≡ Some m → c m ≡ true) →
            ((n : ℕ) → n < g.born → c n ≡ true → (f : ℕ) → f < (g.object n).length → (m : ℕ) → pointers g n f ≡ Some m →
            c m ≡ true) →
            (before : List ℕ) (n : ℕ) → IsWalk g n before → c n ≡ true
        walked locals globals fields [] n (in_local i r e) =
            let near = s.ranges.locals i r n e in let small = near.1 in locals i near.0 r (omega arith) n e
        walked locals globals fields [] n (in_global i e) = globals i (s.ranges.globals i n e) n e
        walked locals globals fields [] n (in_stable h e) =
            let f : ◌≡◌ {A = Option ℕ} None (Some n) = sym (nameless.stables h) ∙ e in absurd (cc)
        walked locals globals fields [] n (in_back b e pos) =
            let f : ◌≡◌ {A = Option ℕ} None (Some n) = sym (nameless.backs b) ∙ e in absurd (cc)
        walked locals globals fields (m ∷ before) n w =
            let near = (reachable_alive z g s m (before, w.1)).0 in
            fields m near (walked locals globals fields before m w.1) w.0.0 (field_within m w.0.0 n near w.0.1) n w.0.1

        by : ((i : ℕ) × (i < z.sizes.threads) × ((r : ℕ) × (r < 16) × ((m : ℕ) × (g.local i r ≡ Some m) × (c m ≡ false)))) ⊎
            ((i : ℕ) → i < z.sizes.threads → (r : ℕ) → r < 16 → (m : ℕ) → g.local i r ≡ Some m → c m ≡ true) →
            ((i : ℕ) × (i < z.sizes.globals) × ((m : ℕ) × (g.global i ≡ Some m) × (c m ≡ false))) ⊎
            ((i : ℕ) → i < z.sizes.globals → (m : ℕ) → g.global i ≡ Some m → c m ≡ true) →
            ((n : ℕ) × (n < g.born) × ((c n ≡ true) × ((f : ℕ) × (f < (g.object n).length) × ((m : ℕ) × (pointers g n f ≡ Some m) ×
            (c m ≡ false))))) ⊎
            ((n : ℕ) → n < g.born → c n ≡ true → (f : ℕ) → f < (g.object n).length → (m : ℕ) → pointers g n f ≡ Some m →
            c m ≡ true) →
            ((m : ℕ) × (c m ≡ false) × IsReachable g m) ⊎ ((n : ℕ) → IsReachable g n → c n ≡ true)
        by (inl (i, near, (r, small, (m, e, free)))) q t = inl (m, free, ([], in_local i r e))
        by (inr locals) (inl (i, near, (m, e, free))) t = inl (m, free, ([], in_global i e))
        by (inr locals) (inr globals) (inl (n, near, (marked, (f, less, (m, e, free))))) =
            let q = reached n marked in inl (m, free, (n ∷ q.0, ((f, e), q.1)))
        by (inr locals) (inr globals) (inr fields) = inr (λ n q. walked locals globals fields q.0 n q.1)

  -- as long as so many at most have no mark
  grow : (k : ℕ) (c : ℕ → Bool) → ((n : ℕ) → c n ≡ true → IsReachable g n) → count_below (λ n. not (c n)) g.born ≤ k →
      (c' : ℕ → Bool) × ((n : ℕ) → (c' n ≡ true) ↔ IsReachable g n)
  grow zero c reached few = by (closed_or c reached)
    where
      by : ((m : ℕ) × (c m ≡ false) × IsReachable g m) ⊎ ((n : ℕ) → IsReachable g n → c n ≡ true) →
          (c' : ℕ → Bool) × ((n : ℕ) → (c' n ≡ true) ↔ IsReachable g n)
      by (inl p) = let less = left_less c g.born p.0 (reachable_alive z g s p.0 p.2).0 p.1 in absurd (omega (arith, less, few))
      by (inr all) = (c, λ n. (reached n, all n))
  grow (suc k) c reached few = by (closed_or c reached) (λ c' r l. grow k c' r l)
    where
      by : ((m : ℕ) × (c m ≡ false) × IsReachable g m) ⊎ ((n : ℕ) → IsReachable g n → c n ≡ true) →
          ((c' : ℕ → Bool) → ((n : ℕ) → c' n ≡ true → IsReachable g n) → count_below (λ n. not (c' n)) g.born ≤ k →
          (c' : ℕ → Bool) × ((n : ℕ) → (c' n ≡ true) ↔ IsReachable g n)) →
          (c' : ℕ → Bool) × ((n : ℕ) → (c' n ≡ true) ↔ IsReachable g n)
      by (inl p) rest =
          let less = left_less c g.born p.0 (reachable_alive z g s p.0 p.2).0 p.1 in
          rest (upd c p.0 true) (λ n. upd_case (λ j (b : Bool). b ≡ true → IsReachable g j) c p.0 true (λ _. p.2) n (λ _. reached n))
          (omega (arith, less, few))
      by (inr all) rest = (c, λ n. (reached n, all n))

  marks : (c : ℕ → Bool) × ((n : ℕ) → (c n ≡ true) ↔ IsReachable g n)
  marks = grow (count_below (λ n. not false) g.born) (λ _. false) (λ n e. absurd (cc)) (omega arith)

  flag_free : (dead marked : Bool) → (dead || not marked) ≡ false → (marked ≡ true) × (dead ≡ false)
  flag_free true marked e = absurd (cc)
  flag_free false true e = (refl, refl)
  flag_free false false e = absurd (cc)

  flag_kept : (dead marked : Bool) → marked ≡ true → dead ≡ false → (dead || not marked) ≡ false
  flag_kept true marked e f = absurd (cc)
  flag_kept false true e f = refl
  flag_kept false false e f = absurd (cc)

  flag_at : (b : Bool) (dead marked : Bool) → b ≡ true → (dead || (b && not marked)) ≡ (dead || not marked)
  flag_at true dead marked e = refl
  flag_at false dead marked e = absurd (cc)

  past_at : (b : Bool) (dead marked : Bool) → b ≡ false → (dead || (b && not marked)) ≡ dead
  past_at true dead marked e = absurd (cc)
  past_at false true marked e = refl
  past_at false false marked e = refl

  -- the flags that a pause sets
  pub pauses_there : (flag : ℕ → Bool) × Condemns g flag
  pauses_there = (
    λ n. (g.object n).condemned || (ltb n g.born && not (marks.0 n)),
    record {
      born = λ n near. let is = flag_at (ltb n g.born) (g.object n).condemned (marks.0 n) (lt-ltb n g.born near) in (
        λ e. let p = flag_free (g.object n).condemned (marks.0 n) (sym is ∙ e) in ((marks.1 n).0 p.0, p.1),
        λ p. is ∙ flag_kept (g.object n).condemned (marks.0 n) ((marks.1 n).1 p.0) p.1,
      );
      unborn = λ n far. past_at (ltb n g.born) (g.object n).condemned (marks.0 n)
          (must_not (ltb n g.born) (λ e. let less = ltb-true n g.born e in omega (arith, less, far)));
    },
  )
