-- What is added to the marks and to the work list.
use Rattle.std.proofs.Common.{◌≡◌, ℕ, ◌+◌, ◌<◌, ◌≤◌, ◌⊎◌, ◌↔◌, ◌≢◌, Bool, true, false, not, cond, List, length, get_or}
use Rattle.std.proofs.Common.{set, take, refl, sym, ◌∙◌, subst, inl, inr, arith, get_or-set_same, get_or-set_other, get_or-take, length-take}
use Rattle.std.specs.List.{count_by}
use Rattle.std.proofs.lemmas.Bool.{cases_eq, cases_lt}
use Rattle.std.proofs.lemmas.List.{get_or_past}
use Rattle.std.proofs.lemmas.List.Sums.{sum_by-set}
use Rattle.kn_objects.specs.Marking.{IsMarked, Adds, objects_left}

-- with one more mark there is one unmarked object less
unmarked-set : (marks : List Bool) (n : ℕ) → n < length marks → get_or marks n false ≡ false
    → count_by not (set marks n true) + 1 ≡ count_by not marks
unmarked-set marks n lt e =
    let f : Bool → ℕ = λ mark. cond (not mark) 1 0 in
    let sums = sum_by-set f marks n true false lt in
    let was : f (get_or marks n false) ≡ 1 = rw e refl in
    omega (arith, sums, was)

-- nothing is added where all of the set are marked
pub Adds-nothing : (held : ℕ → Type 0) (marks : List Bool) (work : List ℕ) (height : ℕ)
    → ((n : ℕ) → n < length marks → held n → IsMarked marks n) → Adds held marks work height marks work height
Adds-nothing held marks work height known = record {
  marked = λ n. (λ m. inl m, λ s. elim s [ inl m ↦ m | inr p ↦ known n p.0 p.1 ]);
  kept = λ k h. refl;
  higher = omega arith;
  listed = λ n m. inl m;
  all_marked = λ k low high. absurd (omega arith);
  left = refl;
}

-- the one object of a set is added, which had no mark
pub Adds-one : (held : ℕ → Type 0) (marks : List Bool) (work : List ℕ) (height n : ℕ) → n < length marks → length work ≡ length marks
    → objects_left marks height ≤ length marks → get_or marks n false ≡ false → ((m : ℕ) → held m ↔ (n ≡ m))
    → Adds held marks work height (set marks n true) (set work height n) (height + 1)
Adds-one held marks work height n born as_long few new only =
    let fewer = unmarked-set marks n born new in
    let room : height < length work = omega (arith, fewer) in
    let at : get_or (set marks n true) n false ≡ true = get_or-set_same marks n true false born in
    let listed_at : get_or (set work height n) height 0 ≡ n = get_or-set_same work height n 0 room in
    record {
      marked = λ m. elim (cases_eq m n) as (λ _. IsMarked (set marks n true) m ↔ (IsMarked marks m ⊎ ((m < length marks) × held m))) [
        | inl e ↦ (λ _. inr (omega arith, (only m).1 (sym e)), λ _. subst (λ k. IsMarked (set marks n true) k) (sym e) at)
        | inr ne ↦
            let other : get_or (set marks n true) m false ≡ get_or marks m false = get_or-set_other marks n m true false ne in
            (λ h. inl (sym other ∙ h), λ s. elim s [ inl h ↦ other ∙ h | inr p ↦ absurd (ne (sym ((only m).0 p.1))) ])
      ];
      kept = λ k h. let ne : k ≢ height = omega arith in get_or-set_other work height k n 0 ne;
      higher = omega arith;
      listed = λ m h. elim (cases_eq m n) [
        | inl e ↦ inr (height, omega arith, listed_at ∙ sym e)
        | inr ne ↦ inl (sym (get_or-set_other marks n m true false ne) ∙ h)
      ];
      all_marked = λ k low high.
          let e : k ≡ height = omega arith in
          let same : get_or (set work height n) k 0 ≡ n = subst (λ j. get_or (set work height n) j 0 ≡ n) (sym e) listed_at in
          subst (λ j. IsMarked (set marks n true) j) (sym same) at;
      left = omega (arith, fewer);
    }

-- a set is added, and then another
pub Adds-then : {P Q : ℕ → Type 0} (R : ℕ → Type 0) {marks marks' marks'' : List Bool} {work work' work'' : List ℕ} {height height' height'' : ℕ}
    → length marks' ≡ length marks → Adds P marks work height marks' work' height'
    → Adds Q marks' work' height' marks'' work'' height'' → ((n : ℕ) → R n ↔ (P n ⊎ Q n)) → Adds R marks work height marks'' work'' height''
Adds-then {P} {Q} R {marks} {marks'} {marks''} {work} {work'} {work''} {height} {height'} {height''} same a b each =
    record {
      marked = λ n. (
        λ h. elim ((b.marked n).0 h) [
          | inl h' ↦ elim ((a.marked n).0 h') [ inl old ↦ inl old | inr p ↦ inr (p.0, (each n).1 (inl p.1)) ]
          | inr q ↦ inr (omega (arith, q.0), (each n).1 (inr q.1))
        ],
        λ s. elim s [
          | inl old ↦ (b.marked n).1 (inl ((a.marked n).1 (inl old)))
          | inr p ↦ elim ((each n).0 p.1) [
            | inl x ↦ (b.marked n).1 (inl ((a.marked n).1 (inr (p.0, x))))
            | inr y ↦ (b.marked n).1 (inr (omega (arith, p.0), y))
          ]
        ],
      );
      kept = λ k h. b.kept k (omega (arith, a.higher)) ∙ a.kept k h;
      higher = omega (arith, a.higher, b.higher);
      listed = λ n h. elim (b.listed n h) [
        | inl h' ↦ elim (a.listed n h') [
          | inl old ↦ inl old
          | inr (k, lt, e) ↦ inr (k, omega (arith, b.higher), b.kept k lt ∙ e)
        ]
        | inr l ↦ inr l
      ];
      all_marked = λ k low high. elim (cases_lt k height') [
        | inl lt ↦ subst (λ j. IsMarked marks'' j) (sym (b.kept k lt)) ((b.marked (get_or work' k 0)).1 (inl (a.all_marked k low lt)))
        | inr le ↦ b.all_marked k le high
      ];
      left = b.left ∙ a.left;
    }

-- a set is added by another name
pub Adds-as : {P : ℕ → Type 0} (R : ℕ → Type 0) {marks marks' : List Bool} {work work' : List ℕ} {height height' : ℕ}
    → ((n : ℕ) → R n ↔ P n)
    → Adds P marks work height marks' work' height' → Adds R marks work height marks' work' height'
Adds-as R each a = record {
  marked = λ n. (
    λ h. elim ((a.marked n).0 h) [ inl old ↦ inl old | inr p ↦ inr (p.0, (each n).1 p.1) ],
    λ s. elim s [ inl old ↦ (a.marked n).1 (inl old) | inr p ↦ (a.marked n).1 (inr (p.0, (each n).0 p.1)) ],
  );
  kept = a.kept;
  higher = a.higher;
  listed = a.listed;
  all_marked = a.all_marked;
  left = a.left;
}

-- some place among the first i + 1 of a list is one among the first i, or the place i
pub some-take : {A : Type 0} (T : ℕ → A → Type 0) (xs : List A) (d : A) (i : ℕ) → i < length xs → ((k : ℕ) → T k d → ⊥)
    → ((k : ℕ) × T k (get_or (take (i + 1) xs) k d)) ↔ (((k : ℕ) × T k (get_or (take i xs) k d)) ⊎ T i (get_or xs i d))
some-take {A} T xs d i lt none = (
  λ (k, t). elim (cases_lt k i) [
    | inl below ↦
        let e : get_or (take (i + 1) xs) k d ≡ get_or (take i xs) k d = get_or-take (i + 1) xs k d (omega arith) ∙ sym (get_or-take i xs k d below) in
        inl (k, subst (λ v. T k v) e t)
    | inr up ↦ elim (cases_eq k i) [
      | inl e ↦
          let at : get_or (take (i + 1) xs) k d ≡ get_or xs k d = get_or-take (i + 1) xs k d (omega arith) in
          inr (subst (λ j. T j (get_or xs j d)) e (subst (λ v. T k v) at t))
      | inr ne ↦
          let long : length (take (i + 1) xs) ≤ k = omega (arith, length-take (i + 1) xs) in
          absurd (none k (subst (λ v. T k v) (get_or_past (take (i + 1) xs) k d long) t))
    ]
  ],
  λ s. elim s [
    | inl (k, t) ↦ elim (cases_lt k i) [
      | inl below ↦
          let e : get_or (take i xs) k d ≡ get_or (take (i + 1) xs) k d = get_or-take i xs k d below
          ∙ sym (get_or-take (i + 1) xs k d (omega arith)) in
          (k, subst (λ v. T k v) e t)
      | inr up ↦
          let long : length (take i xs) ≤ k = omega (arith, length-take i xs) in
          absurd (none k (subst (λ v. T k v) (get_or_past (take i xs) k d long) t))
    ]
    | inr t ↦ (i, subst (λ v. T i v) (sym (get_or-take (i + 1) xs i d (omega arith))) t)
  ],
)
