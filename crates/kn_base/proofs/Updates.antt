-- Functions changed at one place.
use Rattle.std.proofs.Common.{◌≡◌, ℕ, zero, suc, ◌<◌, ◌≢◌, inl, inr, true, false, cond, eqb, List, [], ◌∷◌, length, set, Some}
use Rattle.std.proofs.Common.{slice_get, refl, sym, ap, ◌∙◌, subst, arith, eq-eqb, ne_eqb}
use Rattle.std.proofs.lemmas.Bool.Decides.{eqb_tells}
use Rattle.kn_base.specs.Functions.{upd, Tells}

module _ {A : Type 0} where
  pub upd_here : (f : ℕ → A) (i : ℕ) (a : A) → upd f i a i ≡ a
  upd_here f i a = ap (λ b. cond b a (f i)) (eq-eqb i i refl)

  pub upd_else : (f : ℕ → A) (i : ℕ) (a : A) (j : ℕ) → i ≢ j → upd f i a j ≡ f j
  upd_else f i a j n = ap (λ b. cond b a (f j)) (ne_eqb i j n)

  upd_same_at : (f : ℕ → A) (i : ℕ) (a : A) → a ≡ f i → (j : ℕ) → Tells i j → upd f i a j ≡ f j
  upd_same_at f i a e j (inl t) = ap (λ b. cond b a (f j)) t.0 ∙ (e ∙ ap f t.1)
  upd_same_at f i a e j (inr t) = ap (λ b. cond b a (f j)) t.0

  -- nothing changes where the new value is the old one
  pub upd_same : (f : ℕ → A) (i : ℕ) (a : A) → a ≡ f i → upd f i a ≡ f
  upd_same f i a e = λ t j. upd_same_at f i a e j (eqb_tells i j) t

  upd_case_at : (P : ℕ → A → Type 0) (f : ℕ → A) (i : ℕ) (a : A) → P i a → (j : ℕ) → (i ≢ j → P j (f j)) → Tells i j →
      P j (upd f i a j)
  upd_case_at P f i a here j there (inl t) = subst (λ b. P j (cond b a (f j))) (sym t.0) (subst (λ k. P k a) t.1 here)
  upd_case_at P f i a here j there (inr t) = subst (λ b. P j (cond b a (f j))) (sym t.0) (there t.1)

  -- what holds of the new value there and of each old one elsewhere holds of the changed function
  pub upd_case : (P : ℕ → A → Type 0) (f : ℕ → A) (i : ℕ) (a : A) → P i a → (j : ℕ) → (i ≢ j → P j (f j)) → P j (upd f i a j)
  upd_case P f i a here j there = upd_case_at P f i a here j there (eqb_tells i j)

module _ {A B : Type 0} (g : A → B) where
  pub part_at : (f : ℕ → A) (i : ℕ) (a : A) (j : ℕ) → g (upd f i a j) ≡ upd (λ k. g (f k)) i (g a) j
  part_at f i a j = elim (eqb i j) as (λ b. g (cond b a (f j)) ≡ cond b (g a) (g (f j))) [ true ↦ refl | false ↦ refl ]

  pub part_upd : (f : ℕ → A) (i : ℕ) (a : A) → ◌≡◌ {A = ℕ → B} (λ j. g (upd f i a j)) (upd (λ k. g (f k)) i (g a))
  part_upd f i a = λ t j. part_at f i a j t

  -- a part that the new value leaves as it was
  pub part_same : (f : ℕ → A) (i : ℕ) (a : A) → g a ≡ g (f i) → ◌≡◌ {A = ℕ → B} (λ j. g (upd f i a j)) (λ j. g (f j))
  part_same f i a e = (λ t j. part_at f i a j t) ∙ upd_same (λ k. g (f k)) i (g a) e

-- two functions changed at one place
module _ {A B : Type 0} (P : ℕ → A → B → Type 0) (f : ℕ → A) (g : ℕ → B) (i : ℕ) (a : A) (b : B) where
  upd_case2_at : P i a b → (j : ℕ) → (i ≢ j → P j (f j) (g j)) → Tells i j → P j (upd f i a j) (upd g i b j)
  upd_case2_at here j there (inl t) = subst (λ e. P j (cond e a (f j)) (cond e b (g j))) (sym t.0) (subst (λ k. P k a b) t.1 here)
  upd_case2_at here j there (inr t) = subst (λ e. P j (cond e a (f j)) (cond e b (g j))) (sym t.0) (there t.1)

  pub upd_case2 : P i a b → (j : ℕ) → (i ≢ j → P j (f j) (g j)) → P j (upd f i a j) (upd g i b j)
  upd_case2 here j there = upd_case2_at here j there (eqb_tells i j)

pub get_set_here : {A : Type 0} (l : List A) (k : ℕ) (x : A) → k < length l → slice_get (set l k x) k ≡ Some x
get_set_here [] k x h = absurd (omega arith)
get_set_here (y ∷ ys) zero x h = refl
get_set_here (y ∷ ys) (suc k) x h = get_set_here ys k x (omega arith)

pub get_set_else : {A : Type 0} (l : List A) (k : ℕ) (x : A) (j : ℕ) → k ≢ j → slice_get (set l k x) j ≡ slice_get l j
get_set_else [] k x j h = refl
get_set_else (y ∷ ys) zero x zero h = absurd (h refl)
get_set_else (y ∷ ys) zero x (suc j) h = refl
get_set_else (y ∷ ys) (suc k) x zero h = refl
get_set_else (y ∷ ys) (suc k) x (suc j) h = get_set_else ys k x j (λ e. h (ap suc e))

get_set_at : {A : Type 0} (l : List A) (k : ℕ) (x : A) (j : ℕ) → k < length l → Tells k j →
    slice_get (set l k x) j ≡ cond (eqb k j) (Some x) (slice_get l j)
get_set_at {A} l k x j h (inl t) = ap (slice_get (set l k x)) (sym t.1) ∙ (get_set_here l k x h ∙ ap (λ b. cond b (Some x) (slice_get l j)) (sym t.0))
get_set_at {A} l k x j h (inr t) = get_set_else l k x j t.1 ∙ ap (λ b. cond b (Some x) (slice_get l j)) (sym t.0)

-- a list with one element set, seen as a function
pub get_set : {A : Type 0} (l : List A) (k : ℕ) (x : A) (j : ℕ) → k < length l → slice_get (set l k x) j ≡ upd (slice_get l) k (Some x) j
get_set l k x j h = get_set_at l k x j h (eqb_tells k j)

-- by cases on whether two numbers are one
pub split_at : (P : ℕ → Type 0) (i : ℕ) → P i → (j : ℕ) → (i ≢ j → P j) → P j
split_at P i here j there = by (eqb_tells i j)
  where
    by : Tells i j → P j
    by (inl t) = subst P t.1 here
    by (inr t) = there t.1
