-- Sums, where one value changed.
use Rattle.std.proofs.Common.{◌≡◌, ◌≢◌, inl, inr, ℕ, zero, suc, ◌+◌, ◌*◌, ◌<◌, ◌≤◌, true, false, cond, eqb, refl, sym}
use Rattle.std.proofs.Common.{ap, ◌∙◌}
use Rattle.std.proofs.Common.{arith, subst, eq-eqb, ne_eqb}
use Rattle.std.proofs.lemmas.Bool.Decides.{eqb_tells}
use Rattle.kn_base.specs.Functions.{upd}
use Rattle.kn_marking.specs.Totals.{total}
use Rattle.kn_marking.specs.Words.{one, but}
use Rattle.kn_base.specs.Functions.{Tells}
use Rattle.kn_base.proofs.Updates.{upd_here, upd_else, part_upd}

total_far : (n : ℕ) (f : ℕ → ℕ) (i a : ℕ) → n ≤ i → total n (upd f i a) ≡ total n f
total_far zero f i a l = refl
total_far (suc n) f i a l = let e : upd f i a n ≡ f n = upd_else f i a n (λ s. omega arith) in let r = total_far n f i a (omega arith) in omega arith

total_at : (n : ℕ) (f : ℕ → ℕ) (i a : ℕ) → i < suc n → Tells i n → (i < n → total n (upd f i a) + f i ≡ total n f + a) → total (suc n)
    (upd f i a) + f i ≡ total (suc n) f + a
total_at n f i a l (inl t) more =
    let e : upd f i a n ≡ a = ap (upd f i a) (sym t.1) ∙ upd_here f i a in let s : f i ≡ f n = ap f t.1 in let is = t.1 in let r = total_far n f i a
    (omega arith) in omega arith
total_at n f i a l (inr t) more = let un = t.1 in let e : upd f i a n ≡ f n = upd_else f i a n un in let r = more (omega arith) in omega arith

pub total_upd : (n : ℕ) (f : ℕ → ℕ) (i a : ℕ) → i < n → total n (upd f i a) + f i ≡ total n f + a
total_upd zero f i a l = absurd (omega arith)
total_upd (suc n) f i a l = total_at n f i a l (eqb_tells i n) (total_upd n f i a)

-- the same of a number that each value gives
pub total_part : {A : Type 0} (g : A → ℕ) (n : ℕ) (f : ℕ → A) (i : ℕ) (a : A) → i < n → total n (λ j. g (upd f i a j)) + g
    (f i) ≡ total n (λ j. g (f j)) + g a
total_part g n f i a l = subst (λ h. total n h + g (f i) ≡ total n (λ j. g (f j)) + g a) (sym (part_upd g f i a)) (total_upd n (λ j. g (f j)) i (g a) l)

zero_at : (n : ℕ) (f : ℕ → ℕ) (i : ℕ) → total (suc n) f ≡ 0 → i < suc n → Tells i n → (i < n → f i ≡ 0) → f i ≡ 0
zero_at n f i t l (inl s) more = let is : f i ≡ f n = ap f s.1 in omega arith
zero_at n f i t l (inr s) more = let un = s.1 in more (omega arith)

-- no term of a sum that is 0 is above 0
pub total_zero : (n : ℕ) (f : ℕ → ℕ) (i : ℕ) → total n f ≡ 0 → i < n → f i ≡ 0
total_zero zero f i t l = absurd (omega arith)
total_zero (suc n) f i t l = zero_at n f i t l (eqb_tells i n) (λ k. total_zero n f i (omega arith) k)

pub one_here : (v w : ℕ) → w ≡ v → one v w ≡ 1
one_here v w e = ap (λ b. cond b 1 0) (eq-eqb w v e)

pub one_else : (v w : ℕ) → w ≢ v → one v w ≡ 0
one_else v w n = ap (λ b. cond b 1 0) (ne_eqb w v n)

pub but_here : (v w : ℕ) → w ≡ v → but v w ≡ 0
but_here v w e = ap (λ b. cond b 0 1) (eq-eqb w v e)

pub but_else : (v w : ℕ) → w ≢ v → but v w ≡ 1
but_else v w n = ap (λ b. cond b 0 1) (ne_eqb w v n)

pub one_zero : (v w : ℕ) → one v w ≡ 0 → w ≢ v
one_zero v w z e = let o = one_here v w e in absurd (omega arith)

but_zero_at : (v w : ℕ) → but v w ≡ 0 → Tells w v → w ≡ v
but_zero_at v w z (inl t) = t.1
but_zero_at v w z (inr t) = let o = but_else v w t.1 in absurd (omega arith)

pub but_zero : (v w : ℕ) → but v w ≡ 0 → w ≡ v
but_zero v w z = but_zero_at v w z (eqb_tells w v)

pub total_each : (n : ℕ) (f : ℕ → ℕ) (a : ℕ) → ((i : ℕ) → i < n → f i ≡ a) → total n f ≡ n * a
total_each zero f a h = omega arith
total_each (suc n) f a h = let e = h n (omega arith) in let r = total_each n f a (λ i l. h i (omega arith)) in suc_times n a (f n) (total n f) e r
  where
    suc_times : (n a b t : ℕ) → b ≡ a → t ≡ n * a → b + t ≡ suc n * a
    suc_times n a b t e r = grind (arith, e, r)

-- a sum of numbers up to 1
pub total_few : (n : ℕ) (f : ℕ → ℕ) → ((i : ℕ) → i < n → f i ≤ 1) → total n f ≤ n
total_few zero f h = omega arith
total_few (suc n) f h = let e = h n (omega arith) in let r = total_few n f (λ i l. h i (omega arith)) in omega arith

pub one_few : (v w : ℕ) → one v w ≤ 1
one_few v w = elim (eqb w v) as (λ b. cond b 1 0 ≤ 1) [ true ↦ omega arith | false ↦ omega arith ]

pub but_few : (v w : ℕ) → but v w ≤ 1
but_few v w = elim (eqb w v) as (λ b. cond b 0 1 ≤ 1) [ true ↦ omega arith | false ↦ omega arith ]
