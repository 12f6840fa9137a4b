-- Sums of the values of functions below a number.
use Rattle.std.proofs.Common.{◌≡◌, ◌≢◌, ℕ, zero, suc, ◌+◌, ◌<◌, ◌≤◌, inl, inr, refl, subst, arith}
use Rattle.std.proofs.lemmas.Bool.Decides.{eqb_tells}
use Rattle.kn_base.specs.Functions.{Tells}
use Rattle.kn_cms_bound.specs.Work.{sum_below}

pub sum_mono : (f g : ℕ → ℕ) (n : ℕ) → ((k : ℕ) → k < n → g k ≤ f k) → sum_below g n ≤ sum_below f n
sum_mono f g zero h = omega arith
sum_mono f g (suc n) h =
    let here = h n (omega arith) in let rest = sum_mono f g n (λ k less. h k (omega (arith, less))) in omega (arith, here, rest)

-- a sum falls where one value falls and no other one rises
pub sum_falls : (f g : ℕ → ℕ) (n i : ℕ) → i < n → g i < f i → ((k : ℕ) → k < n → i ≢ k → g k ≤ f k) → sum_below g n < sum_below f n
sum_falls f g zero i near here h = absurd (omega (arith, near))
sum_falls f g (suc n) i near here h = by (eqb_tells i n) (λ less. sum_falls f g n i less here (λ k within ne. h k (omega (arith, within)) ne))
  where
    by : Tells i n → (i < n → sum_below g n < sum_below f n) → sum_below g (suc n) < sum_below f (suc n)
    by (inl t) rest =
        let top : g n < f n = subst (λ k. g k < f k) t.1 here in
        let below = sum_mono f g n (λ k less. h k (omega (arith, less)) (λ e. absurd (omega (arith, less, e, t.1)))) in
        omega (arith, top, below)
    by (inr t) rest = let ne = t.1 in let top = h n (omega arith) ne in let below = rest (omega (arith, near, ne)) in omega (arith, top, below)

-- the first value and the rest
pub sum_first : (f : ℕ → ℕ) (n : ℕ) → sum_below f (suc n) ≡ f 0 + sum_below (λ k. f (suc k)) n
sum_first f zero = refl
sum_first f (suc n) = let rest = sum_first f n in omega (arith, rest)
