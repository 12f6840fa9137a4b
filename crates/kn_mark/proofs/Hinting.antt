-- What holds of each hint.
use Rattle.std.proofs.Common.{◌≡◌, ℕ, zero, suc, Bool, true, false, cond, List, [], ◌∷◌, ◌++◌, length, take, slice_get}
use Rattle.std.proofs.Common.{Some, subst, nat_lt}
use Rattle.std.specs.List.{AllByRecursion}
use Rattle.kn_mark.specs.Steps.{with_hint}

module _ (P : ℕ → Type 0) where
  pub all_at : (xs : List ℕ) (i x : ℕ) → AllByRecursion P xs → slice_get xs i ≡ Some x → P x
  all_at [] i x a e = absurd (cc)
  all_at (y ∷ ys) zero x a e = let same : y ≡ x = cc in subst P same a.0
  all_at (y ∷ ys) (suc i) x a e = all_at ys i x a.1 e

  pub all_front : (n : ℕ) (xs : List ℕ) → AllByRecursion P xs → AllByRecursion P (take n xs)
  all_front zero xs a = tt
  all_front (suc n) [] a = tt
  all_front (suc n) (x ∷ xs) a = (a.0, all_front n xs a.1)

  all_more : (xs : List ℕ) (x : ℕ) → AllByRecursion P xs → P x → AllByRecursion P (xs ++ x ∷ [])
  all_more [] x a p = (p, tt)
  all_more (y ∷ ys) x a p = (a.0, all_more ys x a.1 p)

  kept_if : (b : Bool) (xs : List ℕ) (x : ℕ) → AllByRecursion P xs → P x → AllByRecursion P (cond b (xs ++ x ∷ []) xs)
  kept_if true xs x a p = all_more xs x a p
  kept_if false xs x a p = a

  pub all_kept : (xs : List ℕ) (x : ℕ) → AllByRecursion P xs → P x → AllByRecursion P (with_hint xs x)
  all_kept xs x a p = kept_if (nat_lt (length xs) 64) xs x a p
