-- Facts of a function that was changed at one place.
use Rattle.std.proofs.Common.{◌≡◌, ℕ, cond, ap, eq-eqb}
use Rattle.kn_base.specs.Functions.{upd}
use Rattle.kn_base.proofs.Updates.{upd_case}

pub upd_at : {A : Type 0} (f : ℕ → A) (i : ℕ) (a : A) (j : ℕ) → i ≡ j → upd f i a j ≡ a
upd_at f i a j e = ap (λ b. cond b a (f j)) (eq-eqb i j e)

-- what holds of the new value, and of the old one at j, holds at j
pub each_upd : {A : Type 0} (P : A → Type 0) (f : ℕ → A) (i : ℕ) (a : A) → P a → (j : ℕ) → P (f j) → P (upd f i a j)
each_upd {A} P f i a new j old = upd_case (λ _. P) f i a new j (λ _. old)
