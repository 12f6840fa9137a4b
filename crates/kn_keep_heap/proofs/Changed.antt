-- Functions changed at one place, more than one of them or more than once.
use Rattle.std.proofs.Common.{◌≡◌, ◌≢◌, ℕ, inl, inr, cond, Option, Some, sym, subst, ap, ◌∙◌}
use Rattle.std.proofs.lemmas.Bool.Decides.{eqb_tells}
use Rattle.kn_base.specs.Functions.{upd, Tells}

-- what is equal as something is equal
pub some_is : {A : Type 0} (a b : A) → Option.Some a ≡ Some b → a ≡ b
some_is a b e = cc

-- three functions changed at one place
module _ {A B C : Type 0} (P : ℕ → A → B → C → Type 0) (f : ℕ → A) (g : ℕ → B) (h : ℕ → C) (i : ℕ) (a : A) (b : B) (c : C) where
  upd_case3_at : P i a b c → (j : ℕ) → (i ≢ j → P j (f j) (g j) (h j)) → Tells i j → P j (upd f i a j) (upd g i b j) (upd h i c j)
  upd_case3_at here j there (inl t) =
      subst (λ e. P j (cond e a (f j)) (cond e b (g j)) (cond e c (h j))) (sym t.0) (subst (λ k. P k a b c) t.1 here)
  upd_case3_at here j there (inr t) = subst (λ e. P j (cond e a (f j)) (cond e b (g j)) (cond e c (h j))) (sym t.0) (there t.1)

  pub upd_case3 : P i a b c → (j : ℕ) → (i ≢ j → P j (f j) (g j) (h j)) → P j (upd f i a j) (upd g i b j) (upd h i c j)
  upd_case3 here j there = upd_case3_at here j there (eqb_tells i j)

module _ {A : Type 0} (f : ℕ → A) (i : ℕ) (a b : A) where
  twice_at : (j : ℕ) → Tells i j → upd (upd f i a) i b j ≡ upd f i b j
  twice_at j (inl t) = ap (λ e. cond e b (upd f i a j)) t.0 ∙ ap (λ e. cond e b (f j)) (sym t.0)
  twice_at j (inr t) = ap (λ e. cond e b (cond e a (f j))) t.0 ∙ ap (λ e. cond e b (f j)) (sym t.0)

  -- changed twice is changed once
  pub upd_twice : upd (upd f i a) i b ≡ upd f i b
  upd_twice = λ t j. twice_at j (eqb_tells i j) t
