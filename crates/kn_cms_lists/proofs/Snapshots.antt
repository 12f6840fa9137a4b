-- Lists of values that become gray, one after another.
use Rattle.std.proofs.Common.{◌≡◌, ◌≢◌, ℕ, zero, suc, ◌<◌, ◌⊎◌, inl, inr, Option, Some, None, List, [], ◌∷◌, length}
use Rattle.std.proofs.Common.{slice_index_or}
use Rattle.std.proofs.Common.{refl, sym, ap, subst, ◌∙◌}
use Rattle.std.specs.Option.{IfSome}
use Rattle.std.specs.List.{fold}
use Rattle.std.proofs.lemmas.Bool.Decides.{eqb_tells}
use Rattle.std.proofs.lemmas.List.{get_or-set_other, get_or-set_same}
use Rattle.kn_base.specs.Functions.{Tells}
use Rattle.kn_cms_rule.specs.declared.stages.Colour.{Colour}
use Rattle.kn_cms_rule.specs.declared.stages.Colour.TheVariants.{White, Gray, Black}
use Rattle.kn_cms_rule.specs.State.{shade, shaded}
use Rattle.kn_cms_lists.specs.Kept.{all_shaded, rows_shaded, shaded_list}
use Rattle.kn_cms_rule.proofs.Shades.{gray_shade, shade_black}
use Rattle.kn_cms_lists.proofs.Writes.{length_shaded, shaded_told}

-- what a step does to the colours, it does step after step
module _ {A : Type 0} (f : List Colour → A → List Colour) (Has : A → ℕ → Type 0) (Near : ℕ → A → Type 0) (nothing : A)
    (empty : (n : ℕ) → Has nothing n → ⊥) (long : (c : List Colour) (a : A) → length (f c a) ≡ length c)
    (gray : (c : List Colour) (a : A) (n : ℕ) → Near (length c) a → slice_index_or c n White ≡ Gray → slice_index_or (f c a) n White ≡ Gray)
    (black : (c : List Colour) (a : A) (n : ℕ) → Near (length c) a → slice_index_or (f c a) n White ≡ Black → slice_index_or c n White ≡ Black)
    (new : (c : List Colour) (a : A) (n : ℕ) → Near (length c) a → Has a n → slice_index_or c n White ≢ Black →
    slice_index_or (f c a) n White ≡ Gray)
    (old : (c : List Colour) (a : A) (n : ℕ) → (slice_index_or (f c a) n White ≡ slice_index_or c n White) ⊎ Has a n) where
  pub fold_long : (c : List Colour) (list : List A) → length (fold f c list) ≡ length c
  fold_long c [] = refl
  fold_long c (a ∷ list) = fold_long (f c a) list ∙ long c a

  behind : (c : List Colour) (a : A) (list : List A) → ((i : ℕ) → Near (length c) (slice_index_or (a ∷ list) i nothing)) →
      (i : ℕ) → Near (length (f c a)) (slice_index_or list i nothing)
  behind c a list near i = subst (λ l. Near l (slice_index_or list i nothing)) (sym (long c a)) (near (suc i))

  pub fold_gray : (c : List Colour) (list : List A) (n : ℕ) → ((i : ℕ) → Near (length c) (slice_index_or list i nothing)) →
      slice_index_or c n White ≡ Gray → slice_index_or (fold f c list) n White ≡ Gray
  fold_gray c [] n near e = e
  fold_gray c (a ∷ list) n near e = fold_gray (f c a) list n (behind c a list near) (gray c a n (near 0) e)

  pub fold_black : (c : List Colour) (list : List A) (n : ℕ) → ((i : ℕ) → Near (length c) (slice_index_or list i nothing)) →
      slice_index_or (fold f c list) n White ≡ Black → slice_index_or c n White ≡ Black
  fold_black c [] n near e = e
  fold_black c (a ∷ list) n near e = black c a n (near 0) (fold_black (f c a) list n (behind c a list near) e)

  pub fold_new : (c : List Colour) (list : List A) (n i : ℕ) → ((i : ℕ) → Near (length c) (slice_index_or list i nothing)) →
      Has (slice_index_or list i nothing) n → slice_index_or c n White ≢ Black → slice_index_or (fold f c list) n White ≡ Gray
  fold_new c [] n i near has e = absurd (empty n has)
  fold_new c (a ∷ list) n zero near has e = fold_gray (f c a) list n (behind c a list near) (new c a n (near 0) has e)
  fold_new c (a ∷ list) n (suc i) near has e = fold_new (f c a) list n i (behind c a list near) has (λ b. e (black c a n (near 0) b))

  pub fold_old : (c : List Colour) (list : List A) (n : ℕ) →
      (slice_index_or (fold f c list) n White ≡ slice_index_or c n White) ⊎ ((i : ℕ) × Has (slice_index_or list i nothing) n)
  fold_old c [] n = inl refl
  fold_old c (a ∷ list) n = by (fold_old (f c a) list n) (old c a n)
    where
      by : (slice_index_or (fold f (f c a) list) n White ≡ slice_index_or (f c a) n White) ⊎ ((i : ℕ) × Has (slice_index_or list i nothing) n) →
          (slice_index_or (f c a) n White ≡ slice_index_or c n White) ⊎ Has a n →
          (slice_index_or (fold f (f c a) list) n White ≡ slice_index_or c n White) ⊎ ((i : ℕ) × Has (slice_index_or (a ∷ list) i nothing) n)
      by (inr later) o = inr (suc later.0, later.1)
      by (inl same) (inr here) = inr (0, here)
      by (inl same) (inl too) = inl (same ∙ too)

-- one value
value_old : (c : List Colour) (v : Option ℕ) (n : ℕ) → (slice_index_or (shaded_list c v) n White ≡ slice_index_or c n White) ⊎ (v ≡ Some n)
value_old c None n = inl refl
value_old c (Some m) n = by (eqb_tells m n)
  where
    by : Tells m n → (slice_index_or (shaded_list c (Some m)) n White ≡ slice_index_or c n White) ⊎ (Some m ≡ Some n)
    by (inl t) = inr (ap (λ x. Some x) t.1)
    by (inr t) = inl (get_or-set_other c m n (shaded (slice_index_or c m White)) White (λ e. t.1 (sym e)))

module _ (c : List Colour) (v : Option ℕ) (n : ℕ) (near : IfSome v (λ n. n < length c)) where
  value_is : slice_index_or (shaded_list c v) n White ≡ shade (λ m. slice_index_or c m White) v n
  value_is = shaded_told c (λ m. slice_index_or c m White) v near (λ m. refl) n

  value_gray : slice_index_or c n White ≡ Gray → slice_index_or (shaded_list c v) n White ≡ Gray
  value_gray e = value_is ∙ gray_shade (λ m. slice_index_or c m White) v n e

  value_black : slice_index_or (shaded_list c v) n White ≡ Black → slice_index_or c n White ≡ Black
  value_black e = shade_black (λ m. slice_index_or c m White) v n (sym value_is ∙ e)

not_black : (c : Colour) → c ≢ Black → shaded c ≡ Gray
not_black White e = refl
not_black Gray e = refl
not_black Black e = absurd (e refl)

value_new : (c : List Colour) (v : Option ℕ) (n : ℕ) → IfSome v (λ n. n < length c) → v ≡ Some n → slice_index_or c n White ≢ Black →
    slice_index_or (shaded_list c v) n White ≡ Gray
value_new c None n near is e = absurd (cc)
value_new c (Some m) n near is e = let same : m ≡ n = cc in
    subst (λ m. slice_index_or (shaded_list c (Some m)) n White ≡ Gray) (sym same)
    (get_or-set_same c n (shaded (slice_index_or c n White)) White (subst (λ m. m < length c) same near) ∙ not_black (slice_index_or c n White) e)

no_value : (n : ℕ) → ◌≡◌ {A = Option ℕ} None (Some n) → ⊥
no_value n e = absurd (cc)

-- a list of values
pub all_long : (c : List Colour) (vs : List (Option ℕ)) → length (all_shaded c vs) ≡ length c
all_long c vs = fold_long shaded_list (λ v n. v ≡ Some n) (λ l v. IfSome v (λ n. n < l)) None no_value length_shaded
    (λ c v n. value_gray c v n) (λ c v n. value_black c v n) value_new value_old c vs

module _ (c : List Colour) (vs : List (Option ℕ)) (n : ℕ) where
  pub all_old : (slice_index_or (all_shaded c vs) n White ≡ slice_index_or c n White) ⊎ ((r : ℕ) × (slice_index_or vs r None ≡ Some n))
  all_old = fold_old shaded_list (λ v n. v ≡ Some n) (λ l v. IfSome v (λ n. n < l)) None no_value length_shaded
      (λ c v n. value_gray c v n) (λ c v n. value_black c v n) value_new value_old c vs n

  module _ (near : (r : ℕ) → IfSome (slice_index_or vs r None) (λ n. n < length c)) where
    pub all_gray : slice_index_or c n White ≡ Gray → slice_index_or (all_shaded c vs) n White ≡ Gray
    all_gray e = fold_gray shaded_list (λ v n. v ≡ Some n) (λ l v. IfSome v (λ n. n < l)) None no_value length_shaded
        (λ c v n. value_gray c v n) (λ c v n. value_black c v n) value_new value_old c vs n near e

    pub all_black : slice_index_or (all_shaded c vs) n White ≡ Black → slice_index_or c n White ≡ Black
    all_black e = fold_black shaded_list (λ v n. v ≡ Some n) (λ l v. IfSome v (λ n. n < l)) None no_value length_shaded
        (λ c v n. value_gray c v n) (λ c v n. value_black c v n) value_new value_old c vs n near e

    pub all_new : (r : ℕ) → slice_index_or vs r None ≡ Some n → slice_index_or c n White ≢ Black → slice_index_or (all_shaded c vs) n White ≡ Gray
    all_new r is e = fold_new shaded_list (λ v n. v ≡ Some n) (λ l v. IfSome v (λ n. n < l)) None no_value length_shaded
        (λ c v n. value_gray c v n) (λ c v n. value_black c v n) value_new value_old c vs n r near is e

-- a list of lists of values
no_row : (n : ℕ) → (r : ℕ) × (slice_index_or {A = Option ℕ} [] r None ≡ Some n) → ⊥
no_row n p = no_value n p.1

row_new : (c : List Colour) (row : List (Option ℕ)) (n : ℕ) → ((r : ℕ) → IfSome (slice_index_or row r None) (λ n. n < length c)) →
    (r : ℕ) × (slice_index_or row r None ≡ Some n) → slice_index_or c n White ≢ Black → slice_index_or (all_shaded c row) n White ≡ Gray
row_new c row n near has e = all_new c row n near has.0 has.1 e

pub rows_long : (c : List Colour) (rows : List (List (Option ℕ))) → length (rows_shaded c rows) ≡ length c
rows_long c rows = fold_long all_shaded (λ row n. (r : ℕ) × (slice_index_or row r None ≡ Some n))
    (λ l row. (r : ℕ) → IfSome (slice_index_or row r None) (λ n. n < l)) [] no_row all_long all_gray all_black row_new all_old c rows

module _ (c : List Colour) (rows : List (List (Option ℕ))) (n : ℕ) where
  pub rows_old : (slice_index_or (rows_shaded c rows) n White ≡ slice_index_or c n White) ⊎
      ((i : ℕ) × ((r : ℕ) × (slice_index_or (slice_index_or rows i []) r None ≡ Some n)))
  rows_old = fold_old all_shaded (λ row n. (r : ℕ) × (slice_index_or row r None ≡ Some n))
      (λ l row. (r : ℕ) → IfSome (slice_index_or row r None) (λ n. n < l)) [] no_row all_long all_gray all_black row_new all_old c rows n

  module _ (near : (i r : ℕ) → IfSome (slice_index_or (slice_index_or rows i []) r None) (λ n. n < length c)) where
    pub rows_black : slice_index_or (rows_shaded c rows) n White ≡ Black → slice_index_or c n White ≡ Black
    rows_black e = fold_black all_shaded (λ row n. (r : ℕ) × (slice_index_or row r None ≡ Some n))
        (λ l row. (r : ℕ) → IfSome (slice_index_or row r None) (λ n. n < l)) [] no_row all_long all_gray all_black row_new all_old c rows n near e

    pub rows_new : (i r : ℕ) → slice_index_or (slice_index_or rows i []) r None ≡ Some n → slice_index_or c n White ≢ Black →
        slice_index_or (rows_shaded c rows) n White ≡ Gray
    rows_new i r is e = fold_new all_shaded (λ row n. (r : ℕ) × (slice_index_or row r None ≡ Some n))
        (λ l row. (r : ℕ) → IfSome (slice_index_or row r None)
        (λ n. n < l)) [] no_row all_long all_gray all_black row_new all_old c rows n i near (r, is) e
