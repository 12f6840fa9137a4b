-- Lists written at a place, as functions changed there.
use Rattle.std.proofs.Common.{◌≡◌, ℕ, zero, suc, ◌<◌, Option, Some, None, List, length, replicate, slice_set, slice_index_or}
use Rattle.std.proofs.Common.{refl, sym, ap, ◌∙◌, arith}
use Rattle.std.specs.Option.{IfSome}
use Rattle.std.proofs.lemmas.List.{get_or-set_same, get_or-set_other, length-set}
use Rattle.kn_base.specs.Functions.{upd}
use Rattle.kn_base.proofs.Updates.{upd_case}
use Rattle.kn_cms_rule.specs.declared.stages.Colour.{Colour}
use Rattle.kn_cms_rule.specs.declared.stages.Colour.TheVariants.{White}
use Rattle.kn_cms_rule.specs.State.{shade, shaded}
use Rattle.kn_cms_lists.specs.Kept.{shaded_list}

-- a place of a list of one value, past its end too
pub same_at : {A : Type 0} (n : ℕ) (a : A) (i : ℕ) → slice_index_or (replicate n a) i a ≡ a
same_at zero a i = refl
same_at (suc n) a zero = refl
same_at (suc n) a (suc i) = same_at n a i

-- a list written at a place, as a function changed there
pub set_upd : {A : Type 0} (l : List A) (d : A) (f : ℕ → A) (i : ℕ) (x : A) (n : ℕ) → i < length l →
    ((j : ℕ) → j < n → slice_index_or l j d ≡ f j) → (j : ℕ) → j < n → slice_index_or (slice_set l i x) j d ≡ upd f i x j
set_upd l d f i x n near same j less = upd_case (λ j y. j < n → slice_index_or (slice_set l i x) j d ≡ y) f i x
    (λ _. get_or-set_same l i x d near) j (λ ne h. get_or-set_other l i j x d (λ e. ne (sym e)) ∙ same j h) less

-- the same of all places
pub set_upd_all : {A : Type 0} (l : List A) (d : A) (f : ℕ → A) (i : ℕ) (x : A) → i < length l →
    ((j : ℕ) → slice_index_or l j d ≡ f j) → (j : ℕ) → slice_index_or (slice_set l i x) j d ≡ upd f i x j
set_upd_all l d f i x near same j = set_upd l d f i x (suc j) near (λ k _. same k) j (omega arith)

-- the colours after a value becomes gray
pub shaded_told : (colours : List Colour) (colour : ℕ → Colour) (v : Option ℕ) → IfSome v (λ n. n < length colours) →
    ((n : ℕ) → slice_index_or colours n White ≡ colour n) → (n : ℕ) → slice_index_or (shaded_list colours v) n White ≡ shade colour v n
shaded_told colours colour None near same n = same n
shaded_told colours colour (Some m) near same n =
    set_upd_all colours White colour m (shaded (slice_index_or colours m White)) near same n ∙ ap (λ (c : Colour). upd colour m (shaded c) n) (same m)

pub length_shaded : (colours : List Colour) (v : Option ℕ) → length (shaded_list colours v) ≡ length colours
length_shaded colours None = refl
length_shaded colours (Some n) = length-set colours n (shaded (slice_index_or colours n White))
