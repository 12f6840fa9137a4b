-- A word that is stored where it stands changes nothing.
use Rattle.std.proofs.Common.{◌≡◌, ℕ, refl, ap, ◌∙◌}
use Rattle.kn_base.specs.declared.places.Place.{Place}
use Rattle.kn_base.specs.declared.places.Place.TheVariants.{Phase, Want, Pending, State, RootSet, Local, Global, Node, Frame, Side, Body}
use Rattle.kn_base.specs.Functions.{upd}
use Rattle.kn_base.proofs.Updates.{upd_same}
use Rattle.kn_rule.specs.Places.{put}
use Rattle.kn_keep_heap.proofs.Parts.{local_words}

module _ (word : Place → ℕ) where
  at_local : (i r n : ℕ) → n ≡ word (Local i r) → (j s : ℕ) → put word (Local i r) n (Local j s) ≡ word (Local j s)
  at_local i r n e j s =
      let words : ℕ → ℕ → ℕ = λ c k. word (Local c k) in
      ap (λ (f : ℕ → ℕ → ℕ). f j s) (local_words word i r n ∙ upd_same words i (upd (words i) r n) (upd_same (words i) r n e))

  same_at : (p : Place) (n : ℕ) → n ≡ word p → (q : Place) → put word p n q ≡ word q
  same_at Phase n e Phase = e
  same_at Want n e Want = e
  same_at Pending n e Pending = e
  same_at (State i) n e (State j) = ap (λ (f : ℕ → ℕ). f j) (upd_same (λ a. word (State a)) i n e)
  same_at (RootSet i) n e (RootSet j) = ap (λ (f : ℕ → ℕ). f j) (upd_same (λ a. word (RootSet a)) i n e)
  same_at (Local i r) n e (Local j s) = at_local i r n e j s
  same_at (Global i) n e (Global j) = ap (λ (f : ℕ → ℕ). f j) (upd_same (λ a. word (Global a)) i n e)
  same_at (Node i) n e (Node j) = ap (λ (f : ℕ → ℕ). f j) (upd_same (λ a. word (Node a)) i n e)
  same_at (Frame i) n e (Frame j) = ap (λ (f : ℕ → ℕ). f j) (upd_same (λ a. word (Frame a)) i n e)
  same_at (Side i) n e (Side j) = ap (λ (f : ℕ → ℕ). f j) (upd_same (λ a. word (Side a)) i n e)
  same_at (Body i) n e (Body j) = ap (λ (f : ℕ → ℕ). f j) (upd_same (λ a. word (Body a)) i n e)
  same_at p n e q = refl

  pub put_same : (p : Place) (n : ℕ) → n ≡ word p → put word p n ≡ word
  put_same p n e = λ t q. same_at p n e q t
