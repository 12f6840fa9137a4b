-- A store into the list of words is a store into the words as a function.
use Rattle.std.proofs.Common.{◌≡◌, ◌≢◌, ℕ, zero, suc, ◌+◌, ◌-◌, ◌*◌, ◌<◌, ◌≤◌, inl, inr, false, cond, eqb, List, length}
use Rattle.std.proofs.Common.{slice_index}
use Rattle.std.proofs.Common.{slice_set, refl, sym, subst, ap, ◌∙◌, arith, ne_eqb, eq-eqb, get_or-set_same, get_or-set_other}
use Rattle.std.proofs.lemmas.Bool.{cases_lt}
use Rattle.std.proofs.lemmas.Bool.Decides.{eqb_tells}
use Rattle.kn_base.specs.declared.heap.Sizes.{Sizes}
use Rattle.kn_base.specs.declared.places.Place.{Place}
use Rattle.kn_base.specs.declared.places.Place.TheVariants.{Phase, Want, Pending, State, RootSet, Local, Global, Node, Frame, Side, Body}
use Rattle.kn_base.specs.Functions.{upd, Tells}
use Rattle.kn_rule.specs.Places.{same_place, sort, offset, count, base, index, table_words, Within}
use Rattle.kn_rule.specs.Laws.{PlacesLie, WordsAreSet}

-- a list with one element set, seen as a function with 0 past its end
index_set_at : (l : List ℕ) (k x j : ℕ) → k < length l → Tells k j → slice_index (slice_set l k x) j ≡ upd (slice_index l) k x j
index_set_at l k x j h (inl t) =
    ap (slice_index (slice_set l k x)) (sym t.1) ∙ (get_or-set_same l k x 0 h ∙ ap (λ b. cond b x (slice_index l j)) (sym t.0))
index_set_at l k x j h (inr t) = get_or-set_other l k j x 0 (λ e. t.1 (sym e)) ∙ ap (λ b. cond b x (slice_index l j)) (sym t.0)

pub index_set : (l : List ℕ) (k x j : ℕ) → k < length l → slice_index (slice_set l k x) j ≡ upd (slice_index l) k x j
index_set l k x j h = index_set_at l k x j h (eqb_tells k j)

shifted_at : (b i j : ℕ) → Tells i j → eqb (b + i) (b + j) ≡ eqb i j
shifted_at b i j (inl t) = eq-eqb (b + i) (b + j) (ap (λ k. b + k) t.1) ∙ sym t.0
shifted_at b i j (inr t) = let ne = t.1 in ne_eqb (b + i) (b + j) (λ e. ne (omega arith)) ∙ sym t.0

shifted : (b i j : ℕ) → eqb (b + i) (b + j) ≡ eqb i j
shifted b i j = shifted_at b i j (eqb_tells i j)

local_at : (b i r j s : ℕ) → r < 16 → s < 16 → Tells i j → eqb (b + (16 * i + r)) (b + (16 * j + s)) ≡ cond (eqb i j) (eqb r s) false
local_at b i r j s hr hs (inl t) =
    ap (λ k. eqb (b + (16 * k + r)) (b + (16 * j + s))) t.1
    ∙ ((shifted b (16 * j + r) (16 * j + s) ∙ shifted (16 * j) r s) ∙ ap (λ c. cond c (eqb r s) false) (sym t.0))
local_at b i r j s hr hs (inr t) =
    let ne = t.1 in
    ne_eqb (b + (16 * i + r)) (b + (16 * j + s)) (λ e. ne (omega arith)) ∙ ap (λ c. cond c (eqb r s) false) (sym t.0)

module _ (z : Sizes) where
  below : (p : Place) → Within z p → offset p < count z (sort p)
  below (Local i r) w = let a = w.0 in let b = w.1 in omega arith
  below Phase w = w
  below Want w = w
  below Pending w = w
  below (State i) w = w
  below (RootSet i) w = w
  below (Global i) w = w
  below (Node i) w = w
  below (Frame i) w = w
  below (Side a) w = w
  below (Body a) w = w

  rising : (s d : ℕ) → base z s ≤ base z (s + d)
  rising s zero = let e : s ≡ s + 0 = omega arith in subst (λ k. base z s ≤ base z k) e (omega arith)
  rising s (suc d) = let e : suc (s + d) ≡ s + suc d = omega arith in let ih = rising s d in subst (λ k. base z s ≤ base z k) e (omega arith)

  before : (s t : ℕ) → s < t → base z (suc s) ≤ base z t
  before s t h = let e : suc s + (t - suc s) ≡ t = omega arith in subst (λ k. base z (suc s) ≤ base z k) e (rising (suc s) (t - suc s))

  other_index : (p q : Place) → Within z p → Within z q → sort p ≢ sort q → index z p ≢ index z q
  other_index p q wp wq ne = elim (cases_lt (sort p) (sort q)) [
    | inl less ↦ λ e. let m = before (sort p) (sort q) less in let l = below p wp in absurd (omega arith)
    | inr more ↦ elim (cases_lt (sort q) (sort p)) [
      | inl less ↦ λ e. let m = before (sort q) (sort p) less in let l = below q wq in absurd (omega arith)
      | inr same ↦ absurd (ne (omega arith))
    ]
  ]

  other_place : (p q : Place) → sort p ≢ sort q → same_place p q ≡ false
  other_place Phase Phase ne = absurd (ne refl)
  other_place Want Want ne = absurd (ne refl)
  other_place Pending Pending ne = absurd (ne refl)
  other_place (State i) (State j) ne = absurd (ne refl)
  other_place (RootSet i) (RootSet j) ne = absurd (ne refl)
  other_place (Local i r) (Local j s) ne = absurd (ne refl)
  other_place (Global i) (Global j) ne = absurd (ne refl)
  other_place (Node i) (Node j) ne = absurd (ne refl)
  other_place (Frame i) (Frame j) ne = absurd (ne refl)
  other_place (Side i) (Side j) ne = absurd (ne refl)
  other_place (Body i) (Body j) ne = absurd (ne refl)
  other_place p q ne = refl

  apart_index : (p q : Place) → Within z p → Within z q → sort p ≢ sort q → eqb (index z p) (index z q) ≡ same_place p q
  apart_index p q wp wq ne = ne_eqb (index z p) (index z q) (other_index p q wp wq ne) ∙ sym (other_place p q ne)

  one_index : (p q : Place) → Within z p → Within z q → sort p ≡ sort q → eqb (index z p) (index z q) ≡ same_place p q
  one_index Phase Phase wp wq e = shifted (base z 0) 0 0
  one_index Want Want wp wq e = shifted (base z 1) 0 0
  one_index Pending Pending wp wq e = shifted (base z 2) 0 0
  one_index (State i) (State j) wp wq e = shifted (base z 3) i j
  one_index (RootSet i) (RootSet j) wp wq e = shifted (base z 4) i j
  one_index (Local i r) (Local j s) wp wq e = local_at (base z 5) i r j s wp.1 wq.1 (eqb_tells i j)
  one_index (Global i) (Global j) wp wq e = shifted (base z 6) i j
  one_index (Node i) (Node j) wp wq e = shifted (base z 7) i j
  one_index (Frame i) (Frame j) wp wq e = shifted (base z 8) i j
  one_index (Side i) (Side j) wp wq e = shifted (base z 9) i j
  one_index (Body i) (Body j) wp wq e = shifted (base z 10) i j
  one_index p q wp wq e = absurd (omega arith)

  -- two places within the sizes have one index exactly where they are one place
  pub same_index : (p q : Place) → Within z p → Within z q → eqb (index z p) (index z q) ≡ same_place p q
  same_index p q wp wq = by (eqb_tells (sort p) (sort q))
    where
      by : Tells (sort p) (sort q) → eqb (index z p) (index z q) ≡ same_place p q
      by (inl t) = one_index p q wp wq t.1
      by (inr t) = apart_index p q wp wq t.1

  under : (n : ℕ) → n < 11 → base z (suc n) ≤ table_words z
  under n h = before n 11 h

pub places_lie : PlacesLie
places_lie z p w = let l = below z p w in let u = under z (sort p) (few p) in omega arith
  where
    few : (p : Place) → sort p < 11
    few Phase = omega arith
    few Want = omega arith
    few Pending = omega arith
    few (State i) = omega arith
    few (RootSet i) = omega arith
    few (Local i r) = omega arith
    few (Global i) = omega arith
    few (Node i) = omega arith
    few (Frame i) = omega arith
    few (Side a) = omega arith
    few (Body a) = omega arith

pub words_are_set : WordsAreSet
words_are_set z words word n are p q h wp wq =
    index_set words (index z p) n (index z q) h
    ∙ ((λ t. cond (same_index z p q wp wq t) n (slice_index words (index z q))) ∙ ap (cond (same_place p q) n) (are q wq))
