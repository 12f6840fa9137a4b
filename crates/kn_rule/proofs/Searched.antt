-- A search is done with frames exactly where each of them is ruled out.
use Rattle.std.proofs.Common.{◌≡◌, ℕ, zero, suc, ◌+◌, ◌<◌, ◌⊎◌, inl, inr, Bool, true, false, not, ◌&&◌, ◌||◌, List, Option}
use Rattle.std.proofs.Common.{Some, None, slice_get}
use Rattle.std.proofs.Common.{refl, ap, ◌∙◌, arith}
use Rattle.kn_base.proofs.Updates.{split_at}
use Rattle.kn_rule.specs.Requests.{is_usable}
use Rattle.kn_rule.specs.Searches.{true_at, is_ruled_out, is_done_with, done_from}
use Rattle.kn_rule.specs.Laws.{IsRuledOut, SearchesEnd}

not_is : (b : Bool) → not b ≡ true → b ≡ false
not_is true e = absurd (cc)
not_is false e = refl

true_told : (x : Option Bool) → true_at x ≡ true → x ≡ Some true
true_told None e = absurd (cc)
true_told (Some b) e = ap Some e

or_told : (a b : Bool) → (a || b) ≡ true → (a ≡ true) ⊎ (b ≡ true)
or_told true b e = inl refl
or_told false b e = inr e

or_is : (a b : Bool) → (a ≡ true) ⊎ (b ≡ true) → (a || b) ≡ true
or_is true b h = refl
or_is false b (inl h) = absurd (cc)
or_is false b (inr h) = h

ruled_told : (class : ℕ) (refused : Bool) (x : Option (Option ℕ)) → is_ruled_out class refused x ≡ true →
    (w : ℕ) × (x ≡ Some (Some w)) × ((refused ≡ true) ⊎ (is_usable class w ≡ false))
ruled_told class refused None e = absurd (cc)
ruled_told class refused (Some None) e = absurd (cc)
ruled_told class refused (Some (Some w)) e = (w, refl, by (or_told refused (not (is_usable class w)) e))
  where
    by : (refused ≡ true) ⊎ (not (is_usable class w) ≡ true) → (refused ≡ true) ⊎ (is_usable class w ≡ false)
    by (inl h) = inl h
    by (inr h) = inr (not_is (is_usable class w) h)

and_told : (a b : Bool) → (a && b) ≡ true → (a ≡ true) × (b ≡ true)
and_told true b e = (refl, e)
and_told false b e = absurd (cc)

module _ (class : ℕ) (seen : List (Option ℕ)) (refused : List Bool) where
  one_told : (p : ℕ) → is_done_with class seen refused p ≡ true → IsRuledOut class seen refused p
  one_told p e = let t = ruled_told class (true_at (slice_get refused p)) (slice_get seen p) e in (t.0, t.1, by t.0 t.2)
    where
      by : (w : ℕ) → (true_at (slice_get refused p) ≡ true) ⊎ (is_usable class w ≡ false) →
          (slice_get refused p ≡ Some true) ⊎ (is_usable class w ≡ false)
      by w (inl h) = inl (true_told (slice_get refused p) h)
      by w (inr h) = inr h

  one_is : (p : ℕ) → IsRuledOut class seen refused p → is_done_with class seen refused p ≡ true
  one_is p h =
      ap (is_ruled_out class (true_at (slice_get refused p))) h.1
      ∙ or_is (true_at (slice_get refused p)) (not (is_usable class h.0)) (by h.0 h.2)
    where
      by : (w : ℕ) → (slice_get refused p ≡ Some true) ⊎ (is_usable class w ≡ false) →
          (true_at (slice_get refused p) ≡ true) ⊎ (not (is_usable class w) ≡ true)
      by w (inl r) = inl (ap true_at r)
      by w (inr u) = inr (ap not u)

  all_told : (from n : ℕ) → done_from class seen refused from n ≡ true → (k : ℕ) → k < n → IsRuledOut class seen refused (from + k)
  all_told from zero e k l = absurd (omega arith)
  all_told from (suc n) e k l =
      let h = and_told (is_done_with class seen refused (from + n)) (done_from class seen refused from n) e in
      split_at (λ i. i < suc n → IsRuledOut class seen refused (from + i)) n (λ _. one_told (from + n) h.0) k
      (λ ne l. all_told from n h.1 k (omega arith)) l

  all_is : (from n : ℕ) → ((k : ℕ) → k < n → IsRuledOut class seen refused (from + k)) → done_from class seen refused from n ≡ true
  all_is from zero f = refl
  all_is from (suc n) f =
      ap (λ b. b && done_from class seen refused from n) (one_is (from + n) (f n (omega arith))) ∙ all_is from n (λ k l. f k (omega arith))

pub searches_end : SearchesEnd
searches_end class seen refused from n = (all_told class seen refused from n, all_is class seen refused from n)
