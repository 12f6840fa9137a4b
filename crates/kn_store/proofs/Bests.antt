-- The best of some frames and one more.
use Rattle.std.proofs.Common.{◌≡◌, ℕ, ◌+◌, ◌<◌, ◌≤◌, ◌⊎◌, inl, inr, true}
use Rattle.std.proofs.Common.{List, Some, slice_get, refl, sym, ap, ◌∙◌, subst, arith}
use Rattle.std.proofs.lemmas.Bool.{cases_lt}
use Rattle.std.proofs.lemmas.Option.{same_Some}
use Rattle.kn_base.specs.declared.frame_word.FrameWord.{FrameWord}
use Rattle.kn_base.specs.declared.kinds.FrameKind.{FrameKind}
use Rattle.kn_base.specs.declared.kinds.FrameKind.TheVariants as kinds
use Rattle.kn_rule.specs.Decoding.{frame_of}
use Rattle.kn_rule.specs.Requests.{is_usable_as}
use Rattle.kn_store.specs.declared.best.Best.{Best}
use Rattle.kn_store.specs.declared.finder.Seen.{Seen}
use Rattle.kn_store.specs.Search.{IsOpen, IsRank, KeepsBest, rank, rank_of}

good_rank : (class : ℕ) (v : FrameWord) (k : FrameKind) → is_usable_as class v k ≡ true → rank_of k < 4
good_rank class v kinds.Vacant e = omega arith
good_rank class v kinds.Empty e = omega arith
good_rank class v kinds.Ready e = omega arith
good_rank class v kinds.Used e = absurd (cc)
good_rank class v kinds.Unswept e = omega arith
good_rank class v kinds.Owned e = absurd (cc)

-- a frame that may be claimed has no rank of one that may not
open_rank : (class : ℕ) (s : Seen) → IsOpen class s → rank s < 4
open_rank class s o = good_rank class (frame_of s.word) (frame_of s.word).kind o.0

module _ (class : ℕ) (seen : List Seen) (n : ℕ) (t : Seen) (at : slice_get seen n ≡ Some t) where
  -- what is said of each frame before this one, and of this one, is said of each up to this one
  up_to : (P : ℕ → Seen → Type 0) → ((j : ℕ) (u : Seen) → j < n → slice_get seen j ≡ Some u → P j u) → P n t →
      (j : ℕ) (u : Seen) → j < n + 1 → slice_get seen j ≡ Some u → P j u
  up_to P before this j u near there = by (cases_lt j n)
    where
      by : (j < n) ⊎ (n ≤ j) → P j u
      by (inl less) = before j u less there
      by (inr more) =
          let is : n ≡ j = omega arith in
          subst (λ k. P k u) is (subst (P n) (same_Some t u (sym at ∙ (ap (slice_get seen) is ∙ there))) this)

  module _ (i r k : ℕ) where
    takes : KeepsBest class seen n i r → IsRank class t k → k < r → KeepsBest class seen (n + 1) n k
    takes (inl (s, b, e)) (inl (o, is)) less =
        inl (
          t,
          record {
            near = omega arith;
            at = at;
            fit = o;
            best = up_to (λ j u. IsOpen class u → (rank t < rank u) ⊎ ((rank t ≡ rank u) × (n ≤ j)))
                (λ j u near there fit. by u (b.best j u near there fit)) (λ fit. inr (refl, omega arith));
          },
          is,
        )
      where
        by : (u : Seen) {j : ℕ} → (rank s < rank u) ⊎ ((rank s ≡ rank u) × (i ≤ j)) → (rank t < rank u) ⊎ ((rank t ≡ rank u) × (n ≤ j))
        by u (inl more) = inl (omega arith)
        by u (inr (same, behind)) = inl (omega arith)
    takes (inl (s, b, e)) (inr (o, is)) less = let few = open_rank class s b.fit in absurd (omega arith)
    takes (inr (none, e)) (inl (o, is)) less =
        inl (
          t,
          record {
            near = omega arith;
            at = at;
            fit = o;
            best = up_to (λ j u. IsOpen class u → (rank t < rank u) ⊎ ((rank t ≡ rank u) × (n ≤ j)))
                (λ j u near there fit. absurd (none j u near there fit)) (λ fit. inr (refl, omega arith));
          },
          is,
        )
    takes (inr (none, e)) (inr (o, is)) less = absurd (omega arith)

    stays : KeepsBest class seen n i r → IsRank class t k → r ≤ k → KeepsBest class seen (n + 1) i r
    stays (inl (s, b, e)) h more =
        let near = b.near in
        inl (
          s,
          record {
            near = omega arith;
            at = b.at;
            fit = b.fit;
            best = up_to (λ j u. IsOpen class u → (rank s < rank u) ⊎ ((rank s ≡ rank u) × (i ≤ j))) b.best (by h);
          },
          e,
        )
      where
        among : (rank s < rank t) ⊎ (rank t ≤ rank s) → rank s ≤ rank t → i < n → (rank s < rank t) ⊎ ((rank s ≡ rank t) × (i ≤ n))
        among (inl less) e l = inl less
        among (inr same) e l = inr (omega arith, omega arith)

        by : IsRank class t k → IsOpen class t → (rank s < rank t) ⊎ ((rank s ≡ rank t) × (i ≤ n))
        by (inl (o, is)) fit = among (cases_lt (rank s) (rank t)) (omega arith) b.near
        by (inr (o, is)) fit = absurd (o fit)
    stays (inr (none, e)) (inl (o, is)) more = let few = open_rank class t o in absurd (omega arith)
    stays (inr (none, e)) (inr (o, is)) more = inr (up_to (λ j u. IsOpen class u → ⊥) none o, e)

-- where one frame more is seen, it is the best, or the best stays
pub better_keeps : (class : ℕ) (seen : List Seen) (n : ℕ) (t : Seen) (b b' : Best) (k : ℕ) → slice_get seen n ≡ Some t →
    KeepsBest class seen n b.number b.rank → IsRank class t k → (k < b.rank → b' ≡ record { number = n; rank = k }) →
    (b.rank ≤ k → b' ≡ b) → KeepsBest class seen (n + 1) b'.number b'.rank
better_keeps class seen n t b b' k at keeps is better same = by (cases_lt k b.rank)
  where
    by : (k < b.rank) ⊎ (b.rank ≤ k) → KeepsBest class seen (n + 1) b'.number b'.rank
    by (inl less) =
        subst (λ (c : Best). KeepsBest class seen (n + 1) c.number c.rank) (sym (better less))
        (takes class seen n t at b.number b.rank k keeps is less)
    by (inr more) =
        subst (λ (c : Best). KeepsBest class seen (n + 1) c.number c.rank) (sym (same more))
        (stays class seen n t at b.number b.rank k keeps is more)
