-- Objects that lie one behind another.
use Rattle.std.proofs.Common.{◌≡◌, ℕ, zero, suc, ◌+◌, ◌*◌, ◌<◌, ◌≤◌, ◌⊎◌, inl, inr, refl, ap, subst, arith}
use Rattle.kn_base.specs.Sizes.{word_count}
use Rattle.kn_base.specs.Functions.{Tells}
use Rattle.std.proofs.lemmas.Bool.{cases_lt}
use Rattle.std.proofs.lemmas.Bool.Decides.{eqb_tells}
use Rattle.kn_layout.specs.Layouts.{cell_size}
use Rattle.kn_graph.specs.Ground.{Ground}
use Rattle.kn_graph.specs.Graph.{Graph, cell_at, IsLegalBirth}
use Rattle.kn_graph.specs.Growth.{Succeeds}
use Rattle.kn_cms_rule.specs.Words.{one_framed, words_before, words_taken, lengths, HasNoRoom, AreStacked}
use Rattle.kn_cms_rule.specs.Steps.{next_address}

pub words_same : (p q : ℕ → ℕ) (n : ℕ) → ((k : ℕ) → k < n → p k ≡ q k) → words_before p n ≡ words_before q n
words_same p q zero f = refl
words_same p q (suc n) f = omega (arith, words_same p q n (λ k h. f k (omega arith)), ap cell_size (f n (omega arith)))

pub words_grow : (p : ℕ → ℕ) (n m : ℕ) → n < m → words_before p n + cell_size (p n) ≤ words_before p m
words_grow p n zero h = absurd (omega arith)
words_grow p n (suc m) h = by (eqb_tells n m) (λ less. words_grow p n m less)
  where
    by : Tells n m → (n < m → words_before p n + cell_size (p n) ≤ words_before p m) → words_before p n + cell_size (p n) ≤ words_before p (suc m)
    by (inl t) rest = let e : words_before p n ≡ words_before p m = ap (words_before p) t.1 in
        let d : cell_size (p n) ≡ cell_size (p m) = ap (λ (k : ℕ). cell_size (p k)) t.1 in omega (arith, e, d)
    by (inr t) rest = let ne = t.1 in omega (arith, rest (omega arith))

module _ (base : Ground) (g : Graph) (stacked : AreStacked g) where
  -- the next cell is free, and lies in the one frame where there is room
  pub next_legal : (fields : ℕ) → ¬ HasNoRoom (one_framed base) g fields → IsLegalBirth (one_framed base) g (cell_at (next_address g) fields)
  next_legal fields room = record {
    in_frame = record {
      frame = 0;
      is_for_cells = omega arith;
      words = record { start = 1 + 0 * word_count base.sizes; len = word_count base.sizes };
      is_frame = refl;
      inside = (omega arith, by (cases_lt (word_count (one_framed base).sizes) (words_taken g + cell_size fields)));
    };
    free = λ n lives. let at = stacked n lives.0 in let grow = words_grow (lengths g) n g.born lives.0 in inl (omega arith);
  }
    where
      by : (word_count (one_framed base).sizes < words_taken g + cell_size fields) ⊎ (words_taken g + cell_size fields ≤ word_count
          (one_framed base).sizes) →
          next_address g + cell_size fields ≤ 1 + 0 * word_count base.sizes + word_count base.sizes
      by (inl less) = absurd (room less)
      by (inr h) = omega (arith, h)

  module _ (g' : Graph) (succeeds : Succeeds g g') where
    same_lengths : (k : ℕ) → k < g.born → lengths g' k ≡ lengths g k
    same_lengths k h = (succeeds.objects k h).length

    older_stacked : (n : ℕ) → n < g.born → (g'.object n).address ≡ 1 + words_before (lengths g') n
    older_stacked n h = omega (
      arith,
      (succeeds.objects n h).address,
      stacked n h,
      words_same (lengths g') (lengths g) n (λ k less. same_lengths k (omega arith)),
    )

    -- where no object is born
    pub still_stacked : g'.born ≡ g.born → AreStacked g'
    still_stacked same n h = older_stacked n (omega (arith, same))

    -- where one is born behind the others
    pub more_stacked : g'.born ≡ g.born + 1 → (g'.object g.born).address ≡ next_address g → AreStacked g'
    more_stacked one at n h = by (eqb_tells g.born n)
      where
        by : Tells g.born n → (g'.object n).address ≡ 1 + words_before (lengths g') n
        by (inl t) = subst (λ (k : ℕ). (g'.object k).address ≡ 1 + words_before (lengths g') k) t.1
            (omega (arith, at, words_same (lengths g') (lengths g) g.born same_lengths))
        by (inr t) = let ne = t.1 in older_stacked n (omega (arith, one))
