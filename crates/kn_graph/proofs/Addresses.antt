-- An address names at most one object that is not released.
use Rattle.std.proofs.Common.{◌≡◌, ℕ, inl, inr, sym, ◌∙◌, arith}
use Rattle.std.proofs.lemmas.Bool.Decides.{eqb_tells}
use Rattle.kn_base.specs.Spans.{AreApart}
use Rattle.kn_base.specs.Functions.{Tells}
use Rattle.kn_graph.specs.Ground.{Ground}
use Rattle.kn_graph.specs.Graph.{Graph, shapes, words_of, Lives, Names}
use Rattle.kn_graph.specs.Sound.{IsSound}

module _ (z : Ground) (g : Graph) (s : IsSound z g) where
  not_apart : (n m : ℕ) → (g.object n).address ≡ (g.object m).address → AreApart (words_of (shapes g n)) (words_of (shapes g m)) → ⊥
  not_apart n m e (inl x) = omega arith
  not_apart n m e (inr x) = omega arith

  pub one_lives : (n m : ℕ) → Lives g.born (shapes g) n → Lives g.born (shapes g) m → (g.object n).address ≡ (g.object m).address → n ≡ m
  one_lives n m a b e = by (eqb_tells n m)
    where
      by : Tells n m → n ≡ m
      by (inl t) = t.1
      by (inr t) = absurd (not_apart n m e (s.apart n m a b t.1))

  pub one_named : (a n m : ℕ) → Names g a n → Names g a m → n ≡ m
  one_named a n m p q = one_lives n m p.lives q.lives (p.address ∙ sym q.address)

  pub named : (a n : ℕ) → Lives g.born (shapes g) n → (g.object n).address ≡ a → Names g a n
  named a n l e = record {
    lives = l;
    address = e;
    youngest = λ m later k f. let same = one_lives n m l k (e ∙ sym f) in absurd (omega arith);
  }
