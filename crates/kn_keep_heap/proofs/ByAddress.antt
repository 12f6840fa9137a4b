-- The objects by address: which address an object lies at, and which object lies there.
use Rattle.std.proofs.Common.{◌≡◌, ◌≢◌, ℕ, zero, suc, inl, inr, Bool, true, false, cond, eqb, ◌&&◌, ◌||◌, not, refl, sym, ap, ◌∙◌}
use Rattle.std.proofs.Common.{arith, eqb-true, eq-eqb}
use Rattle.std.proofs.lemmas.Bool.Decides.{eqb_tells}
use Rattle.kn_base.specs.Functions.{Tells}
use Rattle.kn_graph.specs.Graph.{Graph, Shape, shapes, words_of, Lives}
use Rattle.kn_graph.specs.Ground.{Ground}
use Rattle.kn_graph.specs.Sound.{IsSound}
use Rattle.kn_rule.specs.MarkedHeap.{lies_at, is_live_at, is_condemned_at}
use Rattle.kn_keep_heap.proofs.Fields.{not_both, first_word}

both_true : (released here : Bool) → (not released && here) ≡ true → (released ≡ false) × (here ≡ true)
both_true true here e = absurd (cc)
both_true false true e = (refl, refl)
both_true false false e = absurd (cc)

module _ (shape : ℕ → Shape) (a : ℕ) where
  lies_is : (o : Shape) → lies_at o a ≡ true → (o.released ≡ false) × (o.address ≡ a)
  lies_is o e = let p = both_true o.released (eqb o.address a) e in (p.0, eqb-true o.address a p.1)

  lies_there : (o : Shape) → o.released ≡ false → o.address ≡ a → lies_at o a ≡ true
  lies_there o kept at = ap (λ b. not b && eqb o.address a) kept ∙ eq-eqb o.address a at

  -- an object lies there
  abbrev pub LiesThere : ℕ → ℕ → Type 0
  LiesThere n m = Lives n shape m × ((shape m).address ≡ a)

  found_at : (n : ℕ) (b : Bool) → lies_at (shape n) a ≡ b → is_live_at (suc n) shape a ≡ true →
      (is_live_at n shape a ≡ true → (m : ℕ) × LiesThere n m) → (m : ℕ) × LiesThere (suc n) m
  found_at n true e h more = let p = lies_is (shape n) e in (n, ((omega arith, p.0), p.1))
  found_at n false e h more =
      let r = more (sym (ap (λ b. b || is_live_at n shape a) e) ∙ h) in let l = r.1.0.0 in (r.0, ((omega arith, r.1.0.1), r.1.1))

  -- where one is told to lie there, one does
  pub live_found : (n : ℕ) → is_live_at n shape a ≡ true → (m : ℕ) × LiesThere n m
  live_found zero e = absurd (cc)
  live_found (suc n) e = found_at n (lies_at (shape n) a) refl e (live_found n)

  or_true : (b : Bool) → (b || true) ≡ true
  or_true true = refl
  or_true false = refl

  there_at : (n m : ℕ) → LiesThere (suc n) m → Tells m n → (LiesThere n m → is_live_at n shape a ≡ true) → is_live_at (suc n) shape a ≡ true
  there_at n m l (inl t) more =
      ap (λ b. b || is_live_at n shape a) (ap (λ k. lies_at (shape k) a) (sym t.1) ∙ lies_there (shape m) l.0.1 l.1)
  there_at n m l (inr t) more =
      let less = l.0.0 in let ne = t.1 in
      ap (λ b. lies_at (shape n) a || b) (more ((omega arith, l.0.1), l.1)) ∙ or_true (lies_at (shape n) a)

  -- and one that lies there is told to
  pub live_there : (n m : ℕ) → LiesThere n m → is_live_at n shape a ≡ true
  live_there zero m l = let h = l.0.0 in absurd (omega arith)
  live_there (suc n) m l = there_at n m l (eqb_tells m n) (live_there n m)

  condemned_by : (n m : ℕ) → LiesThere (suc n) m → (b : Bool) → lies_at (shape n) a ≡ b → ((k : ℕ) → LiesThere (suc n) k → k ≡ m) →
      (LiesThere n m → is_condemned_at n shape a ≡ (shape m).condemned) → is_condemned_at (suc n) shape a ≡ (shape m).condemned
  condemned_by n m l true e single more =
      let p = lies_is (shape n) e in
      ap (λ b. cond b (shape n).condemned (is_condemned_at n shape a)) e ∙ ap (λ k. (shape k).condemned) (single n ((omega arith, p.0), p.1))
  condemned_by n m l false e single more =
      let ne : m ≢ n = λ s. let h : true ≡ false = sym (lies_there (shape m) l.0.1 l.1) ∙ (ap (λ k. lies_at (shape k) a) s ∙ e) in cc in
      let less = l.0.0 in
      ap (λ b. cond b (shape n).condemned (is_condemned_at n shape a)) e ∙ more ((omega arith, l.0.1), l.1)

  -- it is the only one, so what is told of it is its own
  pub condemned_is : (n m : ℕ) → LiesThere n m → ((k : ℕ) → LiesThere n k → k ≡ m) → is_condemned_at n shape a ≡ (shape m).condemned
  condemned_is zero m l single = let h = l.0.0 in absurd (omega arith)
  condemned_is (suc n) m l single =
      condemned_by n m l (lies_at (shape n) a) refl single
      (λ k. condemned_is n m k (λ j h. let less = h.0.0 in single j ((omega arith, h.0.1), h.1)))

-- no two objects of a sound graph lie at one address
pub one_there : (z : Ground) (g : Graph) → IsSound z g → (n m : ℕ) → Lives g.born (shapes g) n → Lives g.born (shapes g) m →
    (shapes g n).address ≡ (shapes g m).address → n ≡ m
one_there z g s n m l k e = at (eqb_tells n m)
  where
    at : Tells n m → n ≡ m
    at (inl t) = t.1
    at (inr t) =
        absurd (not_both (words_of (shapes g n)) (words_of (shapes g m)) (shapes g n).address (shapes g m).address (s.apart n m l k t.1)
        (first_word (shapes g n)) (first_word (shapes g m)) e)
