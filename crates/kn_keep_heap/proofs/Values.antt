-- Values and their addresses.
use Rattle.std.proofs.Common.{◌≡◌, ◌≢◌, ℕ, ◌<◌, ◌≤◌, inl, inr, cond, eqb, Option, Some, None, refl, sym, ap, ◌∙◌, arith}
use Rattle.std.proofs.Common.{ne_eqb, eq-eqb}
use Rattle.std.proofs.lemmas.Bool.Decides.{eqb_tells}
use Rattle.kn_base.specs.Functions.{Tells}
use Rattle.kn_graph.specs.declared.calls.Reply.TheVariants as replies
use Rattle.kn_graph.specs.Ground.{Ground}
use Rattle.kn_graph.specs.Graph.{Graph, shapes, Lives}
use Rattle.kn_graph.specs.Sound.{IsSound, Alive}
use Rattle.kn_graph.specs.Answers.{ref_or_null, is_same}
use Rattle.kn_graph.proofs.Addresses.{one_lives}
use Rattle.kn_graph.proofs.Lengths.{address_positive}
use Rattle.kn_rule.specs.Outcomes.{ref_word}
use Rattle.kn_rule.specs.ObjectClauses.{address_of}

-- a local in range is one of the sixteen
pub below_sixteen : (r : ℕ) → r ≤ 15 → r < 16
below_sixteen r h = omega arith

module _ (z : Ground) (g : Graph) (s : IsSound z g) where
  pub positive : (n : ℕ) → n < g.born → 0 < (shapes g n).address
  positive n near = address_positive z (shapes g n) (s.cells n near)

  -- an object that is not condemned is not released
  pub lives : (n : ℕ) → Alive g.born (shapes g) (Some n) → Lives g.born (shapes g) n
  lives n a = (a.0, (s.flags n a.0).released a.1)

  -- a reference that was read is null where its word is 0
  pub ref_told : (x : Option ℕ) (w : ℕ) → Alive g.born (shapes g) x → w ≡ address_of (shapes g) x → ref_word w ≡ ref_or_null x
  ref_told None w a e = ap ref_word e
  ref_told (Some n) w a e =
      let p = positive n a.0 in
      let ne : w ≢ 0 = λ (h : w ≡ 0). let f : 0 ≡ (shapes g n).address = sym h ∙ e in absurd (omega arith) in
      ap (λ b. cond b replies.Null replies.Ref) (ne_eqb w 0 ne)

  -- a word that is not 0 names an object
  pub names : (x : Option ℕ) (w : ℕ) → w ≡ address_of (shapes g) x → 0 < w → (n : ℕ) × (x ≡ Some n)
  names None w e h = absurd (omega arith)
  names (Some n) w e h = (n, refl)

  -- two locals have one word exactly where they hold one object
  pub same_told : (x y : Option ℕ) → Alive g.born (shapes g) x → Alive g.born (shapes g) y →
      eqb (address_of (shapes g) x) (address_of (shapes g) y) ≡ is_same x y
  same_told None None a b = refl
  same_told None (Some m) a b = let p = positive m b.0 in ne_eqb 0 (shapes g m).address (λ h. absurd (omega arith))
  same_told (Some n) None a b = let p = positive n a.0 in ne_eqb (shapes g n).address 0 (λ h. absurd (omega arith))
  same_told (Some n) (Some m) a b = by (eqb_tells n m)
    where
      by : Tells n m → eqb (shapes g n).address (shapes g m).address ≡ eqb n m
      by (inl t) = eq-eqb (shapes g n).address (shapes g m).address (ap (λ k. (shapes g k).address) t.1) ∙ sym t.0
      by (inr t) =
          ne_eqb (shapes g n).address (shapes g m).address (λ h. t.1 (one_lives z g s n m (lives n a) (lives m b) h)) ∙ sym t.0
