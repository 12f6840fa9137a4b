-- The marking opens: what holds of marks and shares between two markings is what a marking begins with.
use Rattle.std.proofs.Common.{◌≡◌, ℕ, ◌+◌, ◌*◌, ◌<◌, Bool, true, false, refl, sym, subst, ◌∙◌, arith}
use Rattle.kn_base.specs.declared.places.Place.{Place}
use Rattle.kn_base.specs.declared.places.Place.TheVariants.{RootSet, Side, Body}
use Rattle.kn_graph.specs.Ground.{Ground}
use Rattle.kn_graph.specs.Graph.{Graph, shapes}
use Rattle.kn_graph.specs.Sound.{IsSound}
use Rattle.kn_marking.specs.declared.work.Work.{Work}
use Rattle.kn_marking.specs.Words.{gray, scanned}
use Rattle.kn_marking.specs.Marking.{Marking, Blackened}
use Rattle.kn_marking.proofs.Begins.{opens}
use Rattle.kn_rule.specs.MarkedHeap.{cell_limit, is_live_at, is_condemned_at, heap_of}
use Rattle.kn_rule.specs.Steps.{callers}
use Rattle.kn_rule.specs.ObjectClauses.{Headed}
use Rattle.kn_rule.specs.MarkClauses.{IsBlackOf, Rests}
use Rattle.kn_keep_heap.proofs.ByAddress.{LiesThere, live_found, live_there, condemned_is, one_there}

module _ (z : Ground) (g : Graph) (sound : IsSound z g) (word : Place → ℕ) (work : ℕ → Work)
    (headed : Headed z g.born (shapes g) (λ a. word (Side a)) (λ a. word (Body a)))
    (rests : Rests z g.paused g.born (shapes g) (λ a. word (Side a)) (λ j. word (RootSet j)) work) where
  -- what is told of the object at an address
  pub condemned_there : (a m : ℕ) → LiesThere (shapes g) a g.born m → is_condemned_at g.born (shapes g) a ≡ (shapes g m).condemned
  condemned_there a m l = condemned_is (shapes g) a g.born m l (λ k h. one_there z g sound k m h.0 l.0 (h.1 ∙ sym l.1))

  mark_there : (a m : ℕ) → LiesThere (shapes g) a g.born m → IsBlackOf g.paused (is_condemned_at g.born (shapes g) a) (word (Side a))
  mark_there a m l =
      subst (λ b. IsBlackOf g.paused b (word (Side a))) (sym (condemned_there a m l))
      (subst (λ b. IsBlackOf g.paused (shapes g m).condemned (word (Side b))) l.1 (rests.marks m l.0))

  mark_of : (a : ℕ) → is_live_at g.born (shapes g) a ≡ true → IsBlackOf g.paused (is_condemned_at g.born (shapes g) a) (word (Side a))
  mark_of a e = let n = live_found (shapes g) a g.born e in mark_there a n.0 n.1

  low_at : (a : ℕ) → a < cell_limit z.sizes → (b : Bool) → is_live_at g.born (shapes g) a ≡ b → word (Side a) < 4 * (g.paused + 1)
  low_at a l true e = let m = mark_of a e in let p = m.packs in let k = m.last in omega arith
  low_at a l false e =
      let none : word (Side a) ≡ 0 = headed.blank a l (λ n lives at.
      let h : true ≡ false = sym (live_there (shapes g) a g.born n (lives, at)) ∙ e in absurd (cc)) in
      omega (arith, none)

  blackened : Blackened (heap_of z g.born (shapes g) word) g.paused (λ a. word (Side a))
  blackened = record {
    aged = λ a l. let m = mark_of a l.1 in let p = m.packs in
        (λ c. let h = m.aged.0 c in omega arith, λ h. m.aged.1 (omega arith));
    coloured = λ a k l. let m = mark_of a l.1 in let p = m.packs in λ (e : word (Side a) ≡ 4 * k). absurd (omega arith);
    tinted = λ a k l. let m = mark_of a l.1 in let p = m.packs in (
      λ (e : word (Side a) ≡ gray k). absurd (omega arith),
      λ (e : word (Side a) ≡ scanned k). absurd (omega arith),
    );
  }

  pub opened : Marking (heap_of z g.born (shapes g) word) g.paused (g.paused + 1) (callers z.sizes) (λ a. word (Side a)) (λ j. word (RootSet j))
      work (z.sizes.threads + 2)
  opened = opens (heap_of z g.born (shapes g) word) g.paused (callers z.sizes) (λ a. word (Side a)) (λ j. word (RootSet j)) work rests.shares
      (λ a l. low_at a l (is_live_at g.born (shapes g) a) refl) blackened
