-- The places that a marker passes over hold no object.
use Rattle.std.proofs.Common.{◌≡◌, ◌⊎◌, inl, inr, ℕ, zero, suc, ◌+◌, ◌-◌, ◌<◌, ◌≤◌, Bool, true, false, cond, eqb}
use Rattle.std.proofs.Common.{Option, Some, None, refl, sym}
use Rattle.std.proofs.Common.{ap, ◌∙◌, arith}
use Rattle.std.proofs.lemmas.Bool.{cases_order}
use Rattle.kn_base.specs.declared.places.Place.{Place}
use Rattle.kn_base.specs.declared.places.Place.TheVariants.{Local, Global, Node, Body}
use Rattle.kn_layout.specs.declared.layouts.FieldKind.{FieldKind}
use Rattle.kn_layout.specs.declared.layouts.FieldKind.TheVariants.{Ref as of_ref, Int as of_int}
use Rattle.kn_graph.specs.Ground.{Ground}
use Rattle.kn_graph.specs.Graph.{Shape}
use Rattle.kn_marking.specs.declared.work.Doing.{Doing}
use Rattle.kn_marking.specs.declared.work.Doing.TheVariants as doings
use Rattle.kn_marking.specs.Heap.{Heap}
use Rattle.kn_marking.specs.Marking.{place, ref, Empty}
use Rattle.kn_rule.specs.Decoding.{header_of}
use Rattle.kn_rule.specs.Requests.{told_kind}
use Rattle.kn_rule.specs.MarkedHeap.{object_in, object_named, object_if, is_of_ref, first_from, next_ref, place_behind, set_place, set_holds, name_in_set}
use Rattle.kn_rule.specs.MarkedHeap.{heap_of}
use Rattle.kn_rule.specs.MarkClauses.{IsHeaderRead}

first_at : (test : ℕ → Bool) (n k j : ℕ) → k ≤ j → ((j ≡ k) ⊎ ((j < k) ⊎ (k < j))) → (b : Bool) → test k ≡ b →
    j < cond b k (first_from test n (k + 1)) → (k + 1 ≤ j → j < first_from test n (k + 1) → test j ≡ false) → test j ≡ false
first_at test n k j l o true s h more = absurd (omega arith)
first_at test n k j l (inl o) false s h more = ap test o ∙ s
first_at test n k j l (inr (inl o)) false s h more = absurd (omega arith)
first_at test n k j l (inr (inr o)) false s h more = more (omega arith) h

-- no number before the first one that the test takes is taken
first_none : (test : ℕ → Bool) (n k j : ℕ) → k ≤ j → j < first_from test n k → test j ≡ false
first_none test zero k j l h = absurd (omega arith)
first_none test (suc n) k j l h = first_at test n k j l (cases_order j k) (test k) refl h (λ m i. first_none test n (k + 1) j m i)

field_none : (k : Option FieldKind) (w y : ℕ) → is_of_ref k ≡ false → object_if k w ≡ Some y → ⊥
field_none None w y s e = cc
field_none (Some of_ref) w y s e = cc
field_none (Some of_int) w y s e = cc

module _ (z : Ground) (born : ℕ) (shape : ℕ → Shape) (word : Place → ℕ) where
  abbrev H : Heap
  H = heap_of z born shape word

  -- a word of a root set is read as the heap has it
  pub root_is : (j i : ℕ) → H.root j i ≡ set_holds z.sizes j (word (set_place z.sizes j i))
  root_is j i = by (eqb j z.sizes.threads) (eqb j (z.sizes.threads + 1))
    where
      by : (a b : Bool) →
          cond a (object_in (word (Global i))) (cond b (object_named (word (Node (name_in_set z.sizes i)))) (object_in (word (Local j i))))
          ≡ cond a (object_in (word (cond a (Global i) (cond b (Node (name_in_set z.sizes i)) (Local j i)))))
          (cond b (object_named (word (cond a (Global i) (cond b (Node (name_in_set z.sizes i)) (Local j i)))))
          (object_in (word (cond a (Global i) (cond b (Node (name_in_set z.sizes i)) (Local j i))))))
      by true b = refl
      by false true = refl
      by false false = refl

  passes : (x h k i y : ℕ) → h ≡ word (Body x) → k ≤ i → i < next_ref z h k → H.field x i ≡ Some y → ⊥
  passes x h k i y s l m e =
      let none = first_none (λ f. is_of_ref (told_kind z h f)) ((header_of h).length - k) k i l m in
      field_none (told_kind z h i) (word (Body (x + 1 + i))) y none (ap (λ a. object_if (told_kind z a i) (word (Body (x + 1 + i)))) s ∙ e)

  -- between the place reached and the one behind it there is none that holds an object
  pub next_empty : (d : Doing) → IsHeaderRead (λ a. word (Body a)) d → Empty H d (place d + 1) (place_behind z d)
  next_empty doings.Free r k y a b c e = absurd (omega arith)
  next_empty (doings.Set j i) r k y a b c e = absurd (omega arith)
  next_empty (doings.Header x) r k y a b c e = absurd (omega arith)
  next_empty (doings.Cell x h i) r k y a b c e = passes x h (i + 1) k y r a b e

  pub first_empty : (x h : ℕ) → h ≡ word (Body x) → Empty H (doings.Cell x h 0) 0 (next_ref z h 0)
  first_empty x h s k y a b c e = passes x h 0 k y s (omega arith) b e

  -- nor from the place reached on, where that one holds none
  pub none_empty : (d : Doing) (p : ℕ) → ref H d (place d) ≡ None → Empty H d (place d + 1) p → Empty H d (place d) p
  none_empty d p none em k y a b c e = at (cases_order k (place d))
    where
      at : (k ≡ place d) ⊎ ((k < place d) ⊎ (place d < k)) → ⊥
      at (inl o) = let q : Option.None ≡ Some y = sym none ∙ (ap (ref H d) (sym o) ∙ e) in cc
      at (inr (inl o)) = omega arith
      at (inr (inr o)) = em k y (omega arith) b c e
