-- The clauses on owned frames, where what one view has of one frame changes and its word does not.
use Rattle.std.proofs.Common.{◌≡◌, ◌≢◌, ℕ, Option, Some, refl, sym, subst, ap, ◌∙◌}
use Rattle.kn_base.specs.Functions.{upd}
use Rattle.kn_base.proofs.Updates.{upd_here, upd_else, split_at}
use Rattle.kn_graph.specs.Ground.{Ground}
use Rattle.kn_rule.specs.declared.positions.Position.{Position}
use Rattle.kn_rule.specs.Decoding.{frame_of}
use Rattle.kn_rule.specs.Views.{Open}
use Rattle.kn_rule.specs.FrameClauses.{Framed}
use Rattle.kn_rule.specs.CallerClauses.{Owners}

module _ (own : ℕ → ℕ → Option Open) (by k : ℕ) (x : Option Open) where
  abbrev pub gets : ℕ → ℕ → Option Open
  gets = upd own by (upd (own by) k x)

  pub gets_hit : upd own by (upd (own by) k x) by k ≡ x
  gets_hit = ap (λ (f : ℕ → Option Open). f k) (upd_here own by (upd (own by) k x)) ∙ upd_here (own by) k x

  pub gets_else : (c j : ℕ) → by ≢ c → upd own by (upd (own by) k x) c j ≡ own c j
  gets_else c j n = ap (λ (f : ℕ → Option Open). f j) (upd_else own by (upd (own by) k x) c n)

  pub gets_other : (c j : ℕ) → k ≢ j → upd own by (upd (own by) k x) c j ≡ own c j
  gets_other c j n = split_at (λ c. upd own by (upd (own by) k x) c j ≡ own c j) by (ap (λ (f : ℕ → Option Open). f j)
      (upd_here own by (upd (own by) k x)) ∙ upd_else (own by) k x j n) c (λ ne. gets_else c j ne)

  -- by cases on whether this is the frame that changed
  pub gets_case : (P : ℕ → ℕ → Option Open → Type 0) → P by k x → (c j : ℕ) → (by ≢ c → P c j (own c j)) →
      (k ≢ j → P c j (own c j)) →
      P c j (upd own by (upd (own by) k x) c j)
  gets_case P here c j a b =
      split_at (λ c. (by ≢ c → P c j (own c j)) → (k ≢ j → P c j (own c j)) → P c j (upd own by (upd (own by) k x) c j)) by
      (λ a b. split_at (λ j. (k ≢ j → P by j (own by j)) → P by j (upd own by (upd (own by) k x) by j)) k
      (λ _. subst (P by k) (sym gets_hit) here) j (λ ne b. subst (P by j) (sym (gets_other by j ne)) (b ne)) b)
      c (λ ne a b. subst (P c j) (sym (gets_else c j ne)) (a ne)) a b

some_same : {A : Type 0} (a b : A) → Option.Some a ≡ Some b → a ≡ b
some_same a b e = cc

-- the free spans or the cursor change
module _ (own : ℕ → ℕ → Option Open) (by k : ℕ) (old new : Open) (has : own by k ≡ Some old) (same : new.word ≡ old.word) where
  pub owned_before : (c j : ℕ) (o : Open) → upd own by (upd (own by) k (Some new)) c j ≡ Some o →
      (y : Open) × (own c j ≡ Some y) × (y.word ≡ o.word)
  owned_before c j o e = gets_case own by k (Some new) (λ c j x. x ≡ Some o → (y : Open) × (own c j ≡ Some y) × (y.word ≡ o.word))
      (λ e. (old, has, sym same ∙ ap (λ (y : Open). y.word) (some_same new o e))) c j (λ _ e. (o, e, refl)) (λ _ e. (o, e, refl)) e

  pub owned_after : (c j : ℕ) (o : Open) → own c j ≡ Some o → (y : Open) × (upd own by (upd (own by) k (Some new)) c j ≡ Some y)
  owned_after c j o e = gets_case own by k (Some new) (λ c j x. own c j ≡ Some o → (y : Open) × (x ≡ Some y)) (λ _. (new, refl)) c j (λ _ e. (o, e))
      (λ _ e. (o, e)) e

  pub framed_same : (n frames : ℕ) (word : ℕ → ℕ) → Framed n frames word own → Framed n frames word (upd own by (upd (own by) k (Some new)))
  framed_same n frames word r = record {
    packs = r.packs;
    named = λ p l e. let h = r.named p l e in (h.0, owned_after (frame_of (word p)).seat p h.1.0 h.1.1);
    owning = λ p c o l e. let y = owned_before c p o e in let h = r.owning p c y.0 l y.1 in (h.0, h.1 ∙ y.2, h.2, h.3);
  }

  pub owners_same : (z : Ground) (phase : ℕ) (position : ℕ → Position) → Owners z phase position own →
      Owners z phase position (upd own by (upd (own by) k (Some new)))
  owners_same z phase position r = record { each = λ c p o l e. let y = owned_before c p o e in r.each c p y.0 l y.1 }
