-- Words that stand for what one caller has, where one word and one caller change.
use Rattle.std.proofs.Common.{◌≡◌, ◌≢◌, inl, inr, ℕ, ◌<◌, Option, Some, None, sym, ap, ◌∙◌, subst}
use Rattle.std.proofs.lemmas.Bool.Decides.{eqb_tells}
use Rattle.kn_base.specs.Functions.{upd}
use Rattle.kn_marking.specs.Marking.{Tied}
use Rattle.kn_base.specs.Functions.{Tells}
use Rattle.kn_base.proofs.Updates.{upd_here, upd_else}
use Rattle.kn_marking.proofs.Changes.{upd_at}

some_same : (i j : ℕ) → Option.Some i ≡ Some j → i ≡ j
some_same i j e = cc

never : {A : Type 0} (h : Option ℕ) (j : ℕ) → h ≡ None → h ≡ Some j → A
never h j a b = let e : Option.None ≡ Some j = sym a ∙ b in absurd cc

module _ (n : ℕ) (Of : ℕ → Type 0) (word : ℕ → ℕ) (v : ℕ) (has : ℕ → Option ℕ) (t : Tied n Of word v has) where
  -- a word changes, that stands for nothing before and after
  module _ (i w : ℕ) (was : word i ≢ v) (is : w ≢ v) where
    touched_into : (j : ℕ) → Of j → upd word i w j ≡ v → Tells i j → (c : ℕ) × ((c < n) × (has c ≡ Some j))
    touched_into j o e (inl s) = absurd (is (sym (upd_at word i w j s.1) ∙ e))
    touched_into j o e (inr s) = t.into j o (sym (upd_else word i w j s.1) ∙ e)

    touched_back : (j c : ℕ) → Of j × (word j ≡ v) → Tells i j → Of j × (upd word i w j ≡ v)
    touched_back j c b (inl s) = absurd (was (ap word s.1 ∙ b.1))
    touched_back j c b (inr s) = (b.0, upd_else word i w j s.1 ∙ b.1)

    pub touched : Tied n Of (upd word i w) v has
    touched = record {
      into = λ j o e. touched_into j o e (eqb_tells i j);
      back = λ j c l h. touched_back j c (t.back j c l h) (eqb_tells i j);
      single = t.single;
    }

  -- a caller that had nothing takes i
  module _ (c i : ℕ) (less : c < n) (of : Of i) (was : word i ≢ v) (free : has c ≡ None) where
    taken_else : (j : ℕ) → (d : ℕ) × ((d < n) × (has d ≡ Some j)) → (d : ℕ) × ((d < n) × (upd has c (Some i) d ≡ Some j))
    taken_else j r = (r.0, (r.1.0, upd_else has c (Some i) r.0 (λ s. never (has c) j free (ap has s ∙ r.1.1)) ∙ r.1.1))

    taken_into : (j : ℕ) → Of j → upd word i v j ≡ v → Tells i j → (d : ℕ) × ((d < n) × (upd has c (Some i) d ≡ Some j))
    taken_into j o e (inl s) = (c, (less, upd_here has c (Some i) ∙ ap Option.Some s.1))
    taken_into j o e (inr s) = taken_else j (t.into j o (sym (upd_else word i v j s.1) ∙ e))

    taken_word : (j : ℕ) → Of j × (word j ≡ v) → Tells i j → Of j × (upd word i v j ≡ v)
    taken_word j b (inl s) = absurd (was (ap word s.1 ∙ b.1))
    taken_word j b (inr s) = (b.0, upd_else word i v j s.1 ∙ b.1)

    taken_mine : (j d : ℕ) → upd has c (Some i) d ≡ Some j → c ≡ d → i ≡ j
    taken_mine j d h s = some_same i j (sym (upd_at has c (Some i) d s) ∙ h)

    taken_back : (j d : ℕ) → d < n → upd has c (Some i) d ≡ Some j → Tells c d → Of j × (upd word i v j ≡ v)
    taken_back j d l h (inl s) = let m = taken_mine j d h s.1 in (subst Of m of, upd_at word i v j m)
    taken_back j d l h (inr s) = taken_word j (t.back j d l (sym (upd_else has c (Some i) d s.1) ∙ h)) (eqb_tells i j)

    taken_not : (j d : ℕ) → d < n → i ≡ j → has d ≡ Some j → ⊥
    taken_not j d l m h = was (ap word m ∙ (t.back j d l h).1)

    taken_single : (j d f : ℕ) → d < n → f < n → upd has c (Some i) d ≡ Some j → upd has c (Some i) f ≡ Some j → Tells c d → Tells c f →
        d ≡ f
    taken_single j d f ld lf hd hf (inl s) (inl u) = sym s.1 ∙ u.1
    taken_single j d f ld lf hd hf (inl s) (inr u) = absurd (taken_not j f lf (taken_mine j d hd s.1) (sym (upd_else has c (Some i) f u.1) ∙ hf))
    taken_single j d f ld lf hd hf (inr s) (inl u) = absurd (taken_not j d ld (taken_mine j f hf u.1) (sym (upd_else has c (Some i) d s.1) ∙ hd))
    taken_single j d f ld lf hd hf (inr s) (inr u) = t.single j d f ld lf (sym (upd_else has c (Some i) d s.1) ∙ hd)
        (sym (upd_else has c (Some i) f u.1) ∙ hf)

    pub taken : Tied n Of (upd word i v) v (upd has c (Some i))
    taken = record {
      into = λ j o e. taken_into j o e (eqb_tells i j);
      back = λ j d l h. taken_back j d l h (eqb_tells c d);
      single = λ j d f ld lf hd hf. taken_single j d f ld lf hd hf (eqb_tells c d) (eqb_tells c f);
    }

  -- the caller that has i leaves it
  module _ (c i w : ℕ) (less : c < n) (mine : has c ≡ Some i) (is : w ≢ v) where
    left_else : (j : ℕ) → i ≢ j → (d : ℕ) × ((d < n) × (has d ≡ Some j)) → (d : ℕ) × ((d < n) × (upd has c None d ≡ Some j))
    left_else j ne r = (r.0, (r.1.0, upd_else has c None r.0 (λ s. ne (some_same i j (sym mine ∙ (ap has s ∙ r.1.1)))) ∙ r.1.1))

    left_into : (j : ℕ) → Of j → upd word i w j ≡ v → Tells i j → (d : ℕ) × ((d < n) × (upd has c None d ≡ Some j))
    left_into j o e (inl s) = absurd (is (sym (upd_at word i w j s.1) ∙ e))
    left_into j o e (inr s) = left_else j s.1 (t.into j o (sym (upd_else word i w j s.1) ∙ e))

    left_word : (j d : ℕ) → d < n → c ≢ d → has d ≡ Some j → Tells i j → Of j × (upd word i w j ≡ v)
    left_word j d l ne h (inl s) = absurd (ne (t.single j c d less l (mine ∙ ap Option.Some s.1) h))
    left_word j d l ne h (inr s) = let b = t.back j d l h in (b.0, upd_else word i w j s.1 ∙ b.1)

    left_back : (j d : ℕ) → d < n → upd has c None d ≡ Some j → Tells c d → Of j × (upd word i w j ≡ v)
    left_back j d l h (inl s) = never (upd has c None d) j (upd_at has c None d s.1) h
    left_back j d l h (inr s) = left_word j d l s.1 (sym (upd_else has c None d s.1) ∙ h) (eqb_tells i j)

    left_single : (j d f : ℕ) → d < n → f < n → upd has c None d ≡ Some j → upd has c None f ≡ Some j → Tells c d → Tells c f → d ≡ f
    left_single j d f ld lf hd hf (inl s) u = never (upd has c None d) j (upd_at has c None d s.1) hd
    left_single j d f ld lf hd hf (inr s) (inl u) = never (upd has c None f) j (upd_at has c None f u.1) hf
    left_single j d f ld lf hd hf (inr s) (inr u) = t.single j d f ld lf (sym (upd_else has c None d s.1) ∙ hd) (sym (upd_else has c None f u.1) ∙ hf)

    pub left : Tied n Of (upd word i w) v (upd has c None)
    left = record {
      into = λ j o e. left_into j o e (eqb_tells i j);
      back = λ j d l h. left_back j d l h (eqb_tells c d);
      single = λ j d f ld lf hd hf. left_single j d f ld lf hd hf (eqb_tells c d) (eqb_tells c f);
    }
