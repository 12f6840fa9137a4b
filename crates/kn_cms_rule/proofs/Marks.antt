-- The rule of marking, where one of its parts changed.
use Rattle.std.proofs.Common.{◌≡◌, ℕ, ◌+◌, ◌<◌, ◌≤◌, ◌⊎◌, inl, inr, Bool, true, Option, refl, sym, subst, arith}
use Rattle.kn_base.specs.Functions.{upd}
use Rattle.kn_base.proofs.Updates.{upd_case}
use Rattle.kn_graph.specs.Ground.{Ground}
use Rattle.kn_graph.specs.Graph.{Graph, pointers}
use Rattle.kn_graph.specs.Reachable.{IsReachable}
use Rattle.kn_cms_rule.specs.declared.stages.Colour.{Colour}
use Rattle.kn_cms_rule.specs.declared.stages.Colour.TheVariants.{Black}
use Rattle.kn_cms_rule.specs.declared.stages.Doing.{Doing}
use Rattle.kn_cms_rule.specs.declared.stages.Doing.TheVariants.{Loaded, Shaded}
use Rattle.kn_cms_rule.specs.State.{is_coloured, shade, IsRefField}
use Rattle.kn_cms_rule.specs.MarkRule.{MarkRule, IsNullOrColoured, IsKept, IsNullOrKept, IsFieldKept, HoldKept, FieldsKept, NewerBlack}
use Rattle.kn_cms_rule.proofs.Shades.{shade_grows, shade_black, black_shade, shade_kept, still_coloured, roots_still, field_still, or_still, kept_more}
use Rattle.kn_cms_rule.proofs.Shades.{value_more}

module _ (z : Ground) (at g : Graph) (colour : ℕ → Colour) (looked : ℕ → ℕ → Bool) (doing : ℕ → Doing)
    (r : MarkRule z at g colour looked doing) where
  -- a kept value becomes gray
  pub mark_shaded : (v : Option ℕ) → IsNullOrKept at g.born v → MarkRule z at g (shade colour v) looked doing
  mark_shaded v kept =
      let grows = shade_grows colour v in record {
        roots = roots_still at colour (shade colour v) grows r.roots;
        newer = λ n a b. black_shade colour v n (r.newer n a b);
        fields = λ n f q. field_still at colour (shade colour v) grows (pointers at n f) (pointers g n f) (looked n f) (r.fields n f q);
        blacks = λ n f near b. r.blacks n f near (shade_black colour v n b);
        loads = λ i n f w near d a. or_still at colour (shade colour v) grows (pointers at n f) (r.loads i n f w near d a);
        shades = λ i n f near d a. still_coloured at colour (shade colour v) grows (pointers at n f) (r.shades i n f near d a);
        held = r.held;
        loaded = r.loaded;
        coloured = shade_kept colour at g.born v r.coloured kept;
      }

  -- an object becomes black whose reference fields were looked at
  module _ (n : ℕ) (had : is_coloured (colour n) ≡ true)
      (all : (f : ℕ) → IsRefField z at n f → looked n f ≡ true) where
    black_grows : (m : ℕ) → is_coloured (colour m) ≡ true → is_coloured (upd colour n Black m) ≡ true
    black_grows m e = upd_case (λ k (c : Colour). is_coloured (colour k) ≡ true → is_coloured c ≡ true) colour n Black (λ _. refl) m (λ _ h. h) e

    pub mark_black : MarkRule z at g (upd colour n Black) looked doing
    mark_black = record {
      roots = roots_still at colour (upd colour n Black) black_grows r.roots;
      newer = λ m a b. upd_case (λ k (c : Colour). colour k ≡ Black → c ≡ Black) colour n Black (λ _. refl) m (λ _ h. h) (r.newer m a b);
      fields = λ m f q. field_still at colour (upd colour n Black) black_grows (pointers at m f) (pointers g m f) (looked m f) (r.fields m f q);
      blacks = λ m f near b. upd_case (λ k (c : Colour). k < at.born → c ≡ Black → IsRefField z at k f → looked k f ≡ true) colour n Black
          (λ _ _. all f) m (λ _ h e. r.blacks m f h e) near b;
      loads = λ i m f w near d a. or_still at colour (upd colour n Black) black_grows (pointers at m f) (r.loads i m f w near d a);
      shades = λ i m f near d a. still_coloured at colour (upd colour n Black) black_grows (pointers at m f) (r.shades i m f near d a);
      held = r.held;
      loaded = r.loaded;
      coloured = λ m. upd_case (λ k (c : Colour). is_coloured c ≡ true →
          IsKept at g.born k) colour n Black (λ _. r.coloured n had) m (λ _. r.coloured m);
    }

  -- a field whose value of now is null or coloured was looked at
  module _ (n f : ℕ) (is : IsNullOrColoured colour (pointers g n f)) where
    seen_here : IsFieldKept colour (pointers at n f) (pointers g n f) (looked n f) → IsFieldKept colour (pointers at n f) (pointers g n f) true
    seen_here (inl h) = inr (subst (IsNullOrColoured colour) h.0 is)
    seen_here (inr h) = inr h

    seen_fields : FieldsKept at (pointers g) colour (upd looked n (upd (looked n) f true))
    seen_fields m e q = upd_case (λ k (l : ℕ → Bool). IsReachable at k → IsFieldKept colour (pointers at k e) (pointers g k e) (l e))
        looked n (upd (looked n) f true)
        (λ q. upd_case (λ j (b : Bool). IsFieldKept colour (pointers at n j) (pointers g n j) b) (looked n) f true
        (seen_here (r.fields n f q)) e (λ _. r.fields n e q)) m (λ _ q. r.fields m e q) q

    pub seen_more : (m e : ℕ) → looked m e ≡ true → upd looked n (upd (looked n) f true) m e ≡ true
    seen_more m e h = upd_case (λ k (l : ℕ → Bool). looked k e ≡ true → l e ≡ true) looked n (upd (looked n) f true)
        (λ h. upd_case (λ j (b : Bool). looked n j ≡ true → b ≡ true) (looked n) f true (λ _. refl) e (λ _ h. h) h) m (λ _ h. h) h

    pub mark_looked : MarkRule z at g colour (upd looked n (upd (looked n) f true)) doing
    mark_looked = record {
      roots = r.roots;
      newer = r.newer;
      fields = seen_fields;
      blacks = λ m e near b k. seen_more m e (r.blacks m e near b k);
      loads = r.loads;
      shades = r.shades;
      held = r.held;
      loaded = r.loaded;
      coloured = r.coloured;
    }

  -- a thread goes on to something else
  module _ (i : ℕ) (d : Doing)
      (load : (n f : ℕ) (v : Option ℕ) → d ≡ Loaded n f v → n < at.born → (v ≡ pointers at n f) ⊎ IsNullOrColoured colour (pointers at n f))
      (shade : (n f : ℕ) → d ≡ Shaded n f → n < at.born → IsNullOrColoured colour (pointers at n f))
      (loaded : (n f : ℕ) (v : Option ℕ) → d ≡ Loaded n f v → IsNullOrKept at g.born v) where
    pub mark_doing : MarkRule z at g colour looked (upd doing i d)
    mark_doing = record {
      roots = r.roots;
      newer = r.newer;
      fields = r.fields;
      blacks = r.blacks;
      loads = λ j n f v near. upd_case (λ k (x : Doing). x ≡ Loaded n f v → n < at.born →
          (v ≡ pointers at n f) ⊎ IsNullOrColoured colour (pointers at n f))
          doing i d (load n f v) j (λ _. r.loads j n f v near);
      shades = λ j n f near. upd_case (λ k (x : Doing). x ≡ Shaded n f → n < at.born → IsNullOrColoured colour (pointers at n f))
          doing i d (shade n f) j (λ _. r.shades j n f near);
      held = r.held;
      loaded = λ j n f v near. upd_case (λ k (x : Doing). x ≡ Loaded n f v → IsNullOrKept at g.born v)
          doing i d (loaded n f v) j (λ _. r.loaded j n f v near);
      coloured = r.coloured;
    }

  -- the graph goes on, and what is held in it is kept
  module _ (g' : Graph) (more : g.born ≤ g'.born) (held : HoldKept at g'.born g'.local g'.global (pointers g')) where
    -- no object is born
    pub mark_written : g'.born ≡ g.born → FieldsKept at (pointers g') colour looked → MarkRule z at g' colour looked doing
    mark_written same fields = record {
      roots = r.roots;
      newer = λ n a b. r.newer n a (omega (arith, same));
      fields = fields;
      blacks = r.blacks;
      loads = r.loads;
      shades = r.shades;
      held = held;
      loaded = λ i n f v near d. value_more at g.born g'.born more v (r.loaded i n f v near d);
      coloured = λ n e. kept_more at g.born g'.born more n (r.coloured n e);
    }

    -- a black object is born
    module _ (since : at.born ≤ g.born) (one : g'.born ≡ g.born + 1) (old : (n f : ℕ) → n < g.born → pointers g' n f ≡ pointers g n f)
        (reach : (n : ℕ) → IsReachable at n → n < at.born) where
      born_grows : (m : ℕ) → is_coloured (colour m) ≡ true → is_coloured (upd colour g.born Black m) ≡ true
      born_grows m e = upd_case (λ k (c : Colour). is_coloured (colour k) ≡ true → is_coloured c ≡ true) colour g.born Black (λ _. refl) m (λ _ h. h) e

      born_newer : NewerBlack at g'.born (upd colour g.born Black)
      born_newer n a b = upd_case (λ k (c : Colour). at.born ≤ k → k < g'.born → c ≡ Black) colour g.born Black (λ _ _. refl) n
          (λ ne a b. r.newer n a (omega (arith, one, ne))) a b

      pub mark_born : MarkRule z at g' (upd colour g.born Black) looked doing
      mark_born = record {
        roots = roots_still at colour (upd colour g.born Black) born_grows r.roots;
        newer = born_newer;
        fields = λ n f q. let near = reach n q in field_still at colour (upd colour g.born Black) born_grows (pointers at n f) (pointers g' n f) (looked n f)
            (subst (λ x. IsFieldKept colour (pointers at n f) x (looked n f)) (sym (old n f (omega arith))) (r.fields n f q));
        blacks = λ n f near b. upd_case (λ k (c : Colour). k < at.born → c ≡ Black → IsRefField z at k f → looked k f ≡ true) colour g.born Black
            (λ h _. absurd (omega arith)) n (λ _ h e. r.blacks n f h e) near b;
        loads = λ i n f v near d a. or_still at colour (upd colour g.born Black) born_grows (pointers at n f) (r.loads i n f v near d a);
        shades = λ i n f near d a. still_coloured at colour (upd colour g.born Black) born_grows (pointers at n f) (r.shades i n f near d a);
        held = held;
        loaded = λ i n f v near d. value_more at g.born g'.born more v (r.loaded i n f v near d);
        coloured = λ n. upd_case (λ k (c : Colour). is_coloured c ≡ true → IsKept at g'.born k) colour g.born Black
            (λ _. inr (since, omega (arith, one))) n (λ _ e. kept_more at g.born g'.born more n (r.coloured n e));
      }
