-- The lists of objects and of what locals and globals hold, behind one write, stand for the graph behind it.
use Rattle.std.proofs.Common.{◌≡◌, ◌≢◌, ℕ, ◌+◌, ◌<◌, ◌≤◌, ◌⊎◌, inl, inr, Bool, true, false, nat_lt, cond, Option}
use Rattle.std.proofs.Common.{Some, None, List, [], ◌∷◌, ◌++◌, length}
use Rattle.std.proofs.Common.{slice_get, slice_set, slice_index_or, refl, sym, ap, subst, ◌∙◌, length-append, add-one, arith}
use Rattle.std.proofs.lemmas.Bool.{cases_order, lt-ltb, ltb-true}
use Rattle.std.proofs.lemmas.Bool.Decides.{eqb_tells}
use Rattle.std.proofs.lemmas.List.{get_or-set_same, get_or-set_other, length-set}
use Rattle.std.proofs.lemmas.Option.{slice_get-get_or, slice_get_within}
use Rattle.kn_base.specs.Functions.{upd, Tells}
use Rattle.kn_base.proofs.Updates.{upd_case, upd_case2, upd_here, upd_else}
use Rattle.kn_base.specs.declared.heap.Sizes.{Sizes}
use Rattle.kn_layout.specs.Layouts.{cell_size}
use Rattle.kn_graph.specs.Ground.{Ground}
use Rattle.kn_graph.specs.Graph.{Graph, Object, field_kind, newborn, pointers, shapes, with_birth, with_global, with_local, with_points}
use Rattle.kn_objects.specs.Holders.{KeptHolders, AreSized}
use Rattle.kn_objects.proofs.Fields.{get_push}
use Rattle.kn_cms_lists.specs.declared.cells.Cell.{Cell}
use Rattle.kn_cms_rule.specs.Words.{AreStacked, lengths, one_framed, words_before, words_taken}
use Rattle.kn_cms_lists.specs.Kept.{KeptCells, kind_in, point_of}
use Rattle.kn_cms.specs.Stands.{AreCellsOf, AreHoldersOf, IsCellOf}
use Rattle.kn_cms_lists.proofs.Writes.{set_upd_all}
use Rattle.kn_cms_rule.proofs.Stacked.{words_grow, words_same}

-- the field kind that is kept is that of the graph
module _ (z : Ground) (k : KeptCells) (g : Graph) (are : AreCellsOf k g) (n : ℕ) (near : n < g.born) where
  pub cell_there : (c : Cell) × (slice_get k.cells n ≡ Some c) × IsCellOf c g n
  cell_there =
      let c : Cell = slice_index_or k.cells n (record { address = 0; layout = 0; length = 0 }) in
      let e : slice_get k.cells n ≡ Some c = slice_get-get_or k.cells n _ (omega (arith, near, are.born)) in
      (c, e, are.each n c e)

  pub kind_told : (f : ℕ) → kind_in z (slice_get k.cells n) f ≡ field_kind (one_framed z) (shapes g n) f
  kind_told f =
      let c = cell_there.0 in let is = cell_there.2 in
      ap (λ (o : Option Cell). kind_in z o f) cell_there.1
      ∙ (ap (λ (l : ℕ). kind_in z (Some (record { address = c.address; layout = c.layout; length = l })) f) is.length
      ∙ ap (λ (l : ℕ). kind_in z (Some (record { address = c.address; layout = l; length = (g.object n).length })) f) is.layout)

-- fields of objects that lie one behind another have their own words, none behind the last word taken
module _ (g : Graph) (stacked : AreStacked g) where
  pub place_within : (n f : ℕ) → n < g.born → f < (g.object n).length → (g.object n).address + f ≤ words_taken g
  place_within n f near inside = let at = stacked n near in let grow = words_grow (lengths g) n g.born near in omega (arith, at, grow, inside)

  places_apart : (n m f h : ℕ) → n < m → m < g.born → f < (g.object n).length → (g.object n).address + f ≢ (g.object m).address + h
  places_apart n m f h less near inside e =
      let at = stacked n (omega (arith, less, near)) in let at' = stacked m near in let grow = words_grow (lengths g) n m less in
      omega (arith, at, at', grow, inside, e)

  pub places_differ : (n m f h : ℕ) → n ≢ m → n < g.born → m < g.born → f < (g.object n).length → h < (g.object m).length →
      (g.object n).address + f ≢ (g.object m).address + h
  places_differ n m f h ne near near' inside inside' = by (cases_order n m)
    where
      by : (n ≡ m) ⊎ ((n < m) ⊎ (m < n)) → (g.object n).address + f ≢ (g.object m).address + h
      by (inl e) = absurd (ne e)
      by (inr (inl less)) = places_apart n m f h less near' inside
      by (inr (inr more)) = λ e. places_apart m n h f more near inside' (sym e)

-- a place that is written is no place of another field
point_at : (points : List (Option ℕ)) (place : ℕ) (value : Option ℕ) (c : Cell) (f : ℕ) → (f < c.length → c.address + f ≢ place) →
    (b : Bool) → nat_lt f c.length ≡ b →
    cond b (slice_index_or (slice_set points place value) (c.address + f) None) None ≡ cond b (slice_index_or points (c.address + f) None) None
point_at points place value c f apart true e = get_or-set_other points place (c.address + f) value None (apart (ltb-true f c.length e))
point_at points place value c f apart false e = refl

point_else : (points : List (Option ℕ)) (place : ℕ) (value : Option ℕ) (o : Option Cell) (f : ℕ) →
    ((c : Cell) → o ≡ Some c → f < c.length → c.address + f ≢ place) → point_of (slice_set points place value) o f ≡ point_of points o f
point_else points place value None f apart = refl
point_else points place value (Some c) f apart = point_at points place value c f (apart c refl) (nat_lt f c.length) refl

-- a store
module _ (k : KeptCells) (g : Graph) (are : AreCellsOf k g) (stacked : AreStacked g) (n f : ℕ) (value : Option ℕ) (near : n < g.born)
    (c : Cell) (is : slice_get k.cells n ≡ Some c) (inside : f < c.length) (room : c.address + f < length k.points) where
  is_cell : IsCellOf c g n
  is_cell = are.each n c is

  at_place : c.address + f ≡ (g.object n).address + f
  at_place = ap (λ (a : ℕ). a + f) is_cell.address

  inside_object : f < (g.object n).length
  inside_object = subst (λ l. f < l) is_cell.length inside

  here : (h : ℕ) → Tells f h → point_of (slice_set k.points (c.address + f) value) (slice_get k.cells n) h ≡ upd (pointers g n) f value h
  here h (inl t) = subst (λ (h : ℕ). point_of (slice_set k.points (c.address + f) value) (slice_get k.cells n) h ≡ upd (pointers g n) f value h) t.1
      (ap (λ (o : Option Cell). point_of (slice_set k.points (c.address + f) value) o f) is
      ∙ (ap (λ b. cond b (slice_index_or (slice_set k.points (c.address + f) value) (c.address + f) None) None) (lt-ltb f c.length inside)
      ∙ (get_or-set_same k.points (c.address + f) value None room ∙ sym (upd_here (pointers g n) f value))))
  here h (inr t) = point_else k.points (c.address + f) value (slice_get k.cells n) h
      (λ d e less same. let one : c ≡ d = (let both : Some c ≡ Some d = sym is ∙ e in cc) in
      let at : c.address + h ≡ c.address + f = ap (λ (x : Cell). x.address + h) one ∙ same in t.1 (omega (arith, at)))
      ∙ (are.fields n h ∙ sym (upd_else (pointers g n) f value h t.1))

  other : (m h : ℕ) → n ≢ m → point_of (slice_set k.points (c.address + f) value) (slice_get k.cells m) h ≡ pointers g m h
  other m h ne = point_else k.points (c.address + f) value (slice_get k.cells m) h
      (λ d e less same.
      let near' : m < g.born = (let w = slice_get_within k.cells m d e in omega (arith, w, are.born)) in
      let is' = are.each m d e in
      places_differ g stacked m n h f (λ x. ne (sym x)) near' near (subst (λ l. h < l) is'.length less) inside_object
      (ap (λ (a : ℕ). a + h) (sym is'.address) ∙ (same ∙ at_place)))
      ∙ are.fields m h

  same_shape : (m : ℕ) → ((with_points g n f value).object m).address ≡ (g.object m).address
  same_shape m = upd_case (λ j (o : Object). o.address ≡ (g.object j).address) g.object n _ refl m (λ _. refl)

  same_layout : (m : ℕ) → ((with_points g n f value).object m).layout ≡ (g.object m).layout
  same_layout m = upd_case (λ j (o : Object). o.layout ≡ (g.object j).layout) g.object n _ refl m (λ _. refl)

  same_length : (m : ℕ) → ((with_points g n f value).object m).length ≡ (g.object m).length
  same_length m = upd_case (λ j (o : Object). o.length ≡ (g.object j).length) g.object n _ refl m (λ _. refl)

  pub stored_cells : AreCellsOf (record k { points = slice_set k.points (c.address + f) value }) (with_points g n f value)
  stored_cells = record {
    born = are.born;
    each = λ m d e. let is' = are.each m d e in record {
      address = is'.address ∙ sym (same_shape m);
      layout = is'.layout ∙ sym (same_layout m);
      length = is'.length ∙ sym (same_length m);
    };
    fields = λ m h. upd_case (λ j (o : Object). point_of (slice_set k.points (c.address + f) value) (slice_get k.cells j) h ≡ o.points h) g.object n
        (record (g.object n) { points = upd (g.object n).points f value }) (here h (eqb_tells f h)) m (λ ne. other m h ne);
    taken = are.taken ∙ words_same (lengths g) (lengths (with_points g n f value)) g.born (λ m _. sym (same_length m));
    fresh = λ w far.
        let inside' = place_within g stacked n f near inside_object in
        get_or-set_other k.points (c.address + f) w value None (λ e. let at = at_place in let all = are.taken in omega (arith, far, inside', at, e, all))
        ∙ are.fresh w far;
  }

-- a birth
none_either : (b : Bool) (x : Option ℕ) → x ≡ None → cond b x None ≡ None
none_either true x e = e
none_either false x e = refl

module _ (k : KeptCells) (g : Graph) (are : AreCellsOf k g) (i r layout fields : ℕ) (new : Cell)
    (is_new : new ≡ record { address = 1 + k.taken; layout = layout; length = fields }) (a : ℕ) (is_a : a ≡ 1 + k.taken) where
  more : (n : ℕ) → slice_get (k.cells ++ new ∷ []) n ≡ upd (slice_get k.cells) g.born (Some new) n
  more n = get_push k.cells new n ∙ ap (λ b. upd (slice_get k.cells) b (Some new) n) are.born

  cell_more : (n : ℕ) (c : Cell) → upd (slice_get k.cells) g.born (Some new) n ≡ Some c → IsCellOf c (with_birth g i r (newborn a layout fields)) n
  cell_more n c e =
      let is = upd_case2 (λ j (o : Option Cell) (x : Object). o ≡ Some c → (c.address ≡ x.address) × (c.layout ≡ x.layout) × (c.length ≡ x.length))
      (slice_get k.cells) g.object g.born (Some new) (newborn a layout fields)
      (λ e. let same : new ≡ c = cc in let is : c ≡ record { address = 1 + k.taken; layout = layout; length = fields } = sym same ∙ is_new in
      (ap (λ (x : Cell). x.address) is ∙ sym is_a, ap (λ (x : Cell). x.layout) is, ap (λ (x : Cell). x.length) is)) n
      (λ _ e. let old = are.each n c e in (old.address, old.layout, old.length)) e in
      record { address = is.0; layout = is.1; length = is.2 }

  point_more : (n f : ℕ) → point_of k.points (upd (slice_get k.cells) g.born (Some new) n) f ≡ pointers (with_birth g i r (newborn a layout fields)) n f
  point_more n f = upd_case2 (λ j (o : Option Cell) (x : Object). point_of k.points o f ≡ x.points f) (slice_get k.cells) g.object g.born (Some new)
      (newborn a layout fields) (ap (λ (c : Cell). point_of k.points (Some c) f) is_new
      ∙ none_either (nat_lt f fields) (slice_index_or k.points (1 + k.taken + f) None) (are.fresh (1 + k.taken + f) (omega arith))) n
      (λ _. are.fields n f)

  older : (n : ℕ) → n < g.born → lengths g n ≡ lengths (with_birth g i r (newborn a layout fields)) n
  older n near = sym (ap (λ (o : Object). o.length) (upd_else g.object g.born (newborn a layout fields) n (λ e. omega (arith, near, e))))

  newest : lengths (with_birth g i r (newborn a layout fields)) g.born ≡ fields
  newest = ap (λ (o : Object). o.length) (upd_here g.object g.born (newborn a layout fields))

  words_more : words_taken (with_birth g i r (newborn a layout fields)) ≡ k.taken + cell_size fields
  words_more =
      let all = words_same (lengths g) (lengths (with_birth g i r (newborn a layout fields))) g.born older in
      let last = ap cell_size newest in
      let taken = are.taken in
      ap (words_before (lengths (with_birth g i r (newborn a layout fields)))) (add-one g.born) ∙ omega (arith, all, last, taken)

  pub born_cells : AreCellsOf (record k { cells = k.cells ++ new ∷ []; taken = k.taken + cell_size fields }) (with_birth g i r (newborn a layout fields))
  born_cells = record {
    born = let long = length-append k.cells (new ∷ []) in omega (arith, long, are.born);
    each = λ n c e. cell_more n c (sym (more n) ∙ e);
    fields = λ n f. ap (λ (o : Option Cell). point_of k.points o f) (more n) ∙ point_more n f;
    taken = sym words_more;
    fresh = λ w far. are.fresh w (omega (arith, far));
  }

-- a local written, and a global
module _ (h : KeptHolders) (g : Graph) (are : AreHoldersOf h g) (z : Sizes) (sized : AreSized z h) (value : Option ℕ) where
  module _ (i r : ℕ) (near : i < z.threads) (small : r ≤ 15) where
    pub local_held : AreHoldersOf (record h { locals = slice_set h.locals i (slice_set (slice_index_or h.locals i []) r value) }) (with_local g i r value)
    local_held = record {
      locals = λ j q. upd_case (λ j (f : ℕ → Option ℕ).
          slice_index_or (slice_index_or (slice_set h.locals i (slice_set (slice_index_or h.locals i []) r value)) j []) q None ≡ f q)
          g.local i (upd (g.local i) r value)
          (ap (λ (row : List (Option ℕ)). slice_index_or row q None) (get_or-set_same h.locals i (slice_set (slice_index_or h.locals i []) r value) []
          (omega (arith, near, sized.threads)))
          ∙ set_upd_all (slice_index_or h.locals i []) None (g.local i) r value (let long = sized.locals i near in
          omega (arith, long, small)) (are.locals i) q)
          j (λ ne. ap (λ (row : List (Option ℕ)). slice_index_or row q None)
          (get_or-set_other h.locals i j (slice_set (slice_index_or h.locals i []) r value) [] (λ e. ne (sym e))) ∙ are.locals j q);
      globals = are.globals;
    }

    row_long : (j : ℕ) → j < z.threads → Tells i j →
        length (slice_index_or (slice_set h.locals i (slice_set (slice_index_or h.locals i []) r value)) j []) ≡ 16
    row_long j less (inl t) = subst (λ j. length (slice_index_or (slice_set h.locals i (slice_set (slice_index_or h.locals i []) r value)) j []) ≡ 16) t.1
        (ap length (get_or-set_same h.locals i (slice_set (slice_index_or h.locals i []) r value) [] (omega (arith, near, sized.threads)))
        ∙ (length-set (slice_index_or h.locals i []) r value ∙ sized.locals i near))
    row_long j less (inr t) =
        ap length (get_or-set_other h.locals i j (slice_set (slice_index_or h.locals i []) r value) [] (λ e. t.1 (sym e))) ∙ sized.locals j less

    pub local_sized : AreSized z (record h { locals = slice_set h.locals i (slice_set (slice_index_or h.locals i []) r value) })
    local_sized = record {
      threads = length-set h.locals i (slice_set (slice_index_or h.locals i []) r value) ∙ sized.threads;
      locals = λ j less. row_long j less (eqb_tells i j);
      globals = sized.globals;
      stable = sized.stable;
      weak = sized.weak;
      back = sized.back;
      counts = sized.counts;
    }

  module _ (i : ℕ) (near : i < z.globals) where
    pub global_held : AreHoldersOf (record h { globals = slice_set h.globals i value }) (with_global g i value)
    global_held = record {
      locals = are.locals;
      globals = set_upd_all h.globals None g.global i value (omega (arith, near, sized.globals)) are.globals;
    }

    pub global_sized : AreSized z (record h { globals = slice_set h.globals i value })
    global_sized = record {
      threads = sized.threads;
      locals = sized.locals;
      globals = length-set h.globals i value ∙ sized.globals;
      stable = sized.stable;
      weak = sized.weak;
      back = sized.back;
      counts = sized.counts;
    }
