-- The three steps of a `set`, as writes of lists.
use Rattle.std.proofs.Common.{◌≡◌, ℕ, ◌+◌, ◌<◌, Bool, true, false, nat_lt, cond, Option, Some, None, ◌∷◌, drop, length}
use Rattle.std.proofs.Common.{slice_get, slice_set, slice_index, slice_index_or}
use Rattle.std.proofs.Common.{refl, sym, ap, subst, ◌∙◌, arith}
use Rattle.std.specs.Option.{IfSome}
use Rattle.std.proofs.lemmas.Bool.{ltb-true}
use Rattle.std.proofs.lemmas.List.{length-set}
use Rattle.kn_base.specs.Functions.{upd}
use Rattle.kn_layout.specs.declared.layouts.FieldKind.TheVariants.{Ref as of_ref}
use Rattle.kn_graph.specs.declared.calls.Call.{Call}
use Rattle.kn_graph.specs.declared.calls.Call.TheVariants.{Set}
use Rattle.kn_graph.specs.declared.calls.Reply.TheVariants as replies
use Rattle.kn_graph.specs.Ground.{Ground}
use Rattle.kn_graph.specs.Graph.{kinds_for, pointers, with_points}
use Rattle.kn_cms_lists.specs.declared.cells.Cell.{Cell}
use Rattle.kn_cms_rule.specs.declared.stages.Colour.TheVariants.{White}
use Rattle.kn_cms_rule.specs.declared.stages.Doing.{Doing}
use Rattle.kn_cms_rule.specs.declared.stages.Doing.TheVariants.{Free, Loaded, Shaded}
use Rattle.kn_cms_rule.specs.declared.stages.Stage.{Stage}
use Rattle.kn_cms_rule.specs.declared.stages.Stage.TheVariants.{Waiting, Marking, Looking, Finished}
use Rattle.kn_cms_rule.specs.Words.{one_framed}
use Rattle.kn_cms_rule.specs.State.{State, is_marking, shade}
use Rattle.kn_cms_rule.specs.Steps.{Aims, Loads, Shades, Stores, answered, loads, shades, stores}
use Rattle.kn_cms_rule.specs.MarkRule.{IsNullOrKept}
use Rattle.kn_cms_rule.specs.Rule.{IsAtStage, IsInMarking, IsInMiddle}
use Rattle.kn_cms_lists.specs.Kept.{Kept, answered_lists, calls_of_threads, kept_kind, kept_local, kept_point, shaded_list, with_kept_point}
use Rattle.kn_cms.specs.Stands.{StandsFor, HasRoom}
use Rattle.kn_cms.specs.Moves.{IsAt, ThreadMoves}
use Rattle.kn_cms_rule.proofs.CallLaws.{store_keeps}
use Rattle.kn_cms_rule.proofs.SetLaws.{load_keeps, shade_keeps}
use Rattle.kn_cms_rule.proofs.Histories.{kept_born}
use Rattle.kn_cms.proofs.NextCalls.{doing_near}
use Rattle.kn_cms_lists.proofs.Writes.{set_upd, shaded_told}
use Rattle.kn_cms.proofs.Answered.{answered_room, answered_stands, is_left}
use Rattle.kn_cms.proofs.Marked.{marked_stands}
use Rattle.kn_cms.proofs.CellLists.{place_within, stored_cells}
use Rattle.kn_cms.proofs.CallTurns.{held_born, held_kind, next_is}

-- in marking
pub in_marking : (s : State) (stage : Stage) → is_marking stage ≡ true → s.stage ≡ stage → (z : Ground) → IsAtStage z s s.stage → IsInMarking z s
in_marking s Waiting m e z at = absurd (cc)
in_marking s Marking m e z at = subst (IsAtStage z s) e at
in_marking s (Looking n f) m e z at = subst (IsAtStage z s) e at
in_marking s Finished m e z at = absurd (cc)

-- a kept value has a colour in the lists
module _ (k : Kept) (room : HasRoom k) (s : State) (h : StandsFor k s) where
  pub born_near : (n : ℕ) → n < s.graph.born → n < length k.colours
  born_near n near = let born = h.cells.born in let few = room.cells in let all = room.colours in omega (arith, near, born, few, all)

  pub kept_near : (m : IsInMarking (one_framed k.ground) s) (v : Option ℕ) → IsNullOrKept m.at s.graph.born v → IfSome v (λ n. n < length k.colours)
  kept_near m None kept = tt
  kept_near m (Some n) kept = born_near n (kept_born (one_framed k.ground) s.graph s.history m.at m.since n kept)

-- the first step
module _ (k : Kept) (i r f v : ℕ) (at : IsAt k i (Set r f v)) (free : slice_index_or k.doing i Free ≡ Free) (n : ℕ)
    (holds : kept_local k i r ≡ Some n) (kind : kept_kind k n f ≡ Some of_ref) where
  load : (s : State) → (h : StandsFor k s) → Loads (one_framed k.ground) s i
      (record s { doing = upd s.doing i (Loaded n f (pointers s.graph n f)) })
  load s h = record {
    object = n;
    field = f;
    is_free = (next_is k i (Set r f v) at s h free).is_free;
    aims = record {
      local = r;
      value = v;
      rest = drop (slice_index k.made i + 1) (calls_of_threads k.calls i);
      is_left = (next_is k i (Set r f v) at s h free).is_left;
      holds = sym (h.holders.locals i r) ∙ holds;
      kind = sym (held_kind k s h i r n f holds) ∙ kind;
    };
    after = refl;
  }

  pub load_moves : ThreadMoves k i (record k { doing = slice_set k.doing i (Loaded n f (kept_point k.cells n f)) })
  load_moves = record {
    ground = refl;
    calls = refl;
    stands = λ s h. (
      record s { doing = upd s.doing i (Loaded n f (pointers s.graph n f)) },
      marked_stands k
          (slice_set k.doing i (Loaded n f (kept_point k.cells n f))) k.stage k.colours s h (upd s.doing i (Loaded n f (pointers s.graph n f)))
          s.stage s.colour s.looked (λ j near. set_upd k.doing Free s.doing i (Loaded n f (kept_point k.cells n f)) k.ground.sizes.threads
          (doing_near k at.core.room i at.near (Set r f v) at.next) h.doing j near
          ∙ ap (λ (x : Option ℕ). upd s.doing i (Loaded n f x) j) (h.cells.fields n f)) h.colours h.stage refl
          (load_keeps (one_framed k.ground) (calls_of_threads k.calls) s _ i at.near h.rule (load s h)),
      loads (load s h),
    );
  }

-- the second step
module _ (k : Kept) (i : ℕ) (c : Call) (at : IsAt k i c) (n f : ℕ) (v : Option ℕ) (loaded : slice_index_or k.doing i Free ≡ Loaded n f v) where
  pub loaded_near : is_marking k.stage ≡ true → IfSome v (λ n. n < length k.colours)
  loaded_near marks =
      let h = at.core.stands in
      let m : IsInMarking (one_framed k.ground) at.core.state = in_marking at.core.state k.stage marks (sym h.stage) (one_framed k.ground) h.rule.at_stage in
      kept_near k at.core.room at.core.state h m v (m.rule.loaded i n f v at.near (sym (h.doing i at.near) ∙ loaded))

  colours_at : (s : State) (h : StandsFor k s) (b : Bool) → is_marking k.stage ≡ b → (m : ℕ) →
      slice_index_or (cond b (shaded_list k.colours v) k.colours) m White ≡ cond b (shade s.colour v) s.colour m
  colours_at s h true e m = shaded_told k.colours s.colour v (loaded_near e) h.colours m
  colours_at s h false e m = h.colours m

  shading : (s : State) → (h : StandsFor k s) → Shades (one_framed k.ground) s i (record s {
    doing = upd s.doing i (Shaded n f);
    colour = cond (is_marking s.stage) (shade s.colour v) s.colour;
  })
  shading s h = record { object = n; field = f; loaded = v; has_loaded = sym (h.doing i at.near) ∙ loaded; after = refl }

  pub shade_moves : ThreadMoves k i (record k {
    doing = slice_set k.doing i (Shaded n f);
    colours = cond (is_marking k.stage) (shaded_list k.colours v) k.colours;
  })
  shade_moves = record {
    ground = refl;
    calls = refl;
    stands = λ s h. (
      record s {
        doing = upd s.doing i (Shaded n f);
        colour = cond (is_marking s.stage) (shade s.colour v) s.colour;
      },
      marked_stands k
          (slice_set k.doing i (Shaded n f)) k.stage (cond (is_marking k.stage) (shaded_list k.colours v) k.colours) s h
          (upd s.doing i (Shaded n f)) s.stage (cond (is_marking s.stage) (shade s.colour v) s.colour) s.looked
          (set_upd k.doing Free s.doing i (Shaded n f) k.ground.sizes.threads (doing_near k at.core.room i at.near c at.next) h.doing)
          (λ m. colours_at s h (is_marking k.stage) refl m ∙ ap (λ b. cond (is_marking b) (shade s.colour v) s.colour m) h.stage) h.stage refl
          (shade_keeps (one_framed k.ground) (calls_of_threads k.calls) s _ i at.near h.rule (shading s h)),
      shades (shading s h),
    );
  }

-- the third step
module _ (k : Kept) (i : ℕ) (c : Call) (at : IsAt k i c) (n f : ℕ) (is_shaded : slice_index_or k.doing i Free ≡ Shaded n f) where
  pub aims : (s : State) → StandsFor k s → Aims (one_framed k.ground) s.graph i (s.left i) n f
  aims s h = subst (λ (d : Doing). IsInMiddle (one_framed k.ground) s.graph i (s.left i) d) (sym (h.doing i at.near)
      ∙ is_shaded) (h.rule.in_middle i at.near)

  -- its call is a `set` of that field of an object that a local holds
  pub is_set : (s : State) (h : StandsFor k s) → c ≡ Set (aims s h).local f (aims s h).value
  is_set s h =
      let a = aims s h in
      let both : c ∷ drop (slice_index k.made i + 1) (calls_of_threads k.calls i) ≡ Set a.local f a.value ∷ a.rest =
      sym (is_left k at.core.room i at.near c at.next k.cells k.holders k.colours replies.Ok 0 s h) ∙ a.is_left in cc

  pub object_born : (s : State) → StandsFor k s → n < s.graph.born
  object_born s h = held_born k s h i (aims s h).local n (h.holders.locals i (aims s h).local ∙ (aims s h).holds)

  module _ (cell : Cell) (is_cell : slice_get k.cells.cells n ≡ Some cell) where
    field_inside : (s : State) → StandsFor k s → f < (s.graph.object n).length
    field_inside s h = by (nat_lt f (s.graph.object n).length) refl (aims s h).kind
      where
        by : (b : Bool) → nat_lt f (s.graph.object n).length ≡ b →
            cond b (slice_get (kinds_for (slice_get (one_framed k.ground).layouts (s.graph.object n).layout)
            (s.graph.object n).length) f) None ≡ Some of_ref →
            f < (s.graph.object n).length
        by true e kind = ltb-true f (s.graph.object n).length e
        by false e kind = absurd (cc)

    inside : f < cell.length
    inside = let h = at.core.stands in
        subst (λ l. f < l) (sym (h.cells.each n cell is_cell).length) (field_inside at.core.state h)

    pub place_near : cell.address + f < length k.cells.points
    place_near =
        let s = at.core.state in let h = at.core.stands in let room = at.core.room in
        let within = place_within s.graph h.rule.stacked n f (object_born s h) (field_inside s h) in
        let address = (h.cells.each n cell is_cell).address in
        let taken = h.cells.taken in let most = room.taken in let long = room.points in
        omega (arith, within, address, taken, most, long)

module _ (k : Kept) (i r f v : ℕ) (at : IsAt k i (Set r f v)) (n : ℕ) (is_shaded : slice_index_or k.doing i Free ≡ Shaded n f)
    (cell : Cell) (is_cell : slice_get k.cells.cells n ≡ Some cell) where
  own_holds : (s : State) → StandsFor k s → s.graph.local i r ≡ Some n
  own_holds s h = let a = aims k i (Set r f v) at n f is_shaded s h in
      let same : Set r f v ≡ Set a.local f a.value = is_set k i (Set r f v) at n f is_shaded s h in
      let local : a.local ≡ r = cc in subst (λ q. s.graph.local i q ≡ Some n) local a.holds

  store : (s : State) → (h : StandsFor k s) → Stores (one_framed k.ground) s i
      (answered s i (drop (slice_index k.made i + 1) (calls_of_threads k.calls i)) (Set r f v) replies.Ok 0
      (with_points s.graph n f (s.graph.local i v)))
  store s h = record {
    object = n;
    field = f;
    has_shaded = sym (h.doing i at.near) ∙ is_shaded;
    aims = record {
      local = r;
      value = v;
      rest = drop (slice_index k.made i + 1) (calls_of_threads k.calls i);
      is_left = is_left k at.core.room i at.near (Set r f v) at.next k.cells k.holders k.colours replies.Ok 0 s h;
      holds = own_holds s h;
      kind = (aims k i (Set r f v) at n f is_shaded s h).kind;
    };
    after = refl;
  }

  stands : (s : State) → (h : StandsFor k s) →
      StandsFor (answered_lists (with_kept_point k cell f (s.graph.local i v)) i (Set r f v) replies.Ok 0)
      (answered s i (drop (slice_index k.made i + 1) (calls_of_threads k.calls i)) (Set r f v) replies.Ok 0
      (with_points s.graph n f (s.graph.local i v)))
  stands s h = answered_stands k at.core.room i at.near (Set r f v) at.next
      (record k.cells { points = slice_set k.cells.points (cell.address + f) (s.graph.local i v) }) k.holders k.colours replies.Ok 0 s h
      (with_points s.graph n f (s.graph.local i v)) s.colour
      (stored_cells k.cells s.graph h.cells h.rule.stacked n f (s.graph.local i v) (object_born k i (Set r f v) at n f is_shaded s h) cell is_cell
      (inside k i (Set r f v) at n f is_shaded cell is_cell) (place_near k i (Set r f v) at n f is_shaded cell is_cell))
      (record { locals = h.holders.locals; globals = h.holders.globals }) h.colours refl
      (store_keeps k.ground (calls_of_threads k.calls) s _ i at.near h.rule (store s h))

  pub store_moves : ThreadMoves k i (answered_lists (with_kept_point k cell f (kept_local k i v)) i (Set r f v) replies.Ok 0)
  store_moves = record {
    ground = refl;
    calls = refl;
    stands = λ s h. (
      answered s i (drop (slice_index k.made i + 1) (calls_of_threads k.calls i)) (Set r f v) replies.Ok 0
          (with_points s.graph n f (s.graph.local i v)),
      subst (λ (x : Option ℕ). StandsFor (answered_lists (with_kept_point k cell f x) i (Set r f v) replies.Ok 0)
          (answered s i (drop (slice_index k.made i + 1) (calls_of_threads k.calls i)) (Set r f v) replies.Ok 0
          (with_points s.graph n f (s.graph.local i v)))) (sym (h.holders.locals i v)) (stands s h),
      stores (store s h),
    );
  }

pub store_room : (k : Kept) (i : ℕ) (c : Call) → IsAt k i c → (f : ℕ) (cell : Cell) (value : Option ℕ) →
    HasRoom (answered_lists (with_kept_point k cell f value) i c replies.Ok 0)
store_room k i c at f cell value = let room = at.core.room in
    answered_room k room i at.near c at.next (record k.cells { points = slice_set k.cells.points (cell.address + f) value })
    k.holders k.colours replies.Ok 0 room.holders (length-set k.cells.points (cell.address + f) value) room.taken (omega arith) refl refl
