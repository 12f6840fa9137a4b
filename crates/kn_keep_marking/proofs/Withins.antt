-- Each step of a marker is made at a place of the heap.
use Rattle.std.proofs.Common.{◌≡◌, ◌≢◌, ◌⊎◌, inl, inr, ℕ, ◌+◌, ◌<◌, ◌≤◌, Bool, cond, eqb, Some, refl, sym, subst}
use Rattle.std.proofs.Common.{ap, ◌∙◌, arith}
use Rattle.std.proofs.lemmas.Bool.{cases_lt}
use Rattle.std.proofs.lemmas.Bool.Decides.{eqb_tells}
use Rattle.std.proofs.lemmas.Bool.{lt-ltb, le-ltb}
use Rattle.kn_base.specs.declared.places.Place.{Place}
use Rattle.kn_base.specs.declared.places.Place.TheVariants.{Phase, Pending, RootSet, Local, Global, Node, Side, Body}
use Rattle.kn_base.specs.declared.kinds.Code.TheVariants as codes
use Rattle.kn_base.specs.Functions.{Tells}
use Rattle.kn_base.specs.Sizes.{word_count}
use Rattle.kn_graph.specs.Ground.{Ground, IsGoodGround}
use Rattle.kn_graph.specs.Graph.{Graph, shapes}
use Rattle.kn_layout.specs.declared.layouts.FieldKind.TheVariants.{Ref as of_ref}
use Rattle.kn_marking.specs.declared.work.Work.{Work}
use Rattle.kn_marking.specs.declared.work.Doing.{Doing}
use Rattle.kn_marking.specs.declared.work.Doing.TheVariants as doings
use Rattle.kn_marking.specs.declared.work.Child.{Child}
use Rattle.kn_marking.specs.declared.work.Child.TheVariants as children
use Rattle.kn_marking.specs.Heap as heaps
use Rattle.kn_marking.specs.Marking.{cell_of, set_of, Busy, Names, ChildFits}
use Rattle.kn_marking.proofs.Ends.{good_reachable}
use Rattle.kn_marking.proofs.Steps.{named_at}
use Rattle.kn_rule.specs.declared.steps.Kind.{Kind}
use Rattle.kn_rule.specs.declared.steps.Kind.TheVariants.{K17, K18, K19, K20, K21, K22, K23, K24}
use Rattle.kn_rule.specs.declared.steps.Action.{Action}
use Rattle.kn_rule.specs.Decoding.{phase_of, header_of}
use Rattle.kn_rule.specs.Places.{Within}
use Rattle.kn_rule.specs.Views.{State, views_of}
use Rattle.kn_rule.specs.Requests.{told_kind}
use Rattle.kn_rule.specs.MarkedHeap.{cell_limit, set_words, set_place, name_in_set, heap_of}
use Rattle.kn_rule.specs.MarkSteps.{IsMarker, MayMoveSet, MayLoadRoot, MayMoveMark, MayLoadCell}
use Rattle.kn_rule.specs.Steps.{callers}
use Rattle.kn_rule.specs.Allowed.{MayBe}
use Rattle.kn_rule.specs.MarkClauses.{IsHeaderRead}
use Rattle.kn_rule.specs.Rule.{Rule, RuleOf}
use Rattle.kn_keep_heap.proofs.CellLimit.{object_ends}
use Rattle.kn_keep_mark.specs.Laws.{IsOfMarker}
use Rattle.kn_keep_mark.proofs.Withins.{within_by}
use Rattle.kn_keep_marking.specs.Laws.{StepsLieWithin}
use Rattle.kn_keep_marking.proofs.Stands.{graph_sound, words_stand, sound_in_mark}
use Rattle.kn_keep_marking.proofs.Bridge.{object_there, header_is}
use Rattle.kn_keep_marking.proofs.SetLaws.{near, marks, rests, resting, fits}
use Rattle.kn_keep_marking.proofs.CellLaws.{told_below}
use Rattle.kn_keep_marking.proofs.MarkerKeeps.{mark_or_not}

module _ (z : Ground) (good : IsGoodGround z) (s : State) (g : Graph) (rule : RuleOf z g s.word s.page (views_of s.caller) s.history) (by : ℕ)
    (marker : IsMarker z by (s.caller by)) where
  abbrev InMark : Type 0
  InMark = (phase_of (s.word Phase)).code ≡ codes.Mark

  abbrev w : Work
  w = (s.caller by).work

  abbrev H : heaps.Heap
  H = heap_of z g.born (shapes g) s.word

  by_phase : InMark ⊎ (InMark → ⊥)
  by_phase = mark_or_not (phase_of (s.word Phase)).code

  limit : cell_limit z.sizes ≤ word_count z.sizes + 1
  limit = omega arith

  -- a claimed set is one of the heap's
  set_near : (j i : ℕ) → w.doing ≡ doings.Set j i → InMark ⊎ (InMark → ⊥) → j < z.sizes.threads + 2
  set_near j i is (inl e) = ((marks z good s g rule by marker e).marking.shares.claims.back j by (near z good s g rule by marker) (ap set_of is)).0
  set_near j i is (inr out) = absurd (subst Busy (sym is ∙ (resting z good s g rule by marker out).free) tt)

  due_near : (j v : ℕ) → w.due ≡ Some (j, v) → InMark ⊎ (InMark → ⊥) → j < z.sizes.threads + 2
  due_near j v is (inl e) = ((fits z good s g rule by marker e).due j v is).0
  due_near j v is (inr out) = ((rests z good s g rule by marker out).shares.due by j v (near z good s g rule by marker) is).0

  -- its words too
  abbrev LiesThere : Place → Type 0
  LiesThere p = Within z.sizes p

  name_near : (i : ℕ) → i < z.sizes.stable + z.sizes.back → (i < z.sizes.stable) ⊎ (z.sizes.stable ≤ i) → LiesThere (Node (name_in_set z.sizes i))
  name_near i l (inl less) =
      subst (λ k. LiesThere (Node k)) (sym (ap (λ b. cond b i (z.sizes.weak + i)) (lt-ltb i z.sizes.stable less))) (omega (arith, l, less))
  name_near i l (inr more) =
      subst (λ k. LiesThere (Node k)) (sym (ap (λ b. cond b i (z.sizes.weak + i)) (le-ltb i z.sizes.stable more))) (omega (arith, l, more))

  root_near : (j i : ℕ) → j < z.sizes.threads + 2 → i < set_words z.sizes j → Tells j z.sizes.threads → Tells j (z.sizes.threads + 1) →
      LiesThere (set_place z.sizes j i)
  root_near j i l m (inl t) u =
      subst (λ b. LiesThere (cond b (Global i) (cond (eqb j (z.sizes.threads + 1)) (Node (name_in_set z.sizes i)) (Local j i)))) (sym t.0)
      (subst (λ b. i < cond b z.sizes.globals (cond (eqb j (z.sizes.threads + 1)) (z.sizes.stable + z.sizes.back) 16)) t.0 m)
  root_near j i l m (inr t) (inl u) =
      subst (λ b. LiesThere (cond b (Global i) (cond (eqb j (z.sizes.threads + 1)) (Node (name_in_set z.sizes i)) (Local j i)))) (sym t.0)
      (subst (λ b. LiesThere (cond b (Node (name_in_set z.sizes i)) (Local j i))) (sym u.0)
      (name_near i (subst (λ b. i < cond b (z.sizes.stable + z.sizes.back) 16) u.0
      (subst (λ b. i < cond b z.sizes.globals (cond (eqb j (z.sizes.threads + 1)) (z.sizes.stable + z.sizes.back) 16)) t.0 m))
      (cases_lt i z.sizes.stable)))
  root_near j i l m (inr t) (inr u) =
      let ne = t.1 in let ne' = u.1 in
      let few : i < 16 = subst (λ b. i < cond b (z.sizes.stable + z.sizes.back) 16) u.0
      (subst (λ b. i < cond b z.sizes.globals (cond (eqb j (z.sizes.threads + 1)) (z.sizes.stable + z.sizes.back) 16)) t.0 m) in
      subst (λ b. LiesThere (cond b (Global i) (cond (eqb j (z.sizes.threads + 1)) (Node (name_in_set z.sizes i)) (Local j i)))) (sym t.0)
      (subst (λ b. LiesThere (cond b (Node (name_in_set z.sizes i)) (Local j i))) (sym u.0) (omega (arith, l, ne, ne'), few))

  -- a child, and a scanned cell, is an object
  named_live : InMark → (y : ℕ) → Names H w.doing y → y < cell_limit z.sizes
  named_live e y n =
      let sound = sound_in_mark z good s g rule e in
      let m = (marks z good s g rule by marker e).marking in
      (good_reachable H sound y (named_at H sound g.paused (phase_of (s.word Phase)).epoch (callers z.sizes) (λ a. s.word (Side a))
      (λ j. s.word (RootSet j)) (λ c. (s.caller c).work) (s.word Pending) m by (near z good s g rule by marker) w.doing y refl n)).0.0

  child_near : (c : Child) (y : ℕ) → w.child ≡ c → c ≢ children.NoChild →
      (ChildFits H (phase_of (s.word Phase)).epoch (λ a. s.word (Side a)) w.doing c → Names H w.doing y) → InMark ⊎ (InMark → ⊥) →
      y < cell_limit z.sizes
  child_near c y is some names (inl e) =
      named_live e y (names (subst (λ x. ChildFits H (phase_of (s.word Phase)).epoch (λ a. s.word (Side a)) w.doing x) is
      (fits z good s g rule by marker e).child))
  child_near c y is some names (inr out) = absurd (some (sym is ∙ (resting z good s g rule by marker out).no_child))

  cell_live : InMark → (x : ℕ) → cell_of w.doing ≡ Some x → heaps.Live H x
  cell_live e x is = ((marks z good s g rule by marker e).marking.shares.cells.back x by (near z good s g rule by marker) is).0

  cell_near : (d : Doing) (x : ℕ) → w.doing ≡ d → Busy d → cell_of d ≡ Some x → InMark ⊎ (InMark → ⊥) → x < cell_limit z.sizes
  cell_near d x is busy of (inl e) = (cell_live e x (ap cell_of is ∙ of)).0
  cell_near d x is busy of (inr out) = absurd (subst Busy (sym is ∙ (resting z good s g rule by marker out).free) busy)

  field_near : (x h i : ℕ) → w.doing ≡ doings.Cell x h i → told_kind z h i ≡ Some of_ref → InMark ⊎ (InMark → ⊥) →
      x + 1 + i < word_count z.sizes + 1
  field_near x h i is kind (inr out) = absurd (subst Busy (sym is ∙ (resting z good s g rule by marker out).free) tt)
  field_near x h i is kind (inl e) =
      let sound = graph_sound z good s g rule in
      let stand = words_stand z good s g rule e in
      let n = object_there z g sound s.word stand x (cell_live e x (ap cell_of is)) in
      let read : h ≡ s.word (Body x) = subst (λ d. IsHeaderRead (λ a. s.word (Body a)) d) is
      ((marks z good s g rule by marker e).headers by (near z good s g rule by marker)) in
      let size : (header_of h).length ≡ (shapes g n.0).length =
      ap (λ a. (header_of a).length) (read ∙ ap (λ a. s.word (Body a)) (sym n.1.1)) ∙ (header_is z g sound s.word stand n.0 n.1.0).1 in
      let below = told_below z h i of_ref kind in
      let ends = object_ends z.sizes (shapes g n.0) (sound.cells n.0 n.1.0.0).placed in
      let at = n.1.1 in let l = limit in
      omega (arith, size, below, ends, at, l)

module _ (z : Ground) (good : IsGoodGround z) (s : State) (by : ℕ) (here : ℕ → Bool) (r : Rule z s) where
  abbrev Lies : Place → Type 0
  Lies p = Within z.sizes p

  set_within : (p : Place) (a : Action) → MayMoveSet z by (s.caller by) p a → Lies p
  set_within p a (inl m) = let l = m.near in subst Lies (sym m.place) l
  set_within p a (inr (inl m)) =
      let l = due_near z good s r.0 r.1 by m.marker m.set m.old m.due (by_phase z good s r.0 r.1 by m.marker) in subst Lies (sym m.place) l
  set_within p a (inr (inr m)) =
      let l = set_near z good s r.0 r.1 by m.marker m.set m.word m.claims (by_phase z good s r.0 r.1 by m.marker) in subst Lies (sym m.place) l

  root_within : (p : Place) (a : Action) → MayLoadRoot z by (s.caller by) p a → Lies p
  root_within p a m =
      subst Lies (sym m.place) (root_near z good s r.0 r.1 by m.marker m.set m.word
      (set_near z good s r.0 r.1 by m.marker m.set m.word m.claims (by_phase z good s r.0 r.1 by m.marker)) m.near
      (eqb_tells m.set z.sizes.threads) (eqb_tells m.set (z.sizes.threads + 1)))

  side_within : (x : ℕ) → x < cell_limit z.sizes → Lies (Side x)
  side_within x l = omega (arith, l)

  mark_within : (p : Place) (a : Action) → MayMoveMark z by (s.caller by) p a → Lies p
  mark_within p a (inl m) =
      subst Lies (sym m.place) (side_within m.child (child_near z good s r.0 r.1 by m.marker (children.Met m.child) m.child m.is_met
      (λ e. cc) (λ h. h) (by_phase z good s r.0 r.1 by m.marker)))
  mark_within p a (inr (inl m)) = subst Lies (sym m.place) (side_within m.object m.near)
  mark_within p a (inr (inr m)) =
      subst Lies (sym m.place) (side_within m.child (child_near z good s r.0 r.1 by m.marker (children.Reserved m.child m.old) m.child
      m.is_reserved (λ e. cc) (λ h. h.0) (by_phase z good s r.0 r.1 by m.marker)))

  cell_within : (p : Place) (a : Action) → MayLoadCell z by (s.caller by) p a → Lies p
  cell_within p a (inl m) =
      let l = cell_near z good s r.0 r.1 by m.marker (doings.Header m.object) m.object m.scans tt refl (by_phase z good s r.0 r.1 by m.marker) in
      subst Lies (sym m.place) (side_within m.object l)
  cell_within p a (inr m) =
      subst Lies (sym m.place)
      (field_near z good s r.0 r.1 by m.marker m.object m.header m.field m.scans m.of_ref (by_phase z good s r.0 r.1 by m.marker))

  marker_within : (k : Kind) → IsOfMarker k → (p : Place) (a : Action) → MayBe z by (s.caller by) here k p a → Lies p
  marker_within K17 t p a m = set_within p a m
  marker_within K18 t p a m = root_within p a m
  marker_within K19 t p a m = subst Lies (sym m.place) (omega arith)
  marker_within K20 t p a m = mark_within p a m
  marker_within K21 t p a m = subst Lies (sym m.place) (omega arith)
  marker_within K22 t p a m = subst Lies (sym m.place) (side_within m.object m.near)
  marker_within K23 t p a m = cell_within p a m
  marker_within K24 t p a m =
      subst Lies (sym m.place) (side_within m.object (cell_near z good s r.0 r.1 by m.marker (doings.Cell m.object m.header m.field) m.object
      m.scans tt refl (by_phase z good s r.0 r.1 by m.marker)))
  marker_within _ t p a m = absurd t

  pub lies_within : (k : Kind) (p : Place) (a : Action) → MayBe z by (s.caller by) here k p a → Lies p
  lies_within = within_by z good s by here r marker_within

pub steps_lie_within : StepsLieWithin
steps_lie_within z s by here d good r m = lies_within z good s by here r d.kind d.place d.act m
