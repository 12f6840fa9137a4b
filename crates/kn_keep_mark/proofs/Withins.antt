-- A step that is allowed is made at a place of the heap.
use Rattle.std.proofs.Common.{◌≡◌, ℕ, ◌+◌, ◌<◌, ◌≤◌, Bool, Option, Some, None, refl, sym, subst, ap, ◌∙◌, arith}
use Rattle.std.proofs.Common.{◌⊎◌, inl, inr}
use Rattle.kn_base.specs.declared.numbers.Span.{Span}
use Rattle.kn_base.specs.declared.places.Place.{Place}
use Rattle.kn_base.specs.Sizes.{frame_count, word_count}
use Rattle.kn_base.specs.Spans.{LiesIn}
use Rattle.kn_base.specs.SpanLists.{HasWord}
use Rattle.kn_layout.specs.declared.layouts.FieldKind.{FieldKind}
use Rattle.kn_layout.specs.declared.layouts.FieldKind.TheVariants.{Ref as of_ref, Int as of_int}
use Rattle.kn_graph.specs.declared.calls.Call.{Call}
use Rattle.kn_graph.specs.declared.calls.Call.TheVariants.{Copy, Clear, Get, Set, Put, Read, GlobalSet, GlobalGet}
use Rattle.kn_graph.specs.Ground.{Ground, IsGoodGround}
use Rattle.kn_graph.specs.Graph.{Graph, shapes, words_of}
use Rattle.kn_graph.specs.Sound.{Alive}
use Rattle.kn_rule.specs.declared.steps.Kind.{Kind}
use Rattle.kn_rule.specs.declared.steps.Kind.TheVariants.{K1, K2, K3, K4, K5, K6}
use Rattle.kn_rule.specs.declared.steps.Kind.TheVariants.{K7, K8, K9, K10, K11, K12, K13, K14, K15, K16}
use Rattle.kn_rule.specs.declared.steps.Kind.TheVariants.{K17, K18, K19, K20, K21, K22, K23, K24}
use Rattle.kn_rule.specs.declared.steps.Action.{Action}
use Rattle.kn_rule.specs.declared.positions.Position.{Position}
use Rattle.kn_rule.specs.declared.positions.Position.TheVariants.{Calling, Writing}
use Rattle.kn_rule.specs.declared.parts.Taken.{Taken}
use Rattle.kn_rule.specs.FrameSpans.{frame_span}
use Rattle.kn_rule.specs.Places.{Within}
use Rattle.kn_rule.specs.Views.{State, views_of, local_of}
use Rattle.kn_rule.specs.Requests.{field_of, told_kind}
use Rattle.kn_rule.specs.Allowed.{MayBe, MayGo, MayStopCollecting, MayWant, MayCount, MayWriteAt, MayLoadAt, MaySetAt, MayReadGlobalAt}
use Rattle.kn_rule.specs.Allowed.{MaySetGlobalAt, MayBirth, MayClearFor}
use Rattle.kn_rule.specs.HistoryClauses.{IsRightCall}
use Rattle.kn_rule.specs.ObjectClauses.{address_of}
use Rattle.kn_rule.specs.Rule.{Rule, RuleOf}
use Rattle.kn_rule.proofs.FrameSpans.{in_heap, is_span_of}
use Rattle.kn_keep_mark.specs.Laws.{IsOfMarker}
use Rattle.kn_keep_heap.proofs.Values.{names, below_sixteen}
use Rattle.kn_keep_heap.proofs.Fields.{first_word, field_word, kind_below}
use Rattle.kn_keep_heap.proofs.ReadLaws.{ranges, few, snd}
use Rattle.kn_keep_heap.proofs.FieldLaws.{object_named, object_alive, kind_is, place_is}
use Rattle.kn_keep_heap.proofs.NextWord.{request_two}
use Rattle.kn_keep_heap.proofs.FirstWord.{asked_positive}

module _ (z : Ground) (good : IsGoodGround z) (s : State) (by : ℕ) (less : by < z.sizes.threads) (here : ℕ → Bool) (g : Graph)
    (rule : RuleOf z g s.word s.page (views_of s.caller) s.history) where
  in_frame : (p a : ℕ) (cell : Span) → p < frame_count z.sizes → LiesIn cell (frame_span z.sizes p) → HasWord cell a → a < word_count z.sizes + 1
  in_frame p a cell l i h = let e = (in_heap z.sizes good.sizes p l).2 in let i1 = i.1 in let h1 = h.1 in omega arith

  in_object : (n a : ℕ) → n < g.born → HasWord (words_of (shapes g n)) a → a < word_count z.sizes + 1
  in_object n a near h =
      let p = ((snd z s by less g rule).cells n near).placed in
      let l : p.frame < frame_count z.sizes = let x = p.is_for_cells in omega arith in
      in_frame p.frame a (words_of (shapes g n)) l
      (subst (λ (x : Span). LiesIn (words_of (shapes g n)) x) (sym (is_span_of z.sizes p.frame p.words p.is_frame)) p.inside) h

  local_within : (r w : ℕ) (q : Position) → (s.caller by).position ≡ q → MayWriteAt z by (s.caller by) here q r w → r < 16
  local_within r w (Writing i x n) is m = let h : i < 16 = subst (λ p. IsRightCall z p) is (rule.formed.call by less) in let e = m.0 in omega arith
  local_within r w (Calling (Copy i j)) is m = let h = (ranges z s by less g rule (Copy i j) is).0 in let e = m.0 in omega arith
  local_within r w (Calling (Clear i)) is m = let h = (ranges z s by less g rule (Clear i) is).0 in let e = m.0 in omega arith
  local_within r w _ is m = absurd m

  -- a header, and a field
  header_within : (t b : ℕ) → t ≤ 15 → b ≡ local_of (s.caller by) t → 0 < b → b < word_count z.sizes + 1
  header_within t b fit e pos =
      let S = snd z s by less g rule in
      let small = below_sixteen t fit in
      let o = names z g S (g.local by t) b (e ∙ rule.localed.views by t less small) pos in
      let al = subst (λ x. Alive g.born (shapes g) x) o.1 (S.roots.locals by t) in
      let at : b ≡ (shapes g o.0).address = e ∙ (rule.localed.views by t less small ∙ ap (address_of (shapes g)) o.1) in
      subst (λ x. x < word_count z.sizes + 1) (sym at) (in_object o.0 (shapes g o.0).address al.0 (first_word (shapes g o.0)))

  field_within : (call : Call) (t i : ℕ) (k : FieldKind) → (s.caller by).position ≡ Calling call → field_of call ≡ Some (t, i, k) → t ≤ 15 →
      (hd : ℕ) →
      (s.caller by).header ≡ Some hd → 0 < local_of (s.caller by) t → told_kind z hd i ≡ Some k → (b : ℕ) →
      b ≡ local_of (s.caller by) t + 1 + i →
      b < word_count z.sizes + 1
  field_within call t i k is asks fit hd has pos kind b e =
      let small = below_sixteen t fit in
      let o = object_named z s by less here g rule call t i k is asks small hd has pos kind in
      let a = object_alive z s by less here g rule call t i k is asks small hd has pos kind in
      let kd = kind_is z s by less here g rule call t i k is asks small hd has pos kind in
      let p = place_is z s by less here g rule call t i k is asks small hd has pos kind in
      subst (λ x. x < word_count z.sizes + 1) (sym (e ∙ ap (λ y. y + 1 + i) p))
      (in_object o.0 _ a.0 (field_word (shapes g o.0) i (kind_below z (shapes g o.0) i k kd)))

  load_within : (b : ℕ) (q : Position) (h : Option ℕ) → (s.caller by).position ≡ q → (s.caller by).header ≡ h →
      MayLoadAt z by (s.caller by) here q h b → b < word_count z.sizes + 1
  load_within b (Calling (Get r t i)) None is eh m = header_within t b (ranges z s by less g rule (Get r t i) is).1.0 m.0 m.1
  load_within b (Calling (Set t i r)) None is eh m = header_within t b (ranges z s by less g rule (Set t i r) is).0 m.0 m.1
  load_within b (Calling (Put t i w)) None is eh m = header_within t b (ranges z s by less g rule (Put t i w) is).0 m.0 m.1
  load_within b (Calling (Read t i)) None is eh m = header_within t b (ranges z s by less g rule (Read t i) is).0 m.0 m.1
  load_within b (Calling (Get r t i)) (Some hd) is eh m =
      field_within (Get r t i) t i of_ref is refl (ranges z s by less g rule (Get r t i) is).1.0 hd eh m.1 m.2 b m.0
  load_within b (Calling (Read t i)) (Some hd) is eh m =
      field_within (Read t i) t i of_int is refl (ranges z s by less g rule (Read t i) is).0 hd eh m.1 m.2 b m.0
  load_within b _ _ is eh m = absurd m

  set_within : (b w : ℕ) (q : Position) (h : Option ℕ) → (s.caller by).position ≡ q → (s.caller by).header ≡ h →
      MaySetAt z by (s.caller by) here q h b w → b < word_count z.sizes + 1
  set_within b w (Calling (Set t i r)) (Some hd) is eh m =
      field_within (Set t i r) t i of_ref is refl (ranges z s by less g rule (Set t i r) is).0 hd eh m.0.1 m.0.2 b m.0.0
  set_within b w (Calling (Put t i v)) (Some hd) is eh m =
      field_within (Put t i v) t i of_int is refl (ranges z s by less g rule (Put t i v) is).0 hd eh m.0.1 m.0.2 b m.0.0
  set_within b w (Calling (Set t i r)) None is eh m = absurd m.0
  set_within b w (Calling (Put t i v)) None is eh m = absurd m.0
  set_within b w _ _ is eh m = absurd m

  global_within : (i : ℕ) (q : Position) → (s.caller by).position ≡ q → MayReadGlobalAt z by (s.caller by) here q i → i < z.sizes.globals
  global_within i (Calling (GlobalGet r j)) is m = let h = (ranges z s by less g rule (GlobalGet r j) is).1.0 in let e = m in omega arith
  global_within i _ is m = absurd m

  store_within : (i w : ℕ) (q : Position) → (s.caller by).position ≡ q → MaySetGlobalAt z by (s.caller by) here q i w → i < z.sizes.globals
  store_within i w (Calling (GlobalSet j r)) is m = let h = (ranges z s by less g rule (GlobalSet j r) is).0 in let e = m.0 in omega arith
  store_within i w _ is m = absurd m

  cell_within : (t : Taken) (a : ℕ) → (s.caller by).taken ≡ Some t → HasWord t.span a → a < word_count z.sizes + 1
  cell_within t a e h = let i = rule.stands.apart.inside by t (few z s by less g rule) e in in_frame t.frame a t.span i.0 i.1 h

  birth_within : (p : Place) (a : Action) (m : MayBirth z by (s.caller by) here p a) → m.cell.span.start < word_count z.sizes + 1
  birth_within p a m =
      let positive = asked_positive z (s.caller by).position m.cell (rule.stands.apart.asked by m.cell (few z s by less g rule) m.is_cell) in
      cell_within m.cell m.cell.span.start m.is_cell (omega arith, omega arith)

  clear_within : (call : Call) (b w : ℕ) (x : Option Taken) → (s.caller by).taken ≡ x → MayClearFor z by (s.caller by) here call x b w →
      b < word_count z.sizes + 1
  clear_within call b w None e m =
      let t = request_two z call m.words m.is_request in
      in_frame m.frame b (record { start = b; len = m.words }) m.near m.inside (omega arith, omega arith)
  clear_within call b w (Some t) e m = let p = m.0 in let q = m.1 in cell_within t b e (omega arith, omega arith)

module _ (z : Ground) (good : IsGoodGround z) (s : State) (by : ℕ) (here : ℕ → Bool) (r : Rule z s) where
  state_near : (n : ℕ) → ((by < z.sizes.threads) × MayGo z by (s.caller by) here (s.caller by).position n)
      ⊎ MayStopCollecting z by (s.caller by) here n → by < z.sizes.threads + 1
  state_near n (inl h) = let l = h.0 in omega (arith, l)
  state_near n (inr h) = let e = h.collects.collector in omega (arith, e)

  want_near : (p : Place) (a : Action) → MayWant z by (s.caller by) here p a → Within z.sizes p
  want_near p a (inl m) = subst (λ q. Within z.sizes q) (sym m.place) (omega arith)
  want_near p a (inr m) = subst (λ q. Within z.sizes q) (sym m.place) (omega arith)

  count_near : (p : Place) (a : Action) → MayCount z by (s.caller by) here p a → Within z.sizes p
  count_near p a (inl m) = subst (λ q. Within z.sizes q) (sym m.place) (omega arith)
  count_near p a (inr m) = subst (λ q. Within z.sizes q) (sym m.place) (omega arith)

  -- where the steps of markers are made at places of the heap, each step is
  module _ (marks : (k : Kind) → IsOfMarker k → (p : Place) (a : Action) → MayBe z by (s.caller by) here k p a → Within z.sizes p) where
    pub within_by : (k : Kind) (p : Place) (a : Action) → MayBe z by (s.caller by) here k p a → Within z.sizes p
    within_by K1 p a m = subst (λ q. Within z.sizes q) (sym m.place) (omega arith)
    within_by K2 p a m = subst (λ q. Within z.sizes q) (sym m.place) (state_near m.value m.may)
    within_by K3 p a m =
        subst (λ q. Within z.sizes q) (sym m.place) (
          m.thread,
          local_within z good s by m.thread here r.0 r.1 m.local m.value (s.caller by).position refl m.may,
        )
    within_by K4 p a m =
        subst (λ q. Within z.sizes q) (sym m.place)
        (load_within z good s by m.thread here r.0 r.1 m.address (s.caller by).position (s.caller by).header refl refl m.may)
    within_by K5 p a m =
        subst (λ q. Within z.sizes q) (sym m.place)
        (set_within z good s by m.thread here r.0 r.1 m.address m.value (s.caller by).position (s.caller by).header refl refl m.may)
    within_by K6 p a m =
        subst (λ q. Within z.sizes q) (sym m.place) (global_within z good s by m.thread here r.0 r.1 m.global (s.caller by).position refl m.may)
    within_by K7 p a m =
        subst (λ q. Within z.sizes q) (sym m.place) (store_within z good s by m.thread here r.0 r.1 m.global m.value (s.caller by).position refl m.may)
    within_by K8 p a m = subst (λ q. Within z.sizes q) (sym m.place) (birth_within z good s by m.thread here r.0 r.1 p a m)
    within_by K9 p a m = let l = m.search.near in subst (λ q. Within z.sizes q) (sym m.place) l
    within_by K10 p a m = let l = m.search.near in subst (λ q. Within z.sizes q) (sym m.place) l
    within_by K11 p a m = let l = m.near in subst (λ q. Within z.sizes q) (sym m.place) l
    within_by K12 p a m =
        subst (λ q. Within z.sizes q) (sym m.place)
        (clear_within z good s by m.thread here r.0 r.1 m.call m.address m.value (s.caller by).taken refl m.may)
    within_by K13 p a m = want_near p a m
    within_by K14 p a m = subst (λ q. Within z.sizes q) (sym m.place) (omega arith)
    within_by K15 p a m = let l = m.near in subst (λ q. Within z.sizes q) (sym m.place) (omega (arith, l))
    within_by K16 p a m = count_near p a m
    within_by K17 p a m = marks K17 tt p a m
    within_by K18 p a m = marks K18 tt p a m
    within_by K19 p a m = marks K19 tt p a m
    within_by K20 p a m = marks K20 tt p a m
    within_by K21 p a m = marks K21 tt p a m
    within_by K22 p a m = marks K22 tt p a m
    within_by K23 p a m = marks K23 tt p a m
    within_by K24 p a m = marks K24 tt p a m
    within_by _ p a m = absurd m
