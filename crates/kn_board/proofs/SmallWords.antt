-- Words that are kept in fewer bits: addresses, and numbers of calls.
use Rattle.std.proofs.Common.{◌≡◌, ℕ, ◌+◌, ◌^◌, ◌<◌, ◌≤◌, Bool, length, Option, Some, None, refl, sym, ap, ◌∙◌, subst, arith}
use Rattle.std.proofs.Common.{slice_index, sum}
use Rattle.std.proofs.lemmas.List.Sums.{get_or-le-sum_by}
use Rattle.kn_base.specs.declared.heap.Sizes.{Sizes}
use Rattle.kn_base.specs.declared.places.Place.TheVariants.{Global, Body}
use Rattle.kn_base.specs.Sizes.{IsGood}
use Rattle.kn_graph.specs.declared.calls.Call.TheVariants.{Copy, Clear, Get, GlobalGet}
use Rattle.kn_layout.specs.declared.layouts.FieldKind.TheVariants.{Ref as of_ref}
use Rattle.kn_graph.specs.Ground.{Ground, IsGoodGround}
use Rattle.kn_graph.specs.Graph.{Graph, shapes}
use Rattle.kn_graph.specs.Sound.{Alive}
use Rattle.kn_rule.specs.declared.positions.Position.{Position}
use Rattle.kn_rule.specs.declared.positions.Position.TheVariants.{Calling, Writing}
use Rattle.kn_rule.specs.Views.{State, views_of, local_of}
use Rattle.kn_rule.specs.Allowed.{MayWriteAt, MayLoadAt, MayReadGlobalAt}
use Rattle.kn_rule.specs.ObjectClauses.{IsValueDue, address_of}
use Rattle.kn_rule.specs.Rule.{RuleOf}
use Rattle.kn_keep_heap.proofs.Values.{below_sixteen}
use Rattle.kn_keep_heap.proofs.ReadLaws.{ranges, snd}
use Rattle.kn_keep_heap.proofs.SmallWords.{address_small as address_is_small, local_small as local_is_small}
use Rattle.kn_keep_heap.proofs.FieldLaws.{object_named, object_alive, kind_is, place_is}
use Rattle.kn_view.specs.Parts.{IsReadable, new_part}

-- the calls of a thread are counted in few bits
pub calls_few : (z : Sizes) → IsGood z → (c : ℕ) → c < z.threads → (slice_index z.calls c ≤ 16384) × (slice_index z.births c ≤ 16384)
calls_few z good c l =
    let t = good.of_threads in let lists = t.lists in let i = t.threads.1 in let n = lists.0 in
    let most = t.calls in
    let near : c < length z.calls = omega arith in
    let one : slice_index z.calls c ≤ sum z.calls = get_or-le-sum_by (λ (n : ℕ). n) z.calls c 0 near in
    let births = t.births c in (omega arith, omega arith)

module _ (z : Ground) (good : IsGoodGround z) (s : State) (by : ℕ) (less : by < z.sizes.threads) (here : ℕ → Bool) (g : Graph)
    (rule : RuleOf z g s.word s.page (views_of s.caller) s.history) where
  -- a word may be kept for the call under way at this position, with this header
  abbrev pub Readable : Position → Option ℕ → ℕ → Type 0
  Readable q h w = IsReadable (record (new_part z) { position = q; header = h }) w

  -- the address of a value
  address_small : (x : Option ℕ) → Alive g.born (shapes g) x → address_of (shapes g) x < 2 ^ 32
  address_small x a = let l = address_is_small z good s by less g rule x a in omega arith

  local_small : (r : ℕ) → r < 16 → local_of (s.caller by) r < 2 ^ 32
  local_small r l = let e = local_is_small z good s by less g rule r l in omega arith

  -- the value that a store writes into a local
  pub written_small : (r w : ℕ) (q : Position) → (s.caller by).position ≡ q → MayWriteAt z by (s.caller by) here q r w → r < 16 → w < 2 ^ 32
  written_small r w (Writing i x n) is m l =
      let due : x ≡ local_of (s.caller by) i = subst (λ p. IsValueDue p (local_of (s.caller by))) is (rule.localed.due by less) in
      let small : local_of (s.caller by) r < 2 ^ 32 = local_small r l in
      subst (λ w. w < 2 ^ 32) (sym (m.1 ∙ (due ∙ ap (local_of (s.caller by)) (sym m.0)))) small
  written_small r w (Calling (Copy i j)) is m l =
      let fits = ranges z s by less g rule (Copy i j) is in
      subst (λ w. w < 2 ^ 32) (sym m.1) (local_small j (below_sixteen j fits.1.0))
  written_small r w (Calling (Clear i)) is m l = let e = m.1 in omega arith
  written_small r w _ is m l = absurd m

  -- the word of a global that is read
  pub global_small : (i w : ℕ) (q : Position) → (s.caller by).position ≡ q → MayReadGlobalAt z by (s.caller by) here q i → s.word (Global i) ≡ w →
      w < 2 ^ 32
  global_small i w (Calling (GlobalGet r j)) is m found =
      let fits = ranges z s by less g rule (GlobalGet r j) is in
      let value : w ≡ address_of (shapes g) (g.global j) =
      sym found ∙ (ap (λ k. s.word (Global k)) m ∙ rule.stands.globaled.words j fits.1.0) in
      subst (λ w. w < 2 ^ 32) (sym value) (address_small (g.global j) ((snd z s by less g rule).roots.globals j))
  global_small i w _ is m found = absurd m

  -- a global that is read may be kept
  pub global_readable : (i w : ℕ) (q : Position) → (s.caller by).position ≡ q → MayReadGlobalAt z by (s.caller by) here q i → w < 2 ^ 32 →
      (h : Option ℕ) → Readable q h w
  global_readable i w (Calling (GlobalGet r j)) is m l h =
      let fits = (ranges z s by less g rule (GlobalGet r j) is).0 in (below_sixteen r fits, l)
  global_readable i w _ is m l h = absurd m

  -- and so may a field
  pub body_readable : (b w : ℕ) (q : Position) (h : Option ℕ) → MayLoadAt z by (s.caller by) here q h b → (s.caller by).position ≡ q →
      (s.caller by).header ≡ h → s.word (Body b) ≡ w → Readable q h w
  body_readable b w (Calling (Get r t i)) (Some hd) m is eh found =
      let fits = ranges z s by less g rule (Get r t i) is in
      let small = below_sixteen t fits.1.0 in
      let o = object_named z s by less here g rule (Get r t i) t i of_ref is refl small hd eh m.1 m.2 in
      let a = object_alive z s by less here g rule (Get r t i) t i of_ref is refl small hd eh m.1 m.2 in
      let k = kind_is z s by less here g rule (Get r t i) t i of_ref is refl small hd eh m.1 m.2 in
      let p = place_is z s by less here g rule (Get r t i) t i of_ref is refl small hd eh m.1 m.2 in
      let x : Option ℕ = (g.object o.0).points i in
      let value : w ≡ address_of (shapes g) x =
      sym found ∙ (ap (λ x. s.word (Body x)) (m.0 ∙ ap (λ x. x + 1 + i) p) ∙ rule.stands.fielded.refs o.0 i a.0 a.1 k) in
      let alive = ((snd z s by less g rule).fields o.0 a.0).values a.1 i in
      (below_sixteen r fits.0, subst (λ w. w < 2 ^ 32) (sym value) (address_small x alive))
  body_readable b w (Calling (Get r t i)) None m is eh found = tt
  body_readable b w (Calling (GlobalGet r i)) h m is eh found = absurd m
  body_readable b w (Calling call) None m is eh found = tt
  body_readable b w (Calling call) (Some hd) m is eh found = tt
  body_readable b w _ h m is eh found = tt
