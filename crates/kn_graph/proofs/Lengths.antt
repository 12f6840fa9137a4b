-- The lengths and the addresses of objects.
use Rattle.std.proofs.Common.{◌≡◌, ℕ, zero, suc, ◌+◌, ◌-◌, ◌<◌, ◌≤◌, ◌↔◌, Bool, true, false, cond, ltb, List, [], ◌∷◌}
use Rattle.std.proofs.Common.{Option, Some, None, length, slice_get, refl, sym, subst, ap, ◌∙◌, arith}
use Rattle.std.specs.Option.{is_some, IsSome}
use Rattle.std.specs.List.{AllByRecursion}
use Rattle.std.proofs.lemmas.Bool.{lt-ltb, ltb-true}
use Rattle.std.proofs.lemmas.List.{length-replicate}
use Rattle.std.proofs.lemmas.Option.{slice_get-get_or, slice_get_within}
use Rattle.kn_base.specs.declared.numbers.Span.{Span}
use Rattle.kn_base.specs.declared.heap.Sizes.{Sizes}
use Rattle.kn_base.specs.Sizes.{span_of_frame, span_of_large, span_of_extra, nth_span, small_area, large_area}
use Rattle.kn_layout.specs.declared.layouts.FieldKind.{FieldKind}
use Rattle.kn_layout.specs.declared.layouts.FieldKind.TheVariants.{Int as of_int}
use Rattle.kn_layout.specs.declared.layouts.Layout.{Layout}
use Rattle.kn_layout.specs.declared.layouts.Layout.TheVariants.{Fields, Array}
use Rattle.kn_layout.specs.Layouts.{IsLayout}
use Rattle.kn_graph.specs.Ground.{Ground, IsGoodGround}
use Rattle.kn_graph.specs.Graph.{Shape, kinds_for, length_for, field_kind}
use Rattle.kn_graph.specs.Sound.{MayHaveLength, HasCell}

as_many : (x : Option Layout) (n : ℕ) → MayHaveLength x n → length (kinds_for x n) ≡ n
as_many None n h = absurd h
as_many (Some (Fields kinds)) n h = sym h
as_many (Some (Array kind)) n h = length-replicate n kind

-- a layout among good ones
good_at : (layouts : List Layout) (i : ℕ) (x : Layout) → AllByRecursion IsLayout layouts → slice_get layouts i ≡ Some x → IsLayout x
good_at [] i x good e = absurd (cc)
good_at (l ∷ layouts) zero x good e = let same : l ≡ x = cc in subst IsLayout same good.0
good_at (l ∷ layouts) (suc i) x good e = good_at layouts i x good.1 e

short_at : (x : Option Layout) (n : ℕ) → ((l : Layout) → x ≡ Some l → IsLayout l) → MayHaveLength x n → n ≤ 60000
short_at None n good h = absurd h
short_at (Some (Fields kinds)) n good h = let few : length kinds ≤ 64 = good (Fields kinds) refl in omega (arith, few, h)
short_at (Some (Array kind)) n good h = h

there : (x : Option Layout) (n : ℕ) → MayHaveLength x n → (l : Layout) × (x ≡ Some l)
there None n h = absurd h
there (Some l) n h = (l, refl)

module _ (z : Ground) (o : Shape) (c : HasCell z o) where
  -- an object has as many fields as its length says
  pub length_is : length_for z o.layout o.length ≡ o.length
  length_is = as_many (slice_get z.layouts o.layout) o.length c.laid_out

  kind_there : (f : ℕ) → f < o.length → IsSome (field_kind z o f)
  kind_there f h =
      let kinds = kinds_for (slice_get z.layouts o.layout) o.length in
      ap (λ (b : Bool). is_some (cond b (slice_get kinds f) None)) (lt-ltb f o.length h)
      ∙ ap is_some (slice_get-get_or kinds f of_int (omega (arith, length_is)))

  kind_within : (f : ℕ) (b : Bool) → ltb f o.length ≡ b → (x : Option FieldKind) → is_some (cond b x None) ≡ true → f < o.length
  kind_within f true e x h = ltb-true f o.length e
  kind_within f false e x h = absurd (cc)

  -- a field is there exactly where its number is below the length
  pub kind_exactly : (f : ℕ) → IsSome (field_kind z o f) ↔ (f < o.length)
  kind_exactly f = (kind_within f (ltb f o.length) refl (slice_get (kinds_for (slice_get z.layouts o.layout) o.length) f), kind_there f)

  pub limits : IsGoodGround z → (o.layout < 64) × (o.length ≤ 60000)
  limits good =
      let l = there (slice_get z.layouts o.layout) o.length c.laid_out in
      let near = slice_get_within z.layouts o.layout l.0 l.1 in
      let few = good.few_layouts in
      (omega arith, short_at (slice_get z.layouts o.layout) o.length (λ x e. good_at z.layouts o.layout x good.layouts e) c.laid_out)

begins : (b : Bool) (x : Span) (rest : Option Span) (w : Span) → cond b (Some x) rest ≡ Some w → 1 ≤ x.start → (rest ≡ Some w → 1 ≤ w.start) →
    1 ≤ w.start
begins true x rest w e h k = let same : x ≡ w = cc in subst (λ (s : Span). 1 ≤ s.start) same h
begins false x rest w e h k = k e

frame_begins : (z : Sizes) (p : ℕ) (w : Span) → span_of_frame z p ≡ Some w → 1 ≤ w.start
frame_begins z p w e =
    let q = p - z.small in let r = q - z.large in
    begins (ltb p z.small) (nth_span 1 z.small_words p) (span_of_large z q) w e (omega arith)
    (λ e. begins (ltb q z.large) (nth_span (1 + small_area z) z.large_words q) (span_of_extra z r) w e (omega arith)
    (λ e. begins (ltb r z.extra) (nth_span (1 + small_area z + large_area z) z.extra_words r) None w e (omega arith) (λ e. absurd (cc))))

-- no object is at address 0
pub address_positive : (z : Ground) (o : Shape) → HasCell z o → 1 ≤ o.address
address_positive z o c = let p = c.placed in omega (arith, frame_begins z.sizes p.frame p.words p.is_frame, p.inside.0)
