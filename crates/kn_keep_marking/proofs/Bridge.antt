-- The heap by addresses stands for the graph by numbers: the same objects, what they hold, and what the root sets hold.
use Rattle.std.proofs.Common.{◌≡◌, ◌≢◌, inl, inr, ℕ, ◌+◌, ◌<◌, false, cond}
use Rattle.std.proofs.Common.{Option, Some, None, refl, sym, ap, ◌∙◌, subst, arith, ne_eqb}
use Rattle.std.proofs.lemmas.Bool.Decides.{eqb_tells}
use Rattle.kn_base.specs.declared.places.Place.{Place}
use Rattle.kn_base.specs.declared.places.Place.TheVariants.{Body}
use Rattle.kn_base.specs.declared.header_word.HeaderWord.{HeaderWord}
use Rattle.kn_base.specs.Functions.{Tells}
use Rattle.kn_layout.specs.declared.layouts.FieldKind.{FieldKind}
use Rattle.kn_layout.specs.declared.layouts.FieldKind.TheVariants.{Ref as of_ref, Int as of_int}
use Rattle.kn_graph.specs.Ground.{Ground}
use Rattle.kn_graph.specs.Graph.{Graph, shapes, pointers, field_kind, Lives}
use Rattle.kn_graph.specs.Reachable.{Holds}
use Rattle.kn_graph.specs.Sound.{IsSound, Alive}
use Rattle.kn_marking.specs.Heap as heaps
use Rattle.kn_rule.specs.Decoding.{header_of}
use Rattle.kn_rule.specs.Requests.{told_kind}
use Rattle.kn_rule.specs.MarkedHeap.{is_condemned_at, object_in, object_if, heap_of}
use Rattle.kn_rule.specs.ObjectClauses.{address_of}
use Rattle.kn_rule.proofs.Decodings.{header_packed}
use Rattle.kn_keep_heap.proofs.Changed.{some_is}
use Rattle.kn_keep_heap.proofs.Fields.{kind_below}
use Rattle.kn_keep_heap.proofs.Values.{positive, lives}
use Rattle.kn_keep_heap.proofs.ByAddress.{LiesThere, live_found, live_there, condemned_is, one_there}
use Rattle.kn_keep_heap.proofs.CellLimit.{below_limit}
use Rattle.kn_keep_marking.specs.WordsStand.{WordsStand}

-- a word that is not 0 holds what it names
object_some : (w a : ℕ) → w ≡ a → 0 < a → object_in w ≡ Some a
object_some w a e pos =
    let ne : w ≢ 0 = λ (h : w ≡ 0). absurd (omega (arith, e, h, pos)) in
    ap (λ b. cond {A = Option ℕ} b None (Some w)) (ne_eqb w 0 ne) ∙ ap (λ n. Option.Some n) e

object_is : (w b : ℕ) → object_in w ≡ Some b → w ≡ b
object_is w b e = at (eqb_tells w 0)
  where
    at : Tells w 0 → w ≡ b
    at (inl t) = let h : Option.None ≡ Some b = sym (ap (λ c. cond {A = Option ℕ} c None (Some w)) t.0) ∙ e in absurd (cc)
    at (inr t) = some_is w b (sym (ap (λ c. cond {A = Option ℕ} c None (Some w)) t.0) ∙ e)

-- the object with this header holds in a field what the word says, where the field is of a reference
held_if : (k : Option FieldKind) (w b : ℕ) → object_if k w ≡ Some b → (k ≡ Some of_ref) × (object_in w ≡ Some b)
held_if None w b e = absurd (cc)
held_if (Some of_ref) w b e = (refl, e)
held_if (Some of_int) w b e = absurd (cc)

module _ (z : Ground) (g : Graph) (sound : IsSound z g) (word : Place → ℕ) (stand : WordsStand z g word) where
  abbrev pub heap : heaps.Heap
  heap = heap_of z g.born (shapes g) word

  abbrev at : ℕ → ℕ
  at n = (shapes g n).address

  -- each living object lies at its address
  pub live_at : (n : ℕ) → Lives g.born (shapes g) n → heaps.Live heap (at n)
  live_at n l = (below_limit z.sizes (shapes g n) (sound.cells n l.0).placed, live_there (shapes g) (at n) g.born n (l, refl))

  pub object_there : (a : ℕ) → heaps.Live heap a → (n : ℕ) × LiesThere (shapes g) a g.born n
  object_there a l = live_found (shapes g) a g.born l.1

  pub condemned_at : (n : ℕ) → Lives g.born (shapes g) n → is_condemned_at g.born (shapes g) (at n) ≡ (shapes g n).condemned
  condemned_at n l = condemned_is (shapes g) (at n) g.born n (l, refl) (λ k h. one_there z g sound k n h.0 l h.1)

  pub good_at : (n : ℕ) → Alive g.born (shapes g) (Some n) → heaps.Good heap (at n)
  good_at n a = let l = lives z g sound n a in (live_at n l, condemned_at n l ∙ a.1)

  pub alive_there : (a : ℕ) → heaps.Good heap a → (n : ℕ) × (Alive g.born (shapes g) (Some n) × (at n ≡ a))
  alive_there a h =
      let n = object_there a h.0 in
      let l = n.1.0 in
      (n.0, ((l.0, sym (condemned_at n.0 l) ∙ (ap (is_condemned_at g.born (shapes g)) n.1.1 ∙ h.1)), n.1.1))

  -- what a word of a reference holds
  pub value_some : (x : Option ℕ) (n w : ℕ) → Alive g.born (shapes g) x → x ≡ Some n → w ≡ address_of (shapes g) x → object_in w ≡ Some (at n)
  value_some x n w al is e =
      let a = subst (λ y. Alive g.born (shapes g) y) is al in
      object_some w (at n) (e ∙ ap (address_of (shapes g)) is) (positive z g sound n a.0)

  pub value_back : (x : Option ℕ) (w b : ℕ) → w ≡ address_of (shapes g) x → object_in w ≡ Some b → (n : ℕ) × ((x ≡ Some n) × (at n ≡ b))
  value_back None w b e h = let f : Option.None ≡ Some b = sym (ap object_in e) ∙ h in absurd (cc)
  value_back (Some n) w b e h = (n, (refl, sym e ∙ object_is w b h))

  -- the header of an object tells its fields
  pub header_is : (n : ℕ) → Lives g.born (shapes g) n → ((header_of (word (Body (at n)))).layout ≡ (shapes g n).layout)
      × ((header_of (word (Body (at n)))).length ≡ (shapes g n).length)
  header_is n l =
      let h = stand.headed.headers n l in
      let v : HeaderWord = record { layout = (shapes g n).layout; length = (shapes g n).length; extra = h.extra } in
      let e : header_of (word (Body (at n))) ≡ v = ap header_of h.packs ∙ header_packed v h.ranges in
      (ap (λ (x : HeaderWord). x.layout) e, ap (λ (x : HeaderWord). x.length) e)

  pub kind_at : (n i : ℕ) → Lives g.born (shapes g) n → told_kind z (word (Body (at n))) i ≡ field_kind z (shapes g n) i
  kind_at n i l =
      let h = header_is n l in
      (λ t. field_kind z (record { address = 0; layout = h.0 t; length = h.1 t; condemned = false; released = false }) i)

  pub holds_there : (n m : ℕ) → Alive g.born (shapes g) (Some n) → Holds g n m → heaps.Holds heap (at n) (at m)
  holds_there n m a h =
      let l = lives z g sound n a in
      let kind = (sound.fields n a.0).kinds h.0 m h.1 in
      let below = kind_below z (shapes g n) h.0 of_ref kind in
      let size = (header_is n l).1 in (
        h.0,
        omega (arith, below, size),
        ap (λ k. object_if k (word (Body (at n + 1 + h.0)))) (kind_at n h.0 l ∙ kind)
            ∙ value_some (pointers g n h.0) m (word (Body (at n + 1 + h.0))) ((sound.fields n a.0).values a.1 h.0) h.1
            (stand.fielded.refs n h.0 a.0 a.1 kind),
      )

  pub holds_back : (n b : ℕ) → Alive g.born (shapes g) (Some n) → heaps.Holds heap (at n) b → (m : ℕ) × (Holds g n m × (at m ≡ b))
  holds_back n b a h =
      let l = lives z g sound n a in
      let k = held_if (told_kind z (word (Body (at n))) h.0) (word (Body (at n + 1 + h.0))) b h.2 in
      let kind = sym (kind_at n h.0 l) ∙ k.0 in
      let v = value_back (pointers g n h.0) (word (Body (at n + 1 + h.0))) b (stand.fielded.refs n h.0 a.0 a.1 kind) k.1 in
      (v.0, ((h.0, v.1.0), v.1.1))
