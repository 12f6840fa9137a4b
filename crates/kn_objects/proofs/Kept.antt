-- What is kept of objects stays so as they are written, born and released.
use Rattle.std.proofs.Common.{◌≡◌, ℕ, suc, ◌+◌, ◌-◌, ◌^◌, ◌<◌, ◌≤◌, ◌↔◌, inl, inr, Bool, true, false, cond, max, List, []}
use Rattle.std.proofs.Common.{◌∷◌, ◌++◌, length, set, ltb}
use Rattle.std.proofs.Common.{not, ◌||◌, ◌&&◌, get_or, Option, Some, None, slice_get, refl, sym, ap, ◌∙◌, subst, arith}
use Rattle.std.specs.Option.{option_map}
use Rattle.std.proofs.lemmas.List.{get_or_past, length-set, length_push}
use Rattle.std.proofs.lemmas.Option.{none-some, same_Some, slice_get_within, slice_get_cases, slice_get_past, get_or_from_slice_get}
use Rattle.std.proofs.lemmas.Bool.Decides.{leb_tells}
use Rattle.kn_base.specs.declared.numbers.Span.{Span}
use Rattle.kn_base.specs.Spans.{end_of}
use Rattle.kn_base.specs.Functions.{upd}
use Rattle.kn_base.proofs.Updates.{get_set, part_same, part_upd, split_at, upd_else, upd_here}
use Rattle.kn_layout.specs.Layouts.{cell_size}
use Rattle.kn_objects.specs.declared.objects.KeptObject.{KeptObject}
use Rattle.kn_graph.specs.Graph.{Object, Lives, cell_at, shape_of, words_of}
use Rattle.kn_objects.specs.Replay.{object_of}
use Rattle.kn_objects.specs.Kept.{AreClear, AreKept, AreLaid, AreOwners, Gives, HasWord, HaveNoOwner, condemned_unless, cell_of, cells, field_spans}
use Rattle.kn_objects.specs.Kept.{span_of_fields}
use Rattle.kn_objects.proofs.Fields.{get_push}
use Rattle.kn_objects.proofs.Owners.{owned_born, owned_released}

-- a part of each object, where one is put in the place of another
module _ {B : Type 0} (part : Option KeptObject → B) (kept : List KeptObject) (n : ℕ) (o : KeptObject) (h : n < length kept) where
  pub parts_replaced : ◌≡◌ {A = ℕ → B} (λ k. part (slice_get (set kept n o) k)) (upd (λ k. part (slice_get kept k)) n (part (Some o)))
  parts_replaced = (λ t k. ap part (get_set kept n o k h) t) ∙ part_upd part (slice_get kept) n (Some o)

  pub parts_same : part (slice_get kept n) ≡ part (Some o) →
      ◌≡◌ {A = ℕ → B} (λ k. part (slice_get (set kept n o) k)) (λ k. part (slice_get kept k))
  parts_same e = (λ t k. ap part (get_set kept n o k h) t) ∙ part_same part (slice_get kept) n (Some o) (sym e)

-- an object that is put in the place of another one has its fields and its words
pub kept_replaced : (kept : List KeptObject) (points numbers : ℕ) (owners : List (Option ℕ)) (n : ℕ) (o : KeptObject) → n < length kept →
    field_spans kept n ≡ Some (span_of_fields o) → cells kept n ≡ cell_of (Some o) → AreKept kept points numbers owners →
    AreKept (set kept n o) points numbers owners
kept_replaced kept points numbers owners n o h spans words all = record {
  few = omega (arith, length-set kept n o, all.few);
  both = all.both;
  laid = subst (λ s. AreLaid s points) (sym (parts_same (option_map span_of_fields) kept n o h spans)) all.laid;
  owned = subst (AreOwners owners) (sym (parts_same cell_of kept n o h words)) all.owned;
}

-- an object is released, and its words are given back
pub kept_released : (kept : List KeptObject) (points numbers : ℕ) (owners owners' : List (Option ℕ)) (n : ℕ) (o : KeptObject) →
    slice_get kept n ≡ Some o → o.released ≡ false → Gives o.address (o.address + cell_size o.length) None owners owners' →
    AreKept kept points numbers owners → AreKept (set kept n (record o { released = true })) points numbers owners'
kept_released kept points numbers owners owners' n o at_n lives gives all =
    let new : KeptObject = record o { released = true } in
    let h : n < length kept = slice_get_within kept n o at_n in
    let cell : cells kept n ≡ Some (cell_at o.address o.length) = ap cell_of at_n ∙ ap (λ b. cond b None (Some (cell_at o.address o.length))) lives in
    record {
      few = omega (arith, length-set kept n new, all.few);
      both = all.both;
      laid = subst (λ s. AreLaid s points) (sym (parts_same (option_map span_of_fields) kept n new h (ap (option_map span_of_fields) at_n))) all.laid;
      owned = subst (AreOwners owners') (sym (parts_replaced cell_of kept n new h))
          (owned_released owners owners' (cells kept) n (cell_at o.address o.length) all.owned cell gives);
    }

-- the words of an object that is not released are among those that may have an owner
pub cell_within : (owners : List (Option ℕ)) (cell : ℕ → Option Span) (n : ℕ) (span : Span) → AreOwners owners cell → cell n ≡ Some span →
    0 < span.len → end_of span ≤ length owners
cell_within owners cell n span owned at_n some = elim (leb_tells (suc (end_of span - 1)) (length owners)) [
  | inl t ↦ omega (arith, t.1)
  | inr t ↦
      let last : ℕ = end_of span - 1 in
      let has : HasWord (cell n) last = subst (λ c. HasWord c last) (sym at_n) (omega arith, omega arith) in
      absurd (none-some n (sym (get_or_past owners last None (omega (arith, t.1))) ∙ (owned last n).1 has))
]

module _ (points : List (Option ℕ)) (numbers : List ℕ) where
  cell_from : (b : Bool) (c d : Span) → cond b None (Some c) ≡ Some d → (b ≡ false) × (c ≡ d)
  cell_from true c d e = absurd (none-some d e)
  cell_from false c d e = (refl, same_Some c d e)

  cell_known : (k : Option KeptObject) (cell : Span) → cell_of k ≡ Some cell → ((shape_of (object_of points numbers k)).released ≡ false)
      × (words_of (shape_of (object_of points numbers k)) ≡ cell)
  cell_known None cell e = absurd (none-some cell e)
  cell_known (Some o) cell e = cell_from o.released (cell_at o.address o.length) cell e

  cell_some : (k : Option KeptObject) (cell : Span) → cell_of k ≡ Some cell → (o : KeptObject) × (k ≡ Some o)
  cell_some None cell e = absurd (none-some cell e)
  cell_some (Some o) cell e = (o, refl)

  module _ (kept : List KeptObject) (n : ℕ) where
    -- an object with words lives, and they are its words
    pub cell_lives : (cell : Span) → cells kept n ≡ Some cell → Lives (length kept) (λ k. shape_of (object_of points numbers (slice_get kept k))) n
        × (words_of (shape_of (object_of points numbers (slice_get kept n))) ≡ cell)
    cell_lives cell e =
        let o = cell_some (slice_get kept n) cell e in
        let known = cell_known (slice_get kept n) cell e in
        ((slice_get_within kept n o.0 o.1, known.0), known.1)

    lives_known : (k : Option KeptObject) → slice_get kept n ≡ k → n < length kept → (shape_of (object_of points numbers k)).released ≡ false →
        cell_of k ≡ Some (words_of (shape_of (object_of points numbers k)))
    lives_known None e h lives = elim ((slice_get_cases kept n).1) [
      | inl x ↦ absurd (none-some x.0 (sym e ∙ x.2))
      | inr x ↦ absurd (omega (arith, x.0, h))
    ]
    lives_known (Some o) e h lives = ap (λ b. cond b None (Some (cell_at o.address o.length))) lives

    -- an object that lives has its words
    pub lives_cell : Lives (length kept) (λ k. shape_of (object_of points numbers (slice_get kept k))) n →
        cells kept n ≡ Some (words_of (shape_of (object_of points numbers (slice_get kept n))))
    lives_cell lives = lives_known (slice_get kept n) refl lives.0 lives.1

  module _ (kept : List KeptObject) (owners : List (Option ℕ)) (owned : AreOwners owners (cells kept)) where
    word_in : (c : Option Span) (w : ℕ) → HasWord c w → (span : Span) × (c ≡ Some span) × (span.start ≤ w) × (w < end_of span)
    word_in None w h = absurd h
    word_in (Some span) w h = (span, refl, h.0, h.1)

    -- the owner of a word lives and has it
    pub owner_lives : (w n : ℕ) → get_or owners w None ≡ Some n → Lives (length kept) (λ k. shape_of (object_of points numbers (slice_get kept k))) n
        × HasWord (Some (words_of (shape_of (object_of points numbers (slice_get kept n))))) w
    owner_lives w n e =
        let at_n = word_in (cells kept n) w ((owned w n).0 e) in
        let lives = cell_lives kept n at_n.0 at_n.1 in
        (lives.0, subst (λ c. HasWord (Some c) w) (sym lives.1) (at_n.2, at_n.3))

    -- an object that lives owns each of its words
    pub lives_owns : (w n : ℕ) → Lives (length kept) (λ k. shape_of (object_of points numbers (slice_get kept k))) n
        → HasWord (Some (words_of (shape_of (object_of points numbers (slice_get kept n))))) w → get_or owners w None ≡ Some n
    lives_owns w n lives has = (owned w n).1 (subst (λ c. HasWord c w) (sym (lives_cell kept n lives)) has)

    module _ (start stop : ℕ) (some : start < stop) where
      apart_from : HaveNoOwner owners start stop → AreClear (record { kept = kept; points = points; numbers = numbers; words = 0 }) start stop
      apart_from free n lives =
          let o : Object = object_of points numbers (slice_get kept n) in
          elim (leb_tells (end_of (words_of (shape_of o))) start) [
            | inl t ↦ inl t.1
            | inr t ↦ elim (leb_tells stop o.address) [
              | inl u ↦ inr u.1
              | inr u ↦
                  let w : ℕ = max start o.address in
                  absurd (none-some n (sym (free w (omega arith) (omega (arith, u.1)))
                  ∙ lives_owns w n lives (omega arith, omega (arith, t.1, some))))
            ]
          ]

      free_at : AreClear (record { kept = kept; points = points; numbers = numbers; words = 0 }) start stop → (w : ℕ) → start ≤ w → w < stop →
          (k : Option ℕ) → get_or owners w None ≡ k → k ≡ None
      free_at apart w low high None e = refl
      free_at apart w low high (Some n) e =
          let lives = owner_lives w n e in
          absurd (elim (apart n lives.0) [ inl a ↦ omega (arith, a, lives.1.1) | inr a ↦ omega (arith, a, lives.1.0) ])

      -- no object that lives has a word there exactly where none has an owner
      pub free_of_owners : HaveNoOwner owners start stop ↔ AreClear (record { kept = kept; points = points; numbers = numbers; words = 0 }) start stop
      free_of_owners = (apart_from, λ apart w low high. free_at apart w low high (get_or owners w None) refl)

-- an object with a field is there
pub found : (kept : List KeptObject) (points : List (Option ℕ)) (numbers : List ℕ) (n f : ℕ) (x : KeptObject) →
    f < (object_of points numbers (slice_get kept n)).length →
    x ≡ get_or kept n x → (slice_get kept n ≡ Some x) × (f < x.length)
found kept points numbers n f x h e = elim ((slice_get_cases kept n).1) [
  | inl y ↦
      let same : y.0 ≡ x = sym (get_or_from_slice_get kept n y.0 x y.2) ∙ sym e in
      let at_n : slice_get kept n ≡ Some x = y.2 ∙ ap (λ o. Some o) same in
      (at_n, subst (λ k. f < (object_of points numbers k).length) at_n h)
  | inr y ↦ absurd (omega (arith, subst (λ k. f < (object_of points numbers k).length) y.1 h))
]

module _ (spans : ℕ → Option Span) (fields n : ℕ) (span : Span) (laid : AreLaid spans fields) (start : span.start ≡ fields)
    (unborn : (k : ℕ) → n ≤ k → spans k ≡ None) where
  pushed_within : (m : ℕ) (a : Span) → upd spans n (Some span) m ≡ Some a → end_of a ≤ fields + span.len
  pushed_within m a e =
      split_at (λ k. upd spans n (Some span) k ≡ Some a → end_of a ≤ fields + span.len) n
      (λ e. let same : span ≡ a = same_Some span a (sym (upd_here spans n (Some span)) ∙ e) in
      subst (λ x. end_of x ≤ fields + span.len) same (omega arith)) m
      (λ ne e. omega (arith, laid.within m a (sym (upd_else spans n (Some span) m ne) ∙ e))) e

  -- a span behind all others is laid out with them
  pub laid_born : AreLaid (upd spans n (Some span)) (fields + span.len)
  laid_born = record {
    within = pushed_within;
    behind = λ m k a b h at_m at_k.
        let unborn_m : n ≡ m → spans k ≡ None = λ e. unborn k (omega arith) in
        split_at (λ m. m < k → upd spans n (Some span) m ≡ Some a → end_of a ≤ b.start) n
        (λ h _. absurd (none-some b (sym (unborn k (omega arith)) ∙ (sym (upd_else spans n (Some span) k (λ e. omega arith)) ∙ at_k)))) m
        (λ ne h at_m.
        let old : spans m ≡ Some a = sym (upd_else spans n (Some span) m ne) ∙ at_m in
        split_at (λ k. m < k → upd spans n (Some span) k ≡ Some b → end_of a ≤ b.start) n
        (λ h at_k. let same : span ≡ b = same_Some span b (sym (upd_here spans n (Some span)) ∙ at_k) in
        omega (arith, ap (λ (s : Span). s.start) same, laid.within m a old)) k
        (λ ne h at_k. laid.behind m k a b h old (sym (upd_else spans n (Some span) k ne) ∙ at_k)) h at_k) h at_m;
  }

-- an object is born behind all others, over words that nothing has
pub kept_born : (kept : List KeptObject) (points numbers : ℕ) (owners owners' : List (Option ℕ)) (o : KeptObject) → length kept + 1 < 2 ^ 32 →
    o.first ≡ points → o.released ≡ false →
    ((w : ℕ) → o.address ≤ w → w < o.address + cell_size o.length → get_or owners w None ≡ None) →
    Gives o.address (o.address + cell_size o.length) (Some (length kept)) owners owners' →
    AreKept kept points numbers owners → AreKept (kept ++ o ∷ []) (points + o.length) (numbers + o.length) owners'
kept_born kept points numbers owners owners' o few first lives free gives all =
    let n : ℕ = length kept in
    let spans : (λ k. option_map span_of_fields (slice_get (kept ++ o ∷ []) k)) ≡ upd (field_spans kept) n (Some (span_of_fields o)) =
    (λ t k. ap (option_map span_of_fields) (get_push kept o k) t) ∙ part_upd (option_map span_of_fields) (slice_get kept) n (Some o) in
    let live : cell_of (Some o) ≡ Some (cell_at o.address o.length) = ap (λ b. cond b None (Some (cell_at o.address o.length))) lives in
    let words : (λ k. cell_of (slice_get (kept ++ o ∷ []) k)) ≡ upd (cells kept) n (Some (cell_at o.address o.length)) =
    (λ t k. ap cell_of (get_push kept o k) t) ∙ (part_upd cell_of (slice_get kept) n (Some o) ∙ ap (λ c. upd (cells kept) n c) live) in
    let unborn = λ (k : ℕ) (h : n ≤ k). slice_get_past kept k h in record {
      few = omega (arith, length_push kept o);
      both = omega (arith, all.both);
      laid = subst (λ s. AreLaid s (points + o.length)) (sym spans)
          (laid_born (field_spans kept) points n (span_of_fields o) all.laid first (λ k h. ap (option_map span_of_fields) (unborn k h)));
      owned = subst (AreOwners owners') (sym words) (owned_born owners owners' (cells kept) n (cell_at o.address o.length) all.owned
          (ap cell_of (unborn n (omega arith))) free gives);
    }

module _ (kept kept' : List KeptObject) (marks : List Bool) (each : (n : ℕ) →
    slice_get kept' n ≡ option_map (condemned_unless (get_or marks n false)) (slice_get kept n)) where
  part_condemned : {B : Type 0} (part : Option KeptObject → B) →
      ((b : Bool) (k : Option KeptObject) → part (option_map (condemned_unless b) k) ≡ part k) →
      ◌≡◌ {A = ℕ → B} (λ n. part (slice_get kept' n)) (λ n. part (slice_get kept n))
  part_condemned part same = λ t n. (ap part (each n) ∙ same (get_or marks n false) (slice_get kept n)) t

  same_span : (b : Bool) (k : Option KeptObject) → option_map span_of_fields (option_map (condemned_unless b) k) ≡ option_map span_of_fields k
  same_span b None = refl
  same_span b (Some o) = refl

  same_cell : (b : Bool) (k : Option KeptObject) → cell_of (option_map (condemned_unless b) k) ≡ cell_of k
  same_cell b None = refl
  same_cell b (Some o) = refl

  -- a flag changes no place and no word
  pub kept_condemned : (points numbers : ℕ) (owners : List (Option ℕ)) → length kept' ≡ length kept → AreKept kept points numbers owners →
      AreKept kept' points numbers owners
  kept_condemned points numbers owners same all = record {
    few = omega (arith, same, all.few);
    both = all.both;
    laid = subst (λ s. AreLaid s points) (sym (part_condemned (option_map span_of_fields) same_span)) all.laid;
    owned = subst (AreOwners owners) (sym (part_condemned cell_of same_cell)) all.owned;
  }

  module _ (points : List (Option ℕ)) (numbers : List ℕ) where
    condemned_at : (n : ℕ) (k : Option KeptObject) → slice_get kept n ≡ k →
        object_of points numbers (option_map (condemned_unless (get_or marks n false)) k)
        ≡ record (object_of points numbers k) {
          condemned = (object_of points numbers k).condemned || (ltb n (length kept) && not (get_or marks n false));
        }
    condemned_at n None e = elim (leb_tells (suc n) (length kept)) [
      | inl t ↦ elim ((slice_get_cases kept n).1) [ inl x ↦ absurd (none-some x.0 (sym e ∙ x.2)) | inr x ↦ absurd (omega (arith, x.0, t.1)) ]
      | inr t ↦ ap (λ b. record (object_of points numbers None) { condemned = false || (b && not (get_or marks n false)) }) (sym t.0)
    ]
    condemned_at n (Some o) e = elim (leb_tells (suc n) (length kept)) [
      | inl t ↦ ap (λ b. record (object_of points numbers (Some o)) { condemned = o.condemned || (b && not (get_or marks n false)) }) (sym t.0)
      | inr t ↦ absurd (omega (arith, slice_get_within kept n o e, t.1))
    ]

    pub nth_condemned : ◌≡◌ {A = ℕ → Object} (λ n. object_of points numbers (slice_get kept' n))
        (λ n. record (object_of points numbers (slice_get kept n)) {
          condemned =
              (object_of points numbers (slice_get kept n)).condemned || (ltb n (length kept) && not (get_or marks n false));
        })
    nth_condemned = λ t n. (ap (object_of points numbers) (each n) ∙ condemned_at n (slice_get kept n) refl) t
