-- Objects whose fields lie in two lists, written one at a time.
use Rattle.std.proofs.Common.{◌≡◌, ℕ, zero, suc, ◌+◌, ◌-◌, ◌<◌, ◌≤◌, ◌≢◌, inl, inr, cond, List, [], ◌∷◌, ◌++◌, length}
use Rattle.std.proofs.Common.{set, get_or, replicate, Option, Some, None, slice_get, refl, sym, ap, ◌∙◌, subst, arith}
use Rattle.std.specs.Option.{option_map}
use Rattle.std.proofs.lemmas.List.{get_or-set_same, get_or-set_other, get_or_append_left, get_or-append_right, get_or-replicate}
use Rattle.std.proofs.lemmas.Bool.Decides.{leb_tells}
use Rattle.kn_base.specs.declared.numbers.Span.{Span}
use Rattle.kn_base.specs.Functions.{upd}
use Rattle.kn_base.proofs.Updates.{get_set, part_upd, split_at, upd_else, upd_here}
use Rattle.kn_objects.specs.declared.objects.KeptObject.{KeptObject}
use Rattle.kn_graph.specs.Graph.{Object}
use Rattle.kn_objects.specs.Replay.{nth_field, object_of}
use Rattle.kn_objects.specs.Kept.{AreLaid, field_spans, span_of_fields}

-- a list with one element set, read at each place
module _ {A : Type 0} (l : List A) (i : ℕ) (v d : A) (h : i < length l) where
  set_or_at : (j : ℕ) → get_or (set l i v) j d ≡ upd (λ k. get_or l k d) i v j
  set_or_at j =
      split_at (λ k. get_or (set l i v) k d ≡ upd (λ k. get_or l k d) i v k) i (get_or-set_same l i v d h ∙ sym (upd_here (λ k. get_or l k d) i v)) j
      (λ n. get_or-set_other l i j v d (λ e. n (sym e)) ∙ sym (upd_else (λ k. get_or l k d) i v j n))

  pub set_or : ◌≡◌ {A = ℕ → A} (λ j. get_or (set l i v) j d) (upd (λ j. get_or l j d) i v)
  set_or = λ t j. set_or_at j t

module _ {A : Type 0} (d : A) where
  -- a field that is there is read in the list
  pub in_field : (l : List A) (o : KeptObject) (j : ℕ) → j < o.length → nth_field d l o j ≡ get_or l (o.first + j) d
  in_field l o j h = elim (leb_tells (suc j) o.length) [
    | inl t ↦ ap (λ b. cond b (get_or l (o.first + j) d) d) t.0
    | inr t ↦ absurd (omega (arith, t.1))
  ]

  -- two lists give an object the same field where they agree on it
  same_at : (l m : List A) (o : KeptObject) (j : ℕ) → (j < o.length → get_or l (o.first + j) d ≡ get_or m (o.first + j) d) →
      nth_field d l o j ≡ nth_field d m o j
  same_at l m o j same = elim (leb_tells (suc j) o.length) [
    | inl t ↦ in_field l o j t.1 ∙ (same t.1 ∙ sym (in_field m o j t.1))
    | inr t ↦ ap (λ b. cond b (get_or l (o.first + j) d) d) t.0 ∙ sym (ap (λ b. cond b (get_or m (o.first + j) d) d) t.0)
  ]

  other_at : (l : List A) (o : KeptObject) (i : ℕ) (v : A) (j : ℕ) → (j < o.length → o.first + j ≢ i) →
      nth_field d (set l i v) o j ≡ nth_field d l o j
  other_at l o i v j n = same_at (set l i v) l o j (λ h. get_or-set_other l i (o.first + j) v d (n h))

  written_at : (l : List A) (o : KeptObject) (f : ℕ) (v : A) → f < o.length → o.first + o.length ≤ length l → (j : ℕ) →
      nth_field d (set l (o.first + f) v) o j ≡ upd (nth_field d l o) f v j
  written_at l o f v h within j =
      split_at (λ k. nth_field d (set l (o.first + f) v) o k ≡ upd (nth_field d l o) f v k) f
      (in_field (set l (o.first + f) v) o f h ∙ (get_or-set_same l (o.first + f) v d (omega arith) ∙ sym (upd_here (nth_field d l o) f v))) j
      (λ n. other_at l o (o.first + f) v j (λ b e. n (omega arith)) ∙ sym (upd_else (nth_field d l o) f v j n))

  -- a field of an object is written
  pub written : (l : List A) (o : KeptObject) (f : ℕ) (v : A) → f < o.length → o.first + o.length ≤ length l →
      ◌≡◌ {A = ℕ → A} (nth_field d (set l (o.first + f) v) o) (upd (nth_field d l o) f v)
  written l o f v h within = λ t j. written_at l o f v h within j t

  -- an object without the place that is written
  pub unwritten : (l : List A) (o : KeptObject) (i : ℕ) (v : A) → ((j : ℕ) → j < o.length → o.first + j ≢ i) →
      ◌≡◌ {A = ℕ → A} (nth_field d (set l i v) o) (nth_field d l o)
  unwritten l o i v n = λ t j. other_at l o i v j (n j) t

  -- the fields of an object stay where the list grows
  pub grown : (l more : List A) (o : KeptObject) → o.first + o.length ≤ length l → ◌≡◌ {A = ℕ → A} (nth_field d (l ++ more) o) (nth_field d l o)
  grown l more o within = λ t j. same_at (l ++ more) l o j (λ h. get_or_append_left l more d (o.first + j) (omega arith)) t

  fresh_at : (l : List A) (o : KeptObject) → o.first ≡ length l → (j : ℕ) → nth_field d (l ++ replicate o.length d) o j ≡ d
  fresh_at l o e j = elim (leb_tells (suc j) o.length) [
    | inl t ↦ in_field (l ++ replicate o.length d) o j t.1
        ∙ (get_or-append_right l (replicate o.length d) (length l) (o.first + j) d refl (omega arith)
        ∙ get_or-replicate o.length (o.first + j - length l) d d (omega (arith, t.1)))
    | inr t ↦ ap (λ b. cond b (get_or (l ++ replicate o.length d) (o.first + j) d) d) t.0
  ]

  -- a new object has nothing in its fields
  pub fresh : (l : List A) (o : KeptObject) → o.first ≡ length l → ◌≡◌ {A = ℕ → A} (nth_field d (l ++ replicate o.length d) o) (λ _. d)
  fresh l o e = λ t j. fresh_at l o e j t

-- a field that an object has lies in the lists of fields
pub field_within : (kept : List KeptObject) (fields n f : ℕ) (o : KeptObject) → AreLaid (field_spans kept) fields → slice_get kept n ≡ Some o →
    f < o.length → o.first + f < fields
field_within kept fields n f o laid at_n h = omega (arith, laid.within n (span_of_fields o) (ap (option_map span_of_fields) at_n))

-- the spans of fields of two objects have no place in common
places_apart : (spans : ℕ → Option Span) (fields n k : ℕ) (a b : Span) → AreLaid spans fields → spans n ≡ Some a → spans k ≡ Some b →
    n ≢ k →
    (f j : ℕ) → f < a.len → j < b.len → b.start + j ≢ a.start + f
places_apart spans fields n k a b laid at_n at_k ne f j hf hj e = elim (leb_tells (suc n) k) [
  | inl t ↦ absurd (omega (arith, laid.behind n k a b t.1 at_n at_k))
  | inr t ↦ let less : k < n = omega (arith, t.1, ne) in absurd (omega (arith, laid.behind k n b a less at_k at_n))
]

module _ (kept : List KeptObject) (points : List (Option ℕ)) (numbers : List ℕ) where
  -- an object is put in the place of another one
  pub nth_replaced : (n : ℕ) (o : KeptObject) → n < length kept →
      ◌≡◌ {A = ℕ → Object} (λ k. object_of points numbers (slice_get (set kept n o) k))
      (upd (λ k. object_of points numbers (slice_get kept k)) n (object_of points numbers (Some o)))
  nth_replaced n o h = (λ t k. object_of points numbers (get_set kept n o k h t)) ∙ part_upd (object_of points numbers) (slice_get kept) n (Some o)

  -- a reference is written into a field of object n
  module _ (n f : ℕ) (o : KeptObject) (v : Option ℕ) (laid : AreLaid (field_spans kept) (length points)) (at_n : slice_get kept n ≡ Some o)
      (h : f < o.length) where
    span_n : field_spans kept n ≡ Some (span_of_fields o)
    span_n = ap (option_map span_of_fields) at_n

    points_else : (k : ℕ) → n ≢ k → (b : Option KeptObject) → slice_get kept k ≡ b →
        object_of (set points (o.first + f) v) numbers b ≡ object_of points numbers b
    points_else k ne None at_k = refl
    points_else k ne (Some b) at_k =
        let same = unwritten None points b (o.first + f) v (λ j hj. places_apart (field_spans kept) (length points) n k (span_of_fields o)
        (span_of_fields b) laid span_n (ap (option_map span_of_fields) at_k) ne f j h hj) in
        λ t. record (object_of points numbers (Some b)) { points = same t }

    points_here : object_of (set points (o.first + f) v) numbers (Some o) ≡ record (object_of points numbers (Some o)) {
      points =
          upd (nth_field None points o) f v;
    }
    points_here =
        let here = written None points o f v h (laid.within n (span_of_fields o) span_n) in
        λ t. record (object_of points numbers (Some o)) { points = here t }

    points_at : (k : ℕ) → object_of (set points (o.first + f) v) numbers (slice_get kept k)
        ≡ upd (λ k. object_of points numbers (slice_get kept k)) n (record (object_of points numbers (Some o)) {
          points =
              upd (nth_field None points o) f v;
        }) k
    points_at k =
        let old : ℕ → Object = λ k. object_of points numbers (slice_get kept k) in
        let new : Object = record (object_of points numbers (Some o)) { points = upd (nth_field None points o) f v } in
        split_at (λ k. object_of (set points (o.first + f) v) numbers (slice_get kept k) ≡ upd old n new k) n
        (ap (object_of (set points (o.first + f) v) numbers) at_n ∙ (points_here ∙ sym (upd_here old n new))) k
        (λ ne. points_else k ne (slice_get kept k) refl ∙ sym (upd_else old n new k ne))

    pub nth_points : ◌≡◌ {A = ℕ → Object} (λ k. object_of (set points (o.first + f) v) numbers (slice_get kept k))
        (upd (λ k. object_of points numbers (slice_get kept k)) n
        (record (object_of points numbers (slice_get kept n)) { points = upd (object_of points numbers (slice_get kept n)).points f v }))
    nth_points =
        let Written : Option KeptObject → Type 0 =
        λ b. ◌≡◌ {A = ℕ → Object} (λ k. object_of (set points (o.first + f) v) numbers (slice_get kept k))
        (upd (λ k. object_of points numbers (slice_get kept k)) n (record (object_of points numbers b) {
          points =
              upd (object_of points numbers b).points f v;
        })) in
        subst Written (sym at_n) (λ t k. points_at k t)

  -- a number is written into a field of object n
  module _ (n f : ℕ) (o : KeptObject) (v : ℕ) (laid : AreLaid (field_spans kept) (length numbers)) (at_n : slice_get kept n ≡ Some o)
      (h : f < o.length) where
    number_span : field_spans kept n ≡ Some (span_of_fields o)
    number_span = ap (option_map span_of_fields) at_n

    numbers_else : (k : ℕ) → n ≢ k → (b : Option KeptObject) → slice_get kept k ≡ b →
        object_of points (set numbers (o.first + f) v) b ≡ object_of points numbers b
    numbers_else k ne None at_k = refl
    numbers_else k ne (Some b) at_k =
        let same = unwritten 0 numbers b (o.first + f) v (λ j hj. places_apart (field_spans kept) (length numbers) n k (span_of_fields o)
        (span_of_fields b) laid number_span (ap (option_map span_of_fields) at_k) ne f j h hj) in
        λ t. record (object_of points numbers (Some b)) { number = same t }

    numbers_here : object_of points (set numbers (o.first + f) v) (Some o) ≡ record (object_of points numbers (Some o)) {
      number =
          upd (nth_field 0 numbers o) f v;
    }
    numbers_here =
        let here = written 0 numbers o f v h (laid.within n (span_of_fields o) number_span) in
        λ t. record (object_of points numbers (Some o)) { number = here t }

    numbers_at : (k : ℕ) → object_of points (set numbers (o.first + f) v) (slice_get kept k)
        ≡ upd (λ k. object_of points numbers (slice_get kept k)) n
        (record (object_of points numbers (Some o)) { number = upd (nth_field 0 numbers o) f v }) k
    numbers_at k =
        let old : ℕ → Object = λ k. object_of points numbers (slice_get kept k) in
        let new : Object = record (object_of points numbers (Some o)) { number = upd (nth_field 0 numbers o) f v } in
        split_at (λ k. object_of points (set numbers (o.first + f) v) (slice_get kept k) ≡ upd old n new k) n
        (ap (object_of points (set numbers (o.first + f) v)) at_n ∙ (numbers_here ∙ sym (upd_here old n new))) k
        (λ ne. numbers_else k ne (slice_get kept k) refl ∙ sym (upd_else old n new k ne))

    pub nth_numbers : ◌≡◌ {A = ℕ → Object} (λ k. object_of points (set numbers (o.first + f) v) (slice_get kept k))
        (upd (λ k. object_of points numbers (slice_get kept k)) n
        (record (object_of points numbers (slice_get kept n)) { number = upd (object_of points numbers (slice_get kept n)).number f v }))
    nth_numbers =
        let Written : Option KeptObject → Type 0 =
        λ b. ◌≡◌ {A = ℕ → Object} (λ k. object_of points (set numbers (o.first + f) v) (slice_get kept k))
        (upd (λ k. object_of points numbers (slice_get kept k)) n (record (object_of points numbers b) {
          number =
              upd (object_of points numbers b).number f v;
        })) in
        subst Written (sym at_n) (λ t k. numbers_at k t)

module _ {A : Type 0} where
  push_here : (l : List A) (x : A) → slice_get (l ++ x ∷ []) (length l) ≡ Some x
  push_here [] x = refl
  push_here (y ∷ ys) x = push_here ys x

  push_else : (l : List A) (x : A) (j : ℕ) → length l ≢ j → slice_get (l ++ x ∷ []) j ≡ slice_get l j
  push_else [] x zero h = absurd (h refl)
  push_else [] x (suc j) h = refl
  push_else (y ∷ ys) x zero h = refl
  push_else (y ∷ ys) x (suc j) h = push_else ys x j (λ e. h (ap suc e))

  -- a list with one more element, seen as a function
  pub get_push : (l : List A) (x : A) (j : ℕ) → slice_get (l ++ x ∷ []) j ≡ upd (slice_get l) (length l) (Some x) j
  get_push l x j =
      split_at (λ k. slice_get (l ++ x ∷ []) k ≡ upd (slice_get l) (length l) (Some x) k) (length l) (push_here l x
      ∙ sym (upd_here (slice_get l) (length l) (Some x))) j
      (λ n. push_else l x j n ∙ sym (upd_else (slice_get l) (length l) (Some x) j n))

module _ (kept : List KeptObject) (points : List (Option ℕ)) (numbers : List ℕ) (o : KeptObject) (laid : AreLaid (field_spans kept) (length points))
    (both : length numbers ≡ length points) (first : o.first ≡ length points) where
  old_object : (k : ℕ) (b : Option KeptObject) → slice_get kept k ≡ b →
      object_of (points ++ replicate o.length None) (numbers ++ replicate o.length 0) b ≡ object_of points numbers b
  old_object k None at_k = refl
  old_object k (Some b) at_k =
      let within : b.first + b.length ≤ length points = laid.within k (span_of_fields b) (ap (option_map span_of_fields) at_k) in
      let new_points = grown None points (replicate o.length None) b within in
      let new_numbers = grown 0 numbers (replicate o.length 0) b (omega arith) in
      λ t. record (object_of points numbers (Some b)) { points = new_points t; number = new_numbers t }

  new_object : object_of (points ++ replicate o.length None) (numbers ++ replicate o.length 0) (Some o) ≡ record
      (object_of points numbers (Some o)) { points = λ _. None; number = λ _. 0 }
  new_object =
      let new_points = fresh None points o first in
      let new_numbers = fresh 0 numbers o (first ∙ sym both) in
      λ t. record (object_of points numbers (Some o)) { points = new_points t; number = new_numbers t }

  born_at : (k : ℕ) → object_of (points ++ replicate o.length None) (numbers ++ replicate o.length 0) (slice_get (kept ++ o ∷ []) k)
      ≡ upd (λ k. object_of points numbers (slice_get kept k)) (length kept)
      (record (object_of points numbers (Some o)) { points = λ _. None; number = λ _. 0 }) k
  born_at k =
      let old : ℕ → Object = λ k. object_of points numbers (slice_get kept k) in
      let new : Object = record (object_of points numbers (Some o)) { points = λ _. None; number = λ _. 0 } in
      let look : Option KeptObject → Object = object_of (points ++ replicate o.length None) (numbers ++ replicate o.length 0) in
      split_at (λ k. look (slice_get (kept ++ o ∷ []) k) ≡ upd old (length kept) new k) (length kept)
      (ap look (push_here kept o) ∙ (new_object ∙ sym (upd_here old (length kept) new))) k
      (λ ne. ap look (push_else kept o k ne) ∙ (old_object k (slice_get kept k) refl ∙ sym (upd_else old (length kept) new k ne)))

  -- an object is born with nothing in its fields
  pub nth_born : ◌≡◌ {A = ℕ → Object}
      (λ k. object_of (points ++ replicate o.length None) (numbers ++ replicate o.length 0) (slice_get (kept ++ o ∷ []) k))
      (upd (λ k. object_of points numbers (slice_get kept k)) (length kept)
      (record (object_of points numbers (Some o)) { points = λ _. None; number = λ _. 0 }))
  nth_born = λ t k. born_at k t
