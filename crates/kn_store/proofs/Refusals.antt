-- A frame that is refused is refused in the view too.
use Rattle.std.proofs.Common.{◌≡◌, ◌≢◌, ℕ, ◌+◌, ◌-◌, ◌<◌, ◌≤◌, ◌⊎◌, inl, inr, Bool, true, List, length, Option}
use Rattle.std.proofs.Common.{Some, None, slice_get, slice_set, refl, sym, ap, ◌∙◌, subst, arith, length-set, eq-eqb, ne_eqb}
use Rattle.std.proofs.lemmas.Option.{slice_get_within}
use Rattle.kn_base.proofs.Updates.{get_set_here, get_set_else, split_at}
use Rattle.kn_store.specs.declared.finder.Seen.{Seen}
use Rattle.kn_store.specs.Search.{Search, count_of, first_of, is_early, refuse_seen, with_refused}
use Rattle.kn_store.specs.Agree.{KnowsSame, is_refused, refused_or, word_of}
use Rattle.kn_store.proofs.Ends.{is_near}

module _ (m : Search) (seen : List (Option ℕ)) (refused : List Bool) (same : KnowsSame m seen refused) (i : ℕ) (l : i < count_of m)
    (once : (first_of m + i < first_of m + length m.seen) ⊎ (m.early ≡ None)) where
  -- a flag of a view's list that is set is set there
  set_here : slice_get (slice_set refused (first_of m + i) true) (first_of m + i) ≡ Some true
  set_here = get_set_here refused (first_of m + i) true (slice_get_within refused (first_of m + i) (is_refused m i) (same.flags i l))

  set_else : (j : ℕ) → j < count_of m → i ≢ j → slice_get (slice_set refused (first_of m + i) true) (first_of m + j) ≡ Some (is_refused m j)
  set_else j near ne = get_set_else refused (first_of m + i) true (first_of m + j) (λ e. ne (omega arith)) ∙ same.flags j near

  knows_seen : (s : Seen) → slice_get m.seen i ≡ Some s →
      KnowsSame (record m { seen = slice_set m.seen i (record s { refused = true }) }) seen (slice_set refused (first_of m + i) true)
  knows_seen s at =
      let s' : Seen = record s { refused = true } in
      let here = get_set_here m.seen i s' (slice_get_within m.seen i s at) in
      record {
        few = let e = length-set m.seen i s' in let few = same.few in omega arith;
        words = λ j near. same.words j near
            ∙ split_at (λ j. Some (word_of (slice_get m.seen j)) ≡ Some (word_of (slice_get (slice_set m.seen i s') j))) i
            (ap (λ x. Some (word_of x)) at ∙ ap (λ x. Some (word_of x)) (sym here)) j
            (λ ne. ap (λ x. Some (word_of x)) (sym (get_set_else m.seen i s' j ne)));
        flags = λ j near. split_at (λ j. j < count_of m → slice_get (slice_set refused (first_of m + i) true) (first_of m + j)
            ≡ Some (refused_or (is_early m.early (first_of m + j)) (slice_get (slice_set m.seen i s') j))) i
            (λ _. set_here ∙ ap (λ x. Some (refused_or (is_early m.early (first_of m + i)) x)) (sym here)) j
            (λ ne near. set_else j near ne ∙ ap (λ x. Some (refused_or (is_early m.early (first_of m + j)) x))
            (sym (get_set_else m.seen i s' j ne))) near;
      }

  not_seen : slice_get m.seen i ≡ None → length m.seen ≤ i
  not_seen none = by (is_near m.seen i)
    where
      by : ((x : Seen) × (slice_get m.seen i ≡ Some x)) ⊎ (length m.seen ≤ i) → length m.seen ≤ i
      by (inl t) = let e = sym none ∙ t.1 in absurd (cc)
      by (inr h) = h

  none_early : slice_get m.seen i ≡ None → (first_of m + i < first_of m + length m.seen) ⊎ (m.early ≡ None) → m.early ≡ None
  none_early none (inl h) = let far = not_seen none in absurd (omega arith)
  none_early none (inr e) = e

  -- of another frame, seen or not, it is said as before whether it is refused
  same_else : (j : ℕ) → i ≢ j → m.early ≡ None → (x : Option Seen) →
      refused_or (is_early m.early (first_of m + j)) x ≡ refused_or (is_early (Some (first_of m + i)) (first_of m + j)) x
  same_else j ne e None = ap (λ o. is_early o (first_of m + j)) e ∙ sym (ne_eqb (first_of m + i) (first_of m + j) (λ e. ne (omega arith)))
  same_else j ne e (Some s) = refl

  knows_early : slice_get m.seen i ≡ None →
      KnowsSame (record m { early = Some (first_of m + i) }) seen (slice_set refused (first_of m + i) true)
  knows_early none =
      let e = none_early none once in
      record {
        few = same.few;
        words = same.words;
        flags = λ j near. split_at (λ j. j < count_of m → slice_get (slice_set refused (first_of m + i) true) (first_of m + j)
            ≡ Some (refused_or (is_early (Some (first_of m + i)) (first_of m + j)) (slice_get m.seen j))) i
            (λ _. set_here ∙ (ap Some (sym (eq-eqb (first_of m + i) (first_of m + i) refl))
            ∙ ap (λ x. Some (refused_or (is_early (Some (first_of m + i)) (first_of m + i)) x)) (sym none))) j
            (λ ne near. set_else j near ne ∙ ap Some (same_else j ne e (slice_get m.seen j))) near;
      }

  knows_by : (x : Option Seen) → slice_get m.seen i ≡ x →
      KnowsSame (refuse_seen m (first_of m + i) x) seen (slice_set refused (first_of m + i) true)
  knows_by None e = knows_early e
  knows_by (Some s) e =
      let is : (first_of m + i) - first_of m ≡ i = omega arith in
      subst (λ n. KnowsSame (record m { seen = slice_set m.seen n (record s { refused = true }) }) seen (slice_set refused (first_of m + i) true))
      (sym is) (knows_seen s e)

-- where a frame of the area is refused, the view and the finder go on knowing the same
pub knows_refused : (m : Search) (seen : List (Option ℕ)) (refused : List Bool) (p : ℕ) → (first_of m ≤ p) × (p < first_of m + count_of m) →
    (p < first_of m + length m.seen) ⊎ (m.early ≡ None) → KnowsSame m seen refused → KnowsSame (with_refused m p) seen (slice_set refused p true)
knows_refused m seen refused p area once same =
    let i = p - first_of m in
    let from = area.0 in let to = area.1 in
    let is : first_of m + i ≡ p = omega arith in
    subst (λ p. KnowsSame (refuse_seen m p (slice_get m.seen i)) seen (slice_set refused p true)) is
    (knows_by m seen refused same i (omega arith) (subst (λ p. (p < first_of m + length m.seen) ⊎ (m.early ≡ None)) (sym is) once)
    (slice_get m.seen i) refl)
