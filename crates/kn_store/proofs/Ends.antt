-- Where the search of a view has ended, so has the finder's.
use Rattle.std.proofs.Common.{◌≡◌, ℕ, zero, suc, ◌+◌, ◌<◌, ◌≤◌, ◌⊎◌, inl, inr, Bool, true, false, List, [], ◌∷◌, length}
use Rattle.std.proofs.Common.{Option, Some, None, slice_get, refl, sym, ap, ◌∙◌, subst, arith}
use Rattle.std.proofs.lemmas.Bool.{cases_lt, cases_Bool}
use Rattle.std.proofs.lemmas.Option.{none-some, same_Some, slice_get_within}
use Rattle.kn_graph.specs.declared.calls.Call.{Call}
use Rattle.kn_graph.specs.Ground.{Ground}
use Rattle.kn_rule.specs.Requests.{area_count, area_from, class_asked, is_usable}
use Rattle.kn_rule.specs.Searches.{done_from, is_over}
use Rattle.kn_rule.specs.Laws.{IsRuledOut}
use Rattle.kn_rule.proofs.Searched.{searches_end}
use Rattle.kn_store.specs.declared.finder.Seen.{Seen}
use Rattle.kn_store.specs.Search.{Search, IsOpen, IsOver, count_of, first_of, is_early}
use Rattle.kn_store.specs.Agree.{KnowsSame, TellsOver, is_refused, refused_or, word_of}

word_told : (x : Option Seen) (w : ℕ) → word_of x ≡ Some w → (s : Seen) × (x ≡ Some s) × (s.word ≡ w)
word_told None w e = absurd (none-some w e)
word_told (Some s) w e = (s, refl, same_Some s.word w e)

module _ (m : Search) (seen : List (Option ℕ)) (refused : List Bool) (same : KnowsSame m seen refused)
    (ended : (k : ℕ) → k < count_of m → IsRuledOut m.class seen refused (first_of m + k)) where
  flag_told : (k : ℕ) (s : Seen) → k < count_of m → slice_get m.seen k ≡ Some s → slice_get refused (first_of m + k) ≡ Some true →
      s.refused ≡ true
  flag_told k s l e r =
      sym (ap (refused_or (is_early m.early (first_of m + k))) e)
      ∙ same_Some (is_refused m k) true (sym (same.flags k l) ∙ r)

  ruled_at : (k : ℕ) → k < count_of m → (s : Seen) × (slice_get m.seen k ≡ Some s) × ((s.refused ≡ true) ⊎ (is_usable m.class s.word ≡ false))
  ruled_at k l =
      let h = ended k l in
      let t = word_told (slice_get m.seen k) h.0 (same_Some (word_of (slice_get m.seen k)) (Some h.0) (sym (same.words k l) ∙ h.1)) in
      (t.0, t.1, by t.0 h.0 t.1 t.2 h.2)
    where
      by : (s : Seen) (w : ℕ) → slice_get m.seen k ≡ Some s → s.word ≡ w →
          (slice_get refused (first_of m + k) ≡ Some true) ⊎ (is_usable m.class w ≡ false) →
          (s.refused ≡ true) ⊎ (is_usable m.class s.word ≡ false)
      by s w e is (inl r) = inl (flag_told k s l e r)
      by s w e is (inr u) = inr (ap (is_usable m.class) is ∙ u)

  all_seen_by : (length m.seen < count_of m) ⊎ (count_of m ≤ length m.seen) → length m.seen ≡ count_of m
  all_seen_by (inl l) =
      let t = ruled_at (length m.seen) l in
      let near = slice_get_within m.seen (length m.seen) t.0 t.1 in absurd (omega arith)
  all_seen_by (inr l) = let few = same.few in omega arith

  not_open : (s : Seen) → (s.refused ≡ true) ⊎ (is_usable m.class s.word ≡ false) → IsOpen m.class s → ⊥
  not_open s (inl r) o = let x = sym r ∙ o.1 in cc
  not_open s (inr u) o = let x = sym u ∙ o.0 in cc

  none_open : (j : ℕ) (t : Seen) → j < count_of m → slice_get m.seen j ≡ Some t → IsOpen m.class t → ⊥
  none_open j t l e o =
      let h = ruled_at j l in
      let is : h.0 ≡ t = same_Some h.0 t (sym h.1 ∙ e) in
      not_open t (subst (λ (s : Seen). (s.refused ≡ true) ⊎ (is_usable m.class s.word ≡ false)) is h.2) o

  pub ends : IsOver m
  ends = (all_seen_by (cases_lt (length m.seen) (count_of m)), none_open)

pub is_near : {A : Type 0} (l : List A) (k : ℕ) → ((x : A) × (slice_get l k ≡ Some x)) ⊎ (length l ≤ k)
is_near [] k = inr (omega arith)
is_near (x ∷ l) zero = inl (x, refl)
is_near {A} (x ∷ l) (suc k) = by (is_near l k)
  where
    by : ((y : A) × (slice_get l k ≡ Some y)) ⊎ (length l ≤ k) → ((y : A) × (slice_get l k ≡ Some y)) ⊎ (suc (length l) ≤ suc k)
    by (inl t) = inl t
    by (inr h) = inr (omega arith)

-- each frame of a search that has ended is ruled out in a view that knows the same
module _ (m : Search) (seen : List (Option ℕ)) (refused : List Bool) (same : KnowsSame m seen refused) (over : IsOver m) where
  closed : (s : Seen) → (IsOpen m.class s → ⊥) → (is_usable m.class s.word ≡ true) ⊎ (is_usable m.class s.word ≡ false) →
      (s.refused ≡ true) ⊎ (s.refused ≡ false) → (s.refused ≡ true) ⊎ (is_usable m.class s.word ≡ false)
  closed s none (inl u) (inl r) = inl r
  closed s none (inl u) (inr r) = absurd (none (u, r))
  closed s none (inr u) r = inr u

  flag_shown : (k : ℕ) (s : Seen) → k < count_of m → slice_get m.seen k ≡ Some s →
      (s.refused ≡ true) ⊎ (is_usable m.class s.word ≡ false) →
      (slice_get refused (first_of m + k) ≡ Some true) ⊎ (is_usable m.class s.word ≡ false)
  flag_shown k s l e (inl r) =
      inl (same.flags k l ∙ (ap (λ x. Some (refused_or (is_early m.early (first_of m + k)) x)) e ∙ ap Some r))
  flag_shown k s l e (inr u) = inr u

  ruled_by : (k : ℕ) → k < count_of m → ((s : Seen) × (slice_get m.seen k ≡ Some s)) ⊎ (length m.seen ≤ k) →
      IsRuledOut m.class seen refused (first_of m + k)
  ruled_by k l (inl t) = (
    t.0.word,
    same.words k l ∙ ap (λ x. Some (word_of x)) t.1,
    flag_shown k t.0 l t.1 (closed t.0 (over.1 k t.0 l t.1) (cases_Bool (is_usable m.class t.0.word)) (cases_Bool t.0.refused)),
  )
  ruled_by k l (inr h) = let e = over.0 in absurd (omega arith)

  pub ruled_out : (k : ℕ) → k < count_of m → IsRuledOut m.class seen refused (first_of m + k)
  ruled_out k l = ruled_by k l (is_near m.seen k)

-- the lists of a view that knows the same as a search that has ended say so
pub over_shown : (z : Ground) (call : Call) (m : Search) (seen : List (Option ℕ)) (refused : List Bool) → z.sizes ≡ m.sizes →
    m.class ≡ class_asked z call → KnowsSame m seen refused → IsOver m → is_over z call seen refused ≡ true
over_shown z call m seen refused sizes class same over =
    sym (λ t. done_from (class t) seen refused (area_from (sym sizes t) (class t)) (area_count (sym sizes t) (class t)))
    ∙ (searches_end m.class seen refused (first_of m) (count_of m)).1 (ruled_out m seen refused same over)

-- a search that a view's lists say has ended has ended
pub over_told : (z : Ground) (call : Call) (m : Search) (seen : List (Option ℕ)) (refused : List Bool) → z.sizes ≡ m.sizes →
    m.class ≡ class_asked z call → KnowsSame m seen refused → is_over z call seen refused ≡ true → IsOver m
over_told z call m seen refused sizes class same e =
    let done : done_from m.class seen refused (first_of m) (count_of m) ≡ true =
    (λ t. done_from (class t) seen refused (area_from (sym sizes t) (class t)) (area_count (sym sizes t) (class t))) ∙ e in
    ends m seen refused same ((searches_end m.class seen refused (first_of m) (count_of m)).0 done)

pub over_is_told : (m : Search) → TellsOver m
over_is_told m z call seen refused sizes class same =
    (over_told z call m seen refused sizes class same, over_shown z call m seen refused sizes class same)
