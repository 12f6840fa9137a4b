-- A view and a finder go on knowing the same where both see one word more.
use Rattle.std.proofs.Common.{◌≡◌, ◌≢◌, ℕ, zero, suc, ◌+◌, ◌<◌, ◌≤◌, inl, inr, Bool, List, [], ◌∷◌, ◌++◌, length}
use Rattle.std.proofs.Common.{Option, Some, slice_get}
use Rattle.std.proofs.Common.{slice_set, refl, sym, ap, ◌∙◌, subst, arith, length-set}
use Rattle.std.specs.List.{AllByRecursion}
use Rattle.std.proofs.lemmas.Option.{slice_get_past, slice_get_within}
use Rattle.kn_base.proofs.Updates.{get_set_here, get_set_else, split_at}
use Rattle.kn_store.specs.declared.best.Best.{Best}
use Rattle.kn_store.specs.declared.finder.Seen.{Seen}
use Rattle.kn_store.specs.Search.{IsRank, KeepsBest, Search, count_of, first_of, is_early, saw_again, saw_next}
use Rattle.kn_store.specs.Agree.{KnowsSame, is_refused, refused_or, word_of}
use Rattle.kn_store.proofs.Bests.{better_keeps}

one_more : {A : Type 0} (l : List A) (x : A) → slice_get (l ++ x ∷ []) (length l) ≡ Some x
one_more [] x = refl
one_more (y ∷ l) x = one_more l x

others_stay : {A : Type 0} (l : List A) (x : A) (i : ℕ) → length l ≢ i → slice_get (l ++ x ∷ []) i ≡ slice_get l i
others_stay [] x zero ne = absurd (ne refl)
others_stay [] x (suc i) ne = slice_get_past [] i (omega arith)
others_stay (y ∷ l) x zero ne = refl
others_stay (y ∷ l) x (suc i) ne = others_stay l x i (λ e. ne (ap suc e))

length_more : {A : Type 0} (l : List A) (x : A) → length (l ++ x ∷ []) ≡ length l + 1
length_more [] x = refl
length_more (y ∷ l) x = let h = length_more l x in omega arith

pub all_more : {A : Type 0} (P : A → Type 0) (l : List A) (x : A) → AllByRecursion P l → P x → AllByRecursion P (l ++ x ∷ [])
all_more P [] x all p = (p, all)
all_more P (y ∷ l) x all p = (all.0, all_more P l x all.1 p)

-- the best of some frames is the best of them beside one more
pub best_beside : (class : ℕ) (l : List Seen) (x : Seen) (i r : ℕ) → KeepsBest class l (length l) i r → KeepsBest class (l ++ x ∷ []) (length l) i r
best_beside class l x i r (inr (none, e)) =
    inr (λ j t near at. none j t near (sym (others_stay l x j (λ e. let y = e in absurd (omega arith))) ∙ at), e)
best_beside class l x i r (inl (s, b, e)) =
    let n = b.near in
    inl (
      s,
      record {
        near = n;
        at = others_stay l x i (λ e. let y = e in absurd (omega arith)) ∙ b.at;
        fit = b.fit;
        best = λ j t near at. b.best j t near (sym (others_stay l x j (λ e. let y = e in absurd (omega arith))) ∙ at);
      },
      e,
    )

-- the best of some frames and of one more, which is seen
pub best_with : (class : ℕ) (l : List Seen) (x : Seen) (b b' : Best) (k : ℕ) → KeepsBest class l (length l) b.number b.rank → IsRank class x k →
    (k < b.rank → b' ≡ record { number = length l; rank = k }) → (b.rank ≤ k → b' ≡ b) →
    KeepsBest class (l ++ x ∷ []) (length (l ++ x ∷ [])) b'.number b'.rank
best_with class l x b b' k keeps is better same =
    subst (λ n. KeepsBest class (l ++ x ∷ []) n b'.number b'.rank) (sym (length_more l x))
    (better_keeps class (l ++ x ∷ []) (length l) x b b' k (one_more l x) (best_beside class l x b.number b.rank keeps) is better same)

module _ (m : Search) (seen : List (Option ℕ)) (refused : List Bool) (same : KnowsSame m seen refused) (w : ℕ) where
  -- the word of frame number i was seen in this view, and what the finder has of the others stays
  words_after : (seen' : List Seen) (i : ℕ) (s : Seen) → i < count_of m → slice_get seen' i ≡ Some s → s.word ≡ w →
      ((j : ℕ) → i ≢ j → slice_get seen' j ≡ slice_get m.seen j) → (j : ℕ) → j < count_of m →
      slice_get (slice_set seen (first_of m + i) (Some w)) (first_of m + j) ≡ Some (word_of (slice_get seen' j))
  words_after seen' i s near here is there j l =
      split_at (λ j. slice_get (slice_set seen (first_of m + i) (Some w)) (first_of m + j) ≡ Some (word_of (slice_get seen' j))) i
      (get_set_here seen (first_of m + i) (Some w) (slice_get_within seen (first_of m + i) (word_of (slice_get m.seen i)) (same.words i near))
      ∙ (ap (λ n. Some (Some n)) (sym is) ∙ ap (λ x. Some (word_of x)) (sym here))) j
      (λ ne. get_set_else seen (first_of m + i) (Some w) (first_of m + j) (λ e. ne (omega arith))
      ∙ (same.words j l ∙ ap (λ x. Some (word_of x)) (sym (there j ne))))

  flags_after : (seen' : List Seen) (i : ℕ) (s : Seen) → i < count_of m → slice_get seen' i ≡ Some s → is_refused m i ≡ s.refused →
      ((j : ℕ) → i ≢ j → slice_get seen' j ≡ slice_get m.seen j) → (j : ℕ) → j < count_of m →
      slice_get refused (first_of m + j) ≡ Some (refused_or (is_early m.early (first_of m + j)) (slice_get seen' j))
  flags_after seen' i s near here is there j l =
      same.flags j l
      ∙ split_at (λ j. Some (is_refused m j) ≡ Some (refused_or (is_early m.early (first_of m + j)) (slice_get seen' j))) i
      (ap Some is ∙ ap (λ x. Some (refused_or (is_early m.early (first_of m + i)) x)) (sym here)) j
      (λ ne. ap (λ x. Some (refused_or (is_early m.early (first_of m + j)) x)) (sym (there j ne)))

  pub sees_next : length m.seen < count_of m → KnowsSame (saw_next m w) (slice_set seen (first_of m + length m.seen) (Some w)) refused
  sees_next near =
      let n = length m.seen in
      let s : Seen = record { word = w; refused = is_early m.early (first_of m + n) } in
      record {
        few = let e = length_more m.seen s in omega arith;
        words = words_after (m.seen ++ s ∷ []) n s near (one_more m.seen s) refl (others_stay m.seen s);
        flags = flags_after (m.seen ++ s ∷ []) n s near (one_more m.seen s)
            (ap (refused_or (is_early m.early (first_of m + n))) (slice_get_past m.seen n (omega arith))) (others_stay m.seen s);
      }

  pub sees_again : (i : ℕ) (s : Seen) → i < count_of m → slice_get m.seen i ≡ Some s →
      KnowsSame (saw_again m i s w) (slice_set seen (first_of m + i) (Some w)) refused
  sees_again i s near at =
      let s' : Seen = record s { word = w } in
      let in_list = slice_get_within m.seen i s at in
      record {
        few = let e = length-set m.seen i s' in let few = same.few in omega arith;
        words = words_after (slice_set m.seen i s') i s' near (get_set_here m.seen i s' in_list) refl (λ j ne. get_set_else m.seen i s' j ne);
        flags = flags_after (slice_set m.seen i s') i s' near (get_set_here m.seen i s' in_list)
            (ap (refused_or (is_early m.early (first_of m + i))) at) (λ j ne. get_set_else m.seen i s' j ne);
      }
