-- The views by what is stored, one caller's part changed.
use Rattle.std.proofs.Common.{◌≡◌, ◌≢◌, ℕ, zero, suc, ◌+◌, ◌<◌, ◌≤◌, cond, List, [], ◌∷◌, ◌++◌, length, map}
use Rattle.std.proofs.Common.{refl, sym, ap, ◌∙◌, arith}
use Rattle.std.proofs.Common.{slice_set, slice_index_or, eq-eqb, ne_eqb}
use Rattle.kn_graph.specs.declared.entries.Entry.{Entry}
use Rattle.kn_graph.specs.declared.entries.Event.{Event}
use Rattle.kn_graph.specs.Ground.{Ground}
use Rattle.kn_graph.specs.Logs.{log_of}
use Rattle.kn_graph.proofs.Splits.{log_of-append}
use Rattle.kn_rule.specs.Views.{View}
use Rattle.kn_rule.specs.Steps.{more}
use Rattle.kn_view.specs.Parts.{Part, view_with}
use Rattle.kn_holds.specs.Holds.{Hold}
use Rattle.kn_board.specs.Parts.{own_of, view_of, views_from}
use Rattle.kn_board.specs.Room.{IsAtMostOne}
use Rattle.kn_board.specs.Stored.{part_at}

-- what a step says comes to its caller's log
pub log_mine : (IsSort : Event → Type 0) (by : ℕ) (h says : List Entry) → IsAtMostOne IsSort by says →
    log_of by (more h says) ≡ more (log_of by h) says
log_mine IsSort by h [] m = refl
log_mine IsSort by h (e ∷ []) m =
    log_of-append by h e ∙ ap (λ b. cond b (log_of by h ++ e ∷ []) (log_of by h)) (eq-eqb e.by.0 by m.0)
log_mine IsSort by h (e ∷ x ∷ rest) m = absurd m

-- and to no other
pub log_other : (IsSort : Event → Type 0) (by c : ℕ) (h says : List Entry) → IsAtMostOne IsSort by says → by ≢ c →
    log_of c (more h says) ≡ log_of c h
log_other IsSort by c h [] m n = refl
log_other IsSort by c h (e ∷ []) m n =
    log_of-append c h e ∙ ap (λ b. cond b (log_of c h ++ e ∷ []) (log_of c h)) (ne_eqb e.by.0 c (λ i. n (sym m.0 ∙ i)))
log_other IsSort by c h (e ∷ x ∷ rest) m n = absurd m

module _ (z : Ground) where
  pub long_from : (n : ℕ) (parts : List Part) (holds : List Hold) (h : List Entry) → length (views_from z n parts holds h) ≡ length parts
  long_from n [] holds h = refl
  long_from n (x ∷ parts) holds h = ap suc (long_from (n + 1) parts holds h)

  at_from : (n : ℕ) (parts : List Part) (holds : List Hold) (h : List Entry) (i : ℕ) (d : View) → i < length parts →
      slice_index_or (views_from z n parts holds h) i d ≡ view_of z (n + i) (part_at z parts i) holds h
  at_from n [] holds h i d l = absurd (omega arith)
  at_from n (x ∷ parts) holds h zero d l = let e : n ≡ n + 0 = omega arith in ap (λ m. view_of z m x holds h) e
  at_from n (x ∷ parts) holds h (suc i) d l =
      let e : (n + 1) + i ≡ n + suc i = omega arith in
      at_from (n + 1) parts holds h i d (omega arith) ∙ ap (λ m. view_of z m (part_at z parts i) holds h) e

  -- the view of one caller
  pub view_stored : (parts : List Part) (holds : List Hold) (h : List Entry) (i : ℕ) (d : View) → i < length parts →
      slice_index_or (views_from z 0 parts holds h) i d ≡ view_of z i (part_at z parts i) holds h
  view_stored parts holds h i d l =
      let e : 0 + i ≡ i = omega arith in at_from 0 parts holds h i d l ∙ ap (λ m. view_of z m (part_at z parts i) holds h) e

  module _ (holds holds' : List Hold) (h h' : List Entry) where
    -- a caller's view stays, whatever its part is
    abbrev pub Stays : ℕ → Type 0
    Stays c = (map (own_of c) holds' ≡ map (own_of c) holds) × (log_of c h' ≡ log_of c h)

    stays : (c : ℕ) (part : Part) → Stays c → view_of z c part holds' h' ≡ view_of z c part holds h
    stays c part s = λ t. view_with z part (s.0 t) (s.1 t)

    same_from : (n : ℕ) (parts : List Part) → ((c : ℕ) → n ≤ c → c < n + length parts → Stays c) →
        views_from z n parts holds' h' ≡ views_from z n parts holds h
    same_from n [] o = refl
    same_from n (x ∷ parts) o =
        λ t. stays n x (o n (omega arith) (omega arith)) t ∷ same_from (n + 1) parts (λ c a b. o c (omega arith) (omega arith)) t

    set_from : (n : ℕ) (parts : List Part) (i : ℕ) (new : Part) → i < length parts →
        ((c : ℕ) → n ≤ c → c < n + length parts → n + i ≢ c → Stays c) →
        views_from z n (slice_set parts i new) holds' h' ≡ slice_set (views_from z n parts holds h) i (view_of z (n + i) new holds' h')
    set_from n [] i new l o = absurd (omega arith)
    set_from n (x ∷ parts) zero new l o =
        let e : n ≡ n + 0 = omega arith in
        λ t. view_of z (e t) new holds' h' ∷ same_from (n + 1) parts
        (λ c a b. o c (omega arith) (omega arith) (λ y. (let u : n + 0 ≡ c = y in absurd (omega arith)))) t
    set_from n (x ∷ parts) (suc i) new l o =
        let e : (n + 1) + i ≡ n + suc i = omega arith in
        let rest = set_from (n + 1) parts i new (omega arith) (λ c a b d. o c (omega arith) (omega arith) (λ y. d (e ∙ y))) in
        let first = stays n x (o n (omega arith) (omega arith) (λ y. (let u : n + suc i ≡ n = y in absurd (omega arith)))) in
        λ t. first t ∷ (rest ∙ ap (λ m. slice_set (views_from z (n + 1) parts holds h) i (view_of z m new holds' h')) e) t

    -- one caller's view is changed, and all others stay
    pub views_set : (parts : List Part) (by : ℕ) (new : Part) → by < length parts → ((c : ℕ) → c < length parts → by ≢ c → Stays c) →
        views_from z 0 (slice_set parts by new) holds' h' ≡ slice_set (views_from z 0 parts holds h) by (view_of z by new holds' h')
    views_set parts by new l o =
        let e : 0 + by ≡ by = omega arith in
        set_from 0 parts by new l (λ c a b d. o c (omega arith) (λ y. d (e ∙ y)))
        ∙ ap (λ m. slice_set (views_from z 0 parts holds h) by (view_of z m new holds' h')) e
