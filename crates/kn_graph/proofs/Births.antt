-- A sound graph where one object is born.
use Rattle.std.proofs.Common.{◌≡◌, ◌≢◌, ℕ, ◌+◌, ◌<◌, ◌≤◌, inl, inr, false, Option, Some, refl, ap, ◌∙◌, slice_get, arith}
use Rattle.kn_base.specs.declared.numbers.Span.{Span}
use Rattle.kn_base.specs.Spans.{AreApart}
use Rattle.kn_base.proofs.Updates.{upd_case, upd_here, upd_else}
use Rattle.kn_graph.specs.Ground.{Ground}
use Rattle.kn_graph.specs.Graph.{Graph, Object, shape_of, shapes, pointers, words_of, Lives, newborn, cell_at, with_birth, IsFree, IsLegalBirth}
use Rattle.kn_graph.specs.Collections.{IsSettled}
use Rattle.kn_graph.specs.Sound.{Alive, FieldsAlive, FlagsAgree, HasCell, MayHaveLength, IsSound, finalization_of}
use Rattle.kn_graph.proofs.ObjectChanges.{fields_still}
use Rattle.kn_graph.proofs.Writes.{alive_still, roots_still, local_alive, local_in_range, names_still}

turned : (a b : Span) → AreApart a b → AreApart b a
turned a b (inl e) = inr e
turned a b (inr e) = inl e

-- the new object agrees with itself, and has words that are free
module _ (z : Ground) (g : Graph) (s : IsSound z g) (thread r : ℕ) (near : thread < z.sizes.threads) (small : r ≤ 15) (new : Object)
    (free : new.condemned ≡ false)
    (fields : FieldsAlive z (g.born + 1) (shapes (with_birth g thread r new)) (shape_of new) new.points)
    (flags : FlagsAgree (shape_of new) (finalization_of new))
    (cell : HasCell z (shape_of new))
    (clear : IsFree g (words_of (shape_of new)))
    (settled : IsSettled g.paused new) where
  older : (k : ℕ) → g.born ≢ k → k < g.born + 1 → k < g.born
  older k ne h = omega arith

  still : (x : Option ℕ) → Alive g.born (shapes g) x → Alive (g.born + 1) (shapes (with_birth g thread r new)) x
  still = alive_still g.born (shapes g) (g.born + 1) (shapes (with_birth g thread r new)) (omega arith)
      (λ k h free. ap (λ (o : Object). o.condemned) (upd_else g.object g.born new k (λ e. omega arith)) ∙ free)

  new_alive : Alive (g.born + 1) (shapes (with_birth g thread r new)) (Some g.born)
  new_alive = (omega arith, ap (λ (o : Object). o.condemned) (upd_here g.object g.born new) ∙ free)

  apart_of_new : (k : ℕ) → Lives (g.born + 1) (shapes (with_birth g thread r new)) k → g.born ≢ k →
      AreApart (words_of (shape_of new)) (words_of (shapes (with_birth g thread r new) k))
  apart_of_new k l = upd_case
      (λ k (y : Object). k < g.born + 1 → y.released ≡ false → g.born ≢ k → AreApart (words_of (shape_of new)) (words_of (shape_of y)))
      g.object g.born new (λ _ _ ne. absurd (ne refl)) k
      (λ ne h e _. turned (words_of (shapes g k)) (words_of (shape_of new)) (clear k (older k ne h, e))) l.0 l.1

  apart_of_old : (i k : ℕ) → Lives g.born (shapes g) i → Lives (g.born + 1) (shapes (with_birth g thread r new)) k → i ≢ k →
      AreApart (words_of (shapes g i)) (words_of (shapes (with_birth g thread r new) k))
  apart_of_old i k li l = upd_case
      (λ k (y : Object). k < g.born + 1 → y.released ≡ false → i ≢ k → AreApart (words_of (shapes g i)) (words_of (shape_of y)))
      g.object g.born new (λ _ _ _. clear i li) k (λ ne h e ik. s.apart i k li (older k ne h, e) ik) l.0 l.1

  apart_then : (i k : ℕ) → Lives (g.born + 1) (shapes (with_birth g thread r new)) i → Lives (g.born + 1) (shapes (with_birth g thread r new)) k →
      i ≢ k → AreApart (words_of (shapes (with_birth g thread r new) i)) (words_of (shapes (with_birth g thread r new) k))
  apart_then i k li l = upd_case
      (λ i (y : Object). i < g.born + 1 → y.released ≡ false → i ≢ k →
      AreApart (words_of (shape_of y)) (words_of (shapes (with_birth g thread r new) k)))
      g.object g.born new (λ _ _ ne. apart_of_new k l ne) i (λ ne h e. apart_of_old i k (older i ne h, e) l) li.0 li.1

  born_sound : IsSound z (with_birth g thread r new)
  born_sound = record {
    roots = local_alive (g.born + 1) (shapes (with_birth g thread r new)) g.local g.global g.stable g.back g.count
        (roots_still g.born (shapes g) g.local g.global g.stable g.back g.count s.roots (g.born + 1) (shapes (with_birth g thread r new)) still)
        thread r (Some g.born) new_alive;
    ranges = local_in_range z.sizes g.local g.global g.stable g.weak g.back s.ranges thread r (Some g.born) near small;
    names = names_still g.born g.weak g.back g.count s.names (g.born + 1) (omega arith);
    epochs = s.epochs;
    ahead = s.ahead;
    fields = λ k h. upd_case (λ k (y : Object). FieldsAlive z (g.born + 1) (shapes (with_birth g thread r new)) (shape_of y) y.points)
        g.object g.born new fields k
        (λ ne. fields_still z g.born (shapes g) (g.born + 1) (shapes (with_birth g thread r new)) still (shapes g k) (pointers g k)
        (s.fields k (older k ne h)));
    flags = λ k h. upd_case (λ k (y : Object). FlagsAgree (shape_of y) (finalization_of y)) g.object g.born new flags k
        (λ ne. s.flags k (older k ne h));
    cells = λ k h. upd_case (λ k (y : Object). HasCell z (shape_of y)) g.object g.born new cell k (λ ne. s.cells k (older k ne h));
    apart = apart_then;
    settled = λ e k h. upd_case (λ k (y : Object). IsSettled g.paused y) g.object g.born new settled k (λ ne. s.settled e k (older k ne h));
  }

pub birth_sound : (z : Ground) (g : Graph) → IsSound z g → (thread r address layout n : ℕ) → thread < z.sizes.threads → r ≤ 15 →
    MayHaveLength (slice_get z.layouts layout) n → IsLegalBirth z g (cell_at address n) → IsSound z (with_birth g thread r (newborn address layout n))
birth_sound z g s thread r address layout n near small laid_out legal = born_sound z g s thread r near small (newborn address layout n) refl
    (record { kinds = λ f m e. absurd (cc); values = λ _ f. tt })
    (record { released = λ _. refl; queued = λ _. refl; tied = λ e. absurd (cc); finalized = λ e. absurd (e refl); let_go = λ e. absurd (cc) })
    (record { laid_out = laid_out; placed = legal.in_frame }) legal.free
    (record { plain = λ e _. absurd (cc); tied = λ e _. absurd (cc); finalized = λ e. absurd e })
