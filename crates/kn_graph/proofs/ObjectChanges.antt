-- A sound graph where one object is changed.
use Rattle.std.proofs.Common.{◌≡◌, ◌≢◌, ℕ, ◌<◌, ◌⊎◌, inr, true, false, Option, Some, None, refl, sym, subst, ap, ◌∙◌}
use Rattle.std.proofs.Common.{arith}
use Rattle.kn_base.specs.declared.numbers.Span.{Span}
use Rattle.kn_base.specs.Spans.{AreApart}
use Rattle.kn_base.specs.Functions.{upd}
use Rattle.kn_base.proofs.Updates.{upd_case}
use Rattle.kn_layout.specs.declared.layouts.FieldKind.TheVariants.{Ref as of_ref}
use Rattle.kn_graph.specs.Ground.{Ground}
use Rattle.kn_graph.specs.Graph.{Graph, Object, Shape, shape_of, shapes, pointers, words_of, field_kind, Lives}
use Rattle.kn_graph.specs.Graph.{with_object, with_points, with_number, with_tie}
use Rattle.kn_graph.specs.Collections.{IsSettled}
use Rattle.kn_graph.specs.Sound.{Alive, FieldsAlive, FlagsAgree, HasCell, IsSound, finalization_of}
use Rattle.kn_graph.proofs.Writes.{alive_still, roots_still}

module _ (z : Ground) where
  pub fields_still : (born : ℕ) (shape : ℕ → Shape) (born' : ℕ) (shape' : ℕ → Shape) →
      ((x : Option ℕ) → Alive born shape x → Alive born' shape' x) →
      (o : Shape) (points : ℕ → Option ℕ) → FieldsAlive z born shape o points → FieldsAlive z born' shape' o points
  fields_still born shape born' shape' still o points s = record { kinds = s.kinds; values = λ free f. still (points f) (s.values free f) }

  -- one object is changed: not its cell, and not whether it is condemned
  module _ (g : Graph) (s : IsSound z g) (n : ℕ) (near : n < g.born) (o : Object)
      (like : shape_of o ≡ record (shapes g n) { released = o.released })
      (kept : o.released ≡ false → (g.object n).released ≡ false)
      (fields : FieldsAlive z g.born (shapes g) (shape_of o) o.points)
      (flags : FlagsAgree (shape_of o) (finalization_of o))
      (settled : g.done ≡ g.paused → IsSettled g.paused o) where
    same_condemned : (k : ℕ) → (upd g.object n o k).condemned ≡ (g.object k).condemned
    same_condemned k = upd_case (λ k (y : Object). y.condemned ≡ (g.object k).condemned) g.object n o (ap (λ (h : Shape). h.condemned) like) k
        (λ _. refl)

    still : (x : Option ℕ) → Alive g.born (shapes g) x → Alive g.born (shapes (with_object g n o)) x
    still = alive_still g.born (shapes g) g.born (shapes (with_object g n o)) (omega arith) (λ k _ free. same_condemned k ∙ free)

    lived : (k : ℕ) → Lives g.born (shapes (with_object g n o)) k → Lives g.born (shapes g) k
    lived k l = upd_case (λ k (y : Object). k < g.born → y.released ≡ false → Lives g.born (shapes g) k) g.object n o
        (λ h e. (h, kept e)) k (λ _ h e. (h, e)) l.0 l.1

    same_words : (k : ℕ) → words_of (shape_of (upd g.object n o k)) ≡ words_of (shapes g k)
    same_words k = upd_case (λ k (y : Object). words_of (shape_of y) ≡ words_of (shapes g k)) g.object n o (ap words_of like) k (λ _. refl)

    cell : HasCell z (shape_of o)
    cell = subst (HasCell z) (sym like) (record { laid_out = (s.cells n near).laid_out; placed = (s.cells n near).placed })

    pub object_sound : IsSound z (with_object g n o)
    object_sound = record {
      roots = roots_still g.born (shapes g) g.local g.global g.stable g.back g.count s.roots g.born (shapes (with_object g n o)) still;
      ranges = s.ranges;
      names = s.names;
      epochs = s.epochs;
      ahead = s.ahead;
      fields = λ k h. upd_case (λ k (y : Object). FieldsAlive z g.born (shapes (with_object g n o)) (shape_of y) y.points) g.object n o
          (fields_still g.born (shapes g) g.born (shapes (with_object g n o)) still (shape_of o) o.points fields) k
          (λ _. fields_still g.born (shapes g) g.born (shapes (with_object g n o)) still (shapes g k) (pointers g k) (s.fields k h));
      flags = λ k h. upd_case (λ k (y : Object). FlagsAgree (shape_of y) (finalization_of y)) g.object n o flags k (λ _. s.flags k h);
      cells = λ k h. upd_case (λ k (y : Object). HasCell z (shape_of y)) g.object n o cell k (λ _. s.cells k h);
      apart = λ i j li lj ne. subst (λ (w : Span). AreApart w (words_of (shape_of (upd g.object n o j)))) (sym (same_words i))
          (subst (λ (w : Span). AreApart (words_of (shapes g i)) w) (sym (same_words j)) (s.apart i j (lived i li) (lived j lj) ne));
      settled = λ e k h. upd_case (λ k (y : Object). IsSettled g.paused y) g.object n o (settled e) k (λ _. s.settled e k h);
    }

  -- each change of an object that an entry makes
  module _ (g : Graph) (s : IsSound z g) (n : ℕ) (near : n < g.born) where
    pub points_sound : (f : ℕ) (x : Option ℕ) → field_kind z (shapes g n) f ≡ Some of_ref → Alive g.born (shapes g) x →
        IsSound z (with_points g n f x)
    points_sound f x kind alive =
        let old = s.fields n near in
        object_sound g s n near (record (g.object n) { points = upd (g.object n).points f x }) refl (λ e. e)
        (record {
          kinds = λ i m. upd_case (λ k (y : Option ℕ). y ≡ Some m → field_kind z (shapes g n) k ≡ Some of_ref) (pointers g n) f x
              (λ _. kind) i (λ _. old.kinds i m);
          values = λ free i. upd_case (λ k (y : Option ℕ). Alive g.born (shapes g) y) (pointers g n) f x alive i (λ _. old.values free i);
        })
        (s.flags n near)
        (λ e. let o = s.settled e n near in record { plain = o.plain; tied = o.tied; finalized = o.finalized })

    pub number_sound : (f x : ℕ) → IsSound z (with_number g n f x)
    number_sound f x =
        object_sound g s n near (record (g.object n) { number = upd (g.object n).number f x }) refl (λ e. e) (s.fields n near) (s.flags n near)
        (λ e. let o = s.settled e n near in record { plain = o.plain; tied = o.tied; finalized = o.finalized })

    pub tie_sound : (c k : ℕ) → (g.object n).condemned ≡ false → IsSound z (with_tie g n c k)
    tie_sound c k free =
        let old = s.flags n near in
        object_sound g s n near (record (g.object n) { tie = Some (c, k) }) refl (λ e. e) (s.fields n near)
        (record {
          released = old.released;
          queued = old.queued;
          finalized = old.finalized;
          tied = λ _ e. absurd (cc);
          let_go = λ r. let h : true ≡ false = sym r ∙ old.released free in absurd (cc);
        })
        (λ e. record {
          plain = λ c _. let h : true ≡ false = sym c ∙ free in absurd (cc);
          tied = λ c _. let h : true ≡ false = sym c ∙ free in absurd (cc);
          finalized = (s.settled e n near).finalized;
        })

    module _ (dead : (g.object n).condemned ≡ true) where
      not_free : {A : Type 0} → (g.object n).condemned ≡ false → A
      not_free e = let h : true ≡ false = sym dead ∙ e in absurd (cc)

      pub release_sound : ((g.object n).tie ≡ None) ⊎ ((g.object n).finalized ≢ None) →
          IsSound z (with_object g n (record (g.object n) { released = true }))
      release_sound loose =
          let old = s.flags n near in
          object_sound g s n near (record (g.object n) { released = true }) refl (λ e. absurd (cc))
          (record { kinds = (s.fields n near).kinds; values = (s.fields n near).values })
          (record { released = not_free; queued = old.queued; tied = old.tied; finalized = old.finalized; let_go = λ _. loose })
          (λ e. record { plain = λ _ _. refl; tied = (s.settled e n near).tied; finalized = λ _. refl })

      pub queue_sound : (g.object n).tie ≢ None → IsSound z (with_object g n (record (g.object n) { queued = true }))
      queue_sound tied =
          let old = s.flags n near in
          object_sound g s n near (record (g.object n) { queued = true }) refl (λ e. e) (s.fields n near)
          (record { released = old.released; queued = not_free; tied = λ _. tied; finalized = λ _. refl; let_go = old.let_go })
          (λ e. let o = s.settled e n near in record { plain = o.plain; tied = λ _ _. refl; finalized = o.finalized })

    pub finalize_sound : (g.object n).queued ≡ true → IsSound z (with_object g n (record (g.object n) { finalized = Some g.paused }))
    finalize_sound queued =
        let old = s.flags n near in
        object_sound g s n near (record (g.object n) { finalized = Some g.paused }) refl (λ e. e) (s.fields n near)
        (record { released = old.released; queued = old.queued; tied = old.tied; finalized = λ _. queued; let_go = λ _. inr (λ e. absurd (cc)) })
        (λ e. let o = s.settled e n near in record { plain = o.plain; tied = o.tied; finalized = λ (h : g.paused < g.paused). absurd (omega arith) })
