-- A store into a cell that was taken and is not born.
use Rattle.std.proofs.Common.{◌≡◌, ◌≢◌, ℕ, ◌+◌, ◌<◌, ◌≤◌, ◌⊎◌, Option, Some, None, refl, sym, subst, ap, ◌∙◌, arith}
use Rattle.kn_base.specs.declared.numbers.Span.{Span}
use Rattle.kn_base.specs.Sizes.{frame_count}
use Rattle.kn_base.specs.Spans.{AreApart, LiesIn}
use Rattle.kn_base.specs.SpanLists.{HasWord}
use Rattle.kn_base.specs.Functions.{upd}
use Rattle.kn_base.proofs.Updates.{upd_else, upd_case}
use Rattle.kn_layout.specs.declared.layouts.FieldKind.TheVariants.{Ref as of_ref, Int as of_int}
use Rattle.kn_graph.specs.declared.calls.Call.{Call}
use Rattle.kn_graph.specs.Ground.{Ground}
use Rattle.kn_graph.specs.Graph.{Graph, Shape, shapes, pointers, numbers, Lives, words_of}
use Rattle.kn_graph.specs.Sound.{IsSound}
use Rattle.kn_rule.specs.declared.positions.Position.{Position}
use Rattle.kn_rule.specs.declared.positions.Position.TheVariants.{Calling}
use Rattle.kn_rule.specs.declared.parts.Taken.{Taken}
use Rattle.kn_rule.specs.FrameSpans.{frame_span}
use Rattle.kn_rule.specs.Views.{Open, Sweep}
use Rattle.kn_rule.specs.Requests.{cleared_word, IsCellOf}
use Rattle.kn_rule.specs.Decoding.{frame_of}
use Rattle.kn_rule.specs.Steps.{callers}
use Rattle.kn_rule.specs.ObjectClauses.{Headed, IsHeadedBy, Fielded, IsCleared, Cleared, Apart, IsAskedBy}
use Rattle.kn_rule.specs.FrameClauses.{AreTheFree, IsTakenWord, Handed, IsClassAsked, IsNotSwept, TakenIn}
use Rattle.kn_keep_heap.proofs.Changed.{some_is}
use Rattle.kn_keep_heap.proofs.Fields.{not_both, first_word, field_word, kind_below}

-- the objects' words are not touched
module _ (z : Ground) (g : Graph) (s : IsSound z g)
    (b w : ℕ) (cell : Span) (inside : HasWord cell b) (apart : (n : ℕ) → Lives g.born (shapes g) n → AreApart (words_of (shapes g n)) cell)
    (body : ℕ → ℕ) where
  untouched : (n a : ℕ) → Lives g.born (shapes g) n → HasWord (words_of (shapes g n)) a → upd body b w a ≡ body a
  untouched n a l h = upd_else body b w a (λ e. not_both (words_of (shapes g n)) cell a b (apart n l) h inside (sym e))

  pub headed_beside : (side : ℕ → ℕ) → Headed z g.born (shapes g) side body → Headed z g.born (shapes g) side (upd body b w)
  headed_beside side r = record {
    marks = r.marks;
    blank = r.blank;
    headers = λ n l. subst (λ x. IsHeadedBy (shapes g n) x) (sym (untouched n (shapes g n).address l (first_word (shapes g n)))) (r.headers n l);
  }

  pub fielded_beside : Fielded z g.born (shapes g) (pointers g) (numbers g) body → Fielded z g.born (shapes g) (pointers g) (numbers g) (upd body b w)
  fielded_beside r = record {
    refs = λ n i l fr kd. untouched n ((shapes g n).address + 1 + i) (l, (s.flags n l).released fr) (field_word (shapes g n) i
        (kind_below z (shapes g n) i of_ref kd)) ∙ r.refs n i l fr kd;
    ints = λ n i l fr kd. untouched n ((shapes g n).address + 1 + i) (l, (s.flags n l).released fr) (field_word (shapes g n) i
        (kind_below z (shapes g n) i of_int kd)) ∙ r.ints n i l fr kd;
  }

-- the cells of other callers are not touched, and one's own is cleared as far as told
module _ (z : Ground) (body : ℕ → ℕ) (local : ℕ → ℕ → ℕ) (position : ℕ → Position) (taken : ℕ → Option Taken)
    (r : Cleared z body local position taken) (by b w : ℕ)
    (new : Taken) (call : Call) (is : position by ≡ Calling call)
    (others : (c : ℕ) (u : Taken) → c < callers z.sizes → by ≢ c → taken c ≡ Some u → (u.cleared ≤ u.span.len) × AreApart u.span new.span)
    (inside : HasWord new.span b)
    (here : (i : ℕ) → i < new.cleared → upd body b w (new.span.start + i) ≡ cleared_word z (local by) call i) where
  pub cleared_more : Cleared z (upd body b w) local position (upd taken by (Some new))
  cleared_more = record {
    each = λ c l. upd_case (λ k x. k < callers z.sizes → IsCleared z (upd body b w) (local k) (position k) x) taken by (Some new)
        (λ _. subst (λ p. IsCleared z (upd body b w) (local by) p (Some new)) (sym is) here) c
        (λ ne l. at c l ne (position c) (taken c) refl (r.each c l)) l;
  }
    where
      at : (c : ℕ) → c < callers z.sizes → by ≢ c → (p : Position) (x : Option Taken) → taken c ≡ x → IsCleared z body (local c) p x →
          IsCleared z (upd body b w) (local c) p x
      at c l ne (Calling k) (Some u) e h = λ i m. let o = others c u l ne e in let len = o.0 in
          upd_else body b w (u.span.start + i) (λ q. not_both u.span new.span (u.span.start + i) b o.1 (omega arith, omega arith) inside (sym q))
          ∙ h i m
      at c l ne (Calling k) None e h = tt
      at c l ne _ x e h = tt

-- one word more of a cell is cleared
module _ (z : Ground) (born : ℕ) (shape : ℕ → Shape) (position : ℕ → Position) (taken : ℕ → Option Taken) (by : ℕ) (t : Taken)
    (is : taken by ≡ Some t) (n' : ℕ) (fits : n' ≤ t.span.len) where
  abbrev more_of : Taken
  more_of = record { frame = t.frame; span = t.span; cleared = n' }

  before : (c : ℕ) (x : Taken) → upd taken by (Some (record { frame = t.frame; span = t.span; cleared = n' })) c ≡ Some x →
      (y : Taken) × (taken c ≡ Some y) × (y.span ≡ x.span) × (y.frame ≡ x.frame)
  before c x e = upd_case (λ k y. y ≡ Some x → (y : Taken) × (taken k ≡ Some y) × (y.span ≡ x.span) × (y.frame ≡ x.frame)) taken by
      (Some (record { frame = t.frame; span = t.span; cleared = n' }))
      (λ e. let i = some_is (record { frame = t.frame; span = t.span; cleared = n' }) x e in
      (t, is, ap (λ (y : Taken). y.span) i, ap (λ (y : Taken). y.frame) i)) c (λ _ e. (x, e, refl, refl)) e

  asked_at : (p : Position) (x y : Taken) → y.span ≡ x.span → IsAskedBy z p y → IsAskedBy z p x
  asked_at (Calling call) x y e a = a ∙ ap (λ (s : Span). Option.Some s.len) e
  asked_at _ x y e a = absurd a

  pub apart_more : Apart z born shape position taken → Apart z born shape position
      (upd taken by (Some (record { frame = t.frame; span = t.span; cleared = n' })))
  apart_more r = record {
    objects = λ c n x l e v. let o = before c x e in subst (λ (s : Span). AreApart (words_of (shape n)) s) o.2 (r.objects c n o.0 l o.1 v);
    others = λ c d x y lc ld ne ec ed. let o = before c x ec in let p = before d y ed in
        subst (λ (s : Span). AreApart s y.span) o.2 (subst (λ (s : Span). AreApart o.0.span s) p.2 (r.others c d o.0 p.0 lc ld ne o.1 p.1));
    asked = λ c x l e. let o = before c x e in asked_at (position c) x o.0 o.2 (r.asked c o.0 l o.1);
    inside = λ c x l e. upd_case (λ k y. k < callers z.sizes → y ≡ Some x → (x.frame < frame_count z.sizes)
        × LiesIn x.span (frame_span z.sizes x.frame) × (x.cleared ≤ x.span.len)) taken by (Some (record {
          frame = t.frame;
          span = t.span;
          cleared = n';
        }))
        (λ l e. let i = r.inside by t l is in subst (λ (y : Taken). (y.frame < frame_count z.sizes) × LiesIn y.span (frame_span z.sizes y.frame)
        × (y.cleared ≤ y.span.len)) (some_is _ x e) (i.0, i.1, fits)) c (λ _ l e. r.inside c x l e) l e;
  }

  pub handed_more : (filled : ℕ → Type 0) (own : ℕ → ℕ → Option Open) (sweep : ℕ → Option Sweep) →
      Handed z.sizes (callers z.sizes) filled own taken sweep →
      Handed z.sizes (callers z.sizes) filled own (upd taken by (Some (record { frame = t.frame; span = t.span; cleared = n' }))) sweep
  handed_more filled own sweep r = record {
    each = λ c p o l e. upd_case (λ k x. k < callers z.sizes → own k p ≡ Some o →
        AreTheFree (frame_span z.sizes p) (λ a. filled a ⊎ IsTakenWord x a) o.free) taken by (Some (record {
          frame = t.frame;
          span = t.span;
          cleared = n';
        }))
        (λ l e. subst (λ x. AreTheFree (frame_span z.sizes p) (λ a. filled a ⊎ IsTakenWord x a) o.free) is (r.each by p o l e)) c
        (λ _ l e. r.each c p o l e) l e;
  }

  pub taken_in_more : (own : ℕ → ℕ → Option Open) (sweep : ℕ → Option Sweep) → TakenIn z position own taken sweep →
      TakenIn z position own (upd taken by (Some (record { frame = t.frame; span = t.span; cleared = n' }))) sweep
  taken_in_more own sweep r = record {
    owned = λ c x l e.
        let o = before c x e in
        subst (λ (p : ℕ). (y : Open) × (own c p ≡ Some y) × IsClassAsked z (position c) (frame_of y.word).class
        × IsCellOf (frame_of y.word).class (frame_span z.sizes p) x.span) o.3
        (subst (λ (s : Span). (y : Open) × (own c o.0.frame ≡ Some y) × IsClassAsked z (position c) (frame_of y.word).class
        × IsCellOf (frame_of y.word).class (frame_span z.sizes o.0.frame) s) o.2 (r.owned c o.0 l o.1));
    unswept = λ c x l e. let o = before c x e in subst (λ (p : ℕ). IsNotSwept (sweep c) p) o.3 (r.unswept c o.0 l o.1);
  }
