-- A store into a field: what the clauses on the words of objects and cells say after it.
use Rattle.std.proofs.Common.{◌≡◌, ◌≢◌, ℕ, suc, ◌+◌, ◌<◌, ◌≤◌, ◌⊎◌, inl, inr, true, false, cond, ltb, Option, Some, None}
use Rattle.std.proofs.Common.{slice_get, refl, sym}
use Rattle.std.proofs.Common.{subst, ap, ◌∙◌, arith}
use Rattle.std.proofs.lemmas.Bool.Decides.{leb_tells}
use Rattle.kn_base.specs.declared.numbers.Span.{Span}
use Rattle.kn_base.specs.Spans.{AreApart}
use Rattle.kn_base.specs.SpanLists.{HasWord}
use Rattle.kn_base.specs.Functions.{upd}
use Rattle.kn_base.proofs.Updates.{upd_here, upd_else, split_at}
use Rattle.kn_layout.specs.declared.layouts.FieldKind.{FieldKind}
use Rattle.kn_layout.specs.declared.layouts.FieldKind.TheVariants.{Ref as of_ref, Int as of_int}
use Rattle.kn_graph.specs.Ground.{Ground}
use Rattle.kn_graph.specs.Graph.{Graph, Shape, shapes, pointers, numbers, Lives, words_of, kinds_for, field_kind}
use Rattle.kn_graph.specs.Sound.{IsSound}
use Rattle.kn_rule.specs.declared.positions.Position.{Position}
use Rattle.kn_rule.specs.declared.positions.Position.TheVariants.{Calling}
use Rattle.kn_rule.specs.declared.parts.Taken.{Taken}
use Rattle.kn_rule.specs.Steps.{callers}
use Rattle.kn_rule.specs.ObjectClauses.{address_of, Headed, IsHeadedBy, Fielded, IsCleared, Cleared, Apart}

-- words of two spans that are apart are different
pub not_both : (a b : Span) (x y : ℕ) → AreApart a b → HasWord a x → HasWord b y → x ≢ y
not_both a b x y (inl h) p q = λ (e : x ≡ y). let p1 = p.1 in let q0 = q.0 in absurd (omega arith)
not_both a b x y (inr h) p q = λ (e : x ≡ y). let p0 = p.0 in let q1 = q.1 in absurd (omega arith)

-- a field that there is lies below the number of fields
pub kind_below : (z : Ground) (o : Shape) (i : ℕ) (k : FieldKind) → field_kind z o i ≡ Some k → i < o.length
kind_below z o i k e = by (leb_tells (suc i) o.length)
  where
    by : ((ltb i o.length ≡ true) × (suc i ≤ o.length)) ⊎ ((ltb i o.length ≡ false) × (o.length < suc i)) → i < o.length
    by (inl t) = let h = t.1 in omega arith
    by (inr t) = let h : Option.None ≡ Some k = sym (ap (λ b. cond b (slice_get (kinds_for (slice_get z.layouts o.layout) o.length) i) None) t.0)
        ∙ e in absurd (cc)

pub first_word : (o : Shape) → HasWord (words_of o) o.address
first_word o = (omega arith, omega arith)

pub field_word : (o : Shape) (i : ℕ) → i < o.length → HasWord (words_of o) (o.address + 1 + i)
field_word o i h = (omega arith, omega arith)

module _ (z : Ground) (g : Graph) (s : IsSound z g)
    (n i w : ℕ) (near : n < g.born) (free : (shapes g n).condemned ≡ false) (body : ℕ → ℕ) where
  alive_n : Lives g.born (shapes g) n
  alive_n = (near, (s.flags n near).released free)

  module _ (k : FieldKind) (kind : field_kind z (shapes g n) i ≡ Some k) where
    b : ℕ
    b = (shapes g n).address + 1 + i

    inside : HasWord (words_of (shapes g n)) ((shapes g n).address + 1 + i)
    inside = field_word (shapes g n) i (kind_below z (shapes g n) i k kind)

    headed_other : (m : ℕ) → Lives g.born (shapes g) m → (shapes g n).address + 1 + i ≢ (shapes g m).address
    headed_other m l = split_at (λ m. Lives g.born (shapes g) m → (shapes g n).address + 1 + i ≢ (shapes g m).address) n
        (λ _ e. absurd (omega arith)) m
        (λ ne l. not_both (words_of (shapes g n)) (words_of (shapes g m)) _ _ (s.apart n m alive_n l ne) inside (first_word (shapes g m))) l

    pub headed_kept : (side : ℕ → ℕ) → Headed z g.born (shapes g) side body →
        Headed z g.born (shapes g) side (upd body ((shapes g n).address + 1 + i) w)
    headed_kept side r = record {
      marks = r.marks;
      blank = r.blank;
      headers = λ m l. subst (λ x. IsHeadedBy (shapes g m) x)
          (sym (upd_else body ((shapes g n).address + 1 + i) w (shapes g m).address (headed_other m l))) (r.headers m l);
    }

    pub cleared_kept : (local : ℕ → ℕ → ℕ) (position : ℕ → Position) (taken : ℕ → Option Taken) →
        Apart z g.born (shapes g) position taken →
        Cleared z body local position taken → Cleared z (upd body ((shapes g n).address + 1 + i) w) local position taken
    cleared_kept local position taken a r = record { each = λ c l. at c l (position c) (taken c) refl (r.each c l) }
      where
        at : (c : ℕ) → c < callers z.sizes → (p : Position) (x : Option Taken) → taken c ≡ x → IsCleared z body (local c) p x →
            IsCleared z (upd body ((shapes g n).address + 1 + i) w) (local c) p x
        at c l (Calling call) (Some t) e h = λ j m.
            let ins = a.inside c t l e in let len = ins.2 in
            upd_else body ((shapes g n).address + 1 + i) w (t.span.start + j) (not_both (words_of (shapes g n)) t.span _ _
            (a.objects c n t l e alive_n) inside (omega arith, omega arith)) ∙ h j m
        at c l (Calling call) None e h = tt
        at c l _ x e h = tt

    elsewhere : (m j : ℕ) (k' : FieldKind) → n ≢ m → m < g.born → (shapes g m).condemned ≡ false → field_kind z (shapes g m) j ≡ Some k' →
        upd body ((shapes g n).address + 1 + i) w ((shapes g m).address + 1 + j) ≡ body ((shapes g m).address + 1 + j)
    elsewhere m j k' ne l fr kd = upd_else body ((shapes g n).address + 1 + i) w ((shapes g m).address + 1 + j)
        (not_both (words_of (shapes g n)) (words_of (shapes g m)) _ _ (s.apart n m alive_n (l, (s.flags m l).released fr) ne) inside
        (field_word (shapes g m) j (kind_below z (shapes g m) j k' kd)))

    beside : (j : ℕ) → i ≢ j → upd body ((shapes g n).address + 1 + i) w ((shapes g n).address + 1 + j) ≡ body ((shapes g n).address + 1 + j)
    beside j ne = upd_else body ((shapes g n).address + 1 + i) w ((shapes g n).address + 1 + j) (λ e. absurd (ne (omega arith)))

  -- a reference
  module _ (kind : field_kind z (shapes g n) i ≡ Some of_ref) (x : Option ℕ) (value : w ≡ address_of (shapes g) x) where
    new : ℕ → ℕ → Option ℕ
    new = upd (pointers g) n (upd (pointers g n) i x)

    pub ref_written : Fielded z g.born (shapes g) (pointers g) (numbers g) body →
        Fielded z g.born (shapes g) (upd (pointers g) n (upd (pointers g n) i x)) (numbers g) (upd body ((shapes g n).address + 1 + i) w)
    ref_written r = record {
      refs = λ m j l fr kd. split_at (λ m. m < g.born → (shapes g m).condemned ≡ false → field_kind z (shapes g m) j ≡ Some of_ref →
          upd body ((shapes g n).address + 1 + i) w ((shapes g m).address + 1 + j) ≡ address_of (shapes g)
          (upd (pointers g) n (upd (pointers g n) i x) m j)) n
          (λ l fr kd. subst (λ (f : ℕ → Option ℕ). upd body ((shapes g n).address + 1 + i) w ((shapes g n).address + 1 + j) ≡ address_of (shapes g)
          (f j)) (sym (upd_here (pointers g) n (upd (pointers g n) i x)))
          (split_at (λ j. field_kind z (shapes g n) j ≡ Some of_ref →
          upd body ((shapes g n).address + 1 + i) w ((shapes g n).address + 1 + j) ≡ address_of (shapes g) (upd (pointers g n) i x j)) i
          (λ _. upd_here body ((shapes g n).address + 1 + i) w ∙ (value ∙ sym (ap (address_of (shapes g)) (upd_here (pointers g n) i x)))) j
          (λ ne kd. beside of_ref kind j ne ∙ (r.refs n j l fr kd ∙ sym (ap (address_of (shapes g)) (upd_else (pointers g n) i x j ne)))) kd)) m
          (λ ne l fr kd. elsewhere of_ref kind m j of_ref ne l fr kd
          ∙ (r.refs m j l fr kd ∙ sym (ap (λ (f : ℕ → Option ℕ). address_of (shapes g) (f j)) (upd_else (pointers g) n
          (upd (pointers g n) i x) m ne)))) l fr kd;
      ints = λ m j l fr kd. split_at (λ m. m < g.born → (shapes g m).condemned ≡ false → field_kind z (shapes g m) j ≡ Some of_int →
          upd body ((shapes g n).address + 1 + i) w ((shapes g m).address + 1 + j) ≡ numbers g m j) n
          (λ l fr kd. split_at (λ j. field_kind z (shapes g n) j ≡ Some of_int →
          upd body ((shapes g n).address + 1 + i) w ((shapes g n).address + 1 + j) ≡ numbers g n j) i
          (λ kd. let e : Option.Some of_ref ≡ Some of_int = sym kind ∙ kd in absurd (cc)) j
          (λ ne kd. beside of_ref kind j ne ∙ r.ints n j l fr kd) kd) m
          (λ ne l fr kd. elsewhere of_ref kind m j of_int ne l fr kd ∙ r.ints m j l fr kd) l fr kd;
    }

  -- a number
  module _ (kind : field_kind z (shapes g n) i ≡ Some of_int) where
    pub int_written : Fielded z g.born (shapes g) (pointers g) (numbers g) body →
        Fielded z g.born (shapes g) (pointers g) (upd (numbers g) n (upd (numbers g n) i w)) (upd body ((shapes g n).address + 1 + i) w)
    int_written r = record {
      ints = λ m j l fr kd. split_at (λ m. m < g.born → (shapes g m).condemned ≡ false → field_kind z (shapes g m) j ≡ Some of_int →
          upd body ((shapes g n).address + 1 + i) w ((shapes g m).address + 1 + j) ≡ upd (numbers g) n (upd (numbers g n) i w) m j) n
          (λ l fr kd. subst (λ (f : ℕ → ℕ). upd body ((shapes g n).address + 1 + i) w ((shapes g n).address + 1 + j) ≡ f j)
          (sym (upd_here (numbers g) n (upd (numbers g n) i w)))
          (split_at (λ j. field_kind z (shapes g n) j ≡ Some of_int →
          upd body ((shapes g n).address + 1 + i) w ((shapes g n).address + 1 + j) ≡ upd (numbers g n) i w j) i
          (λ _. upd_here body ((shapes g n).address + 1 + i) w ∙ sym (upd_here (numbers g n) i w)) j
          (λ ne kd. beside of_int kind j ne ∙ (r.ints n j l fr kd ∙ sym (upd_else (numbers g n) i w j ne))) kd)) m
          (λ ne l fr kd. elsewhere of_int kind m j of_int ne l fr kd
          ∙ (r.ints m j l fr kd ∙ sym (ap (λ (f : ℕ → ℕ). f j) (upd_else (numbers g) n (upd (numbers g n) i w) m ne)))) l fr kd;
      refs = λ m j l fr kd. split_at (λ m. m < g.born → (shapes g m).condemned ≡ false → field_kind z (shapes g m) j ≡ Some of_ref →
          upd body ((shapes g n).address + 1 + i) w ((shapes g m).address + 1 + j) ≡ address_of (shapes g) (pointers g m j)) n
          (λ l fr kd. split_at (λ j. field_kind z (shapes g n) j ≡ Some of_ref →
          upd body ((shapes g n).address + 1 + i) w ((shapes g n).address + 1 + j) ≡ address_of (shapes g) (pointers g n j)) i
          (λ kd. let e : Option.Some of_int ≡ Some of_ref = sym kind ∙ kd in absurd (cc)) j
          (λ ne kd. beside of_int kind j ne ∙ r.refs n j l fr kd) kd) m
          (λ ne l fr kd. elsewhere of_int kind m j of_ref ne l fr kd ∙ r.refs m j l fr kd) l fr kd;
    }
