-- A span put into a list, and joined with those that it touches.
use Rattle.std.proofs.Common.{ℕ, zero, suc, ◌+◌, ◌<◌, ◌≤◌, ◌≡◌, ◌⊎◌, Any, List, [], ◌∷◌, ◌++◌, length}
use Rattle.std.proofs.Common.{if◌then◌else◌, nat_lt, refl, ap, ◌∙◌, subst, inl, inr, arith}
use Rattle.std.specs.List.{AllByRecursion}
use Rattle.std.proofs.lemmas.Bool.{lt-ltb, le-ltb, cases_lt}
use Rattle.kn_base.specs.declared.numbers.Span.{Span}
use Rattle.kn_base.specs.Spans.{end_of, AreApart}
use Rattle.kn_base.specs.SpanLists.{StandApart, Touches, joined, put_in}
use Rattle.kn_base.proofs.Apart.{apart_within_wider}

-- spans of one start and one length are one
pub span_same : (a b : Span) → a.start ≡ b.start → a.len ≡ b.len → a ≡ b
span_same a b p q = λ i. record { start = p i; len = q i }

-- a span is put in behind those that end before it
pub put_in-append : (new : Span) (front back : List Span) → AllByRecursion (λ span. end_of span < new.start) front
    → put_in new (front ++ back) ≡ front ++ put_in new back
put_in-append new [] back a = refl
put_in-append new (s ∷ front) back a =
    rw (le-ltb (end_of new) s.start (omega (arith, a.0)), lt-ltb (end_of s) new.start a.0) (ap (λ z. s ∷ z) (put_in-append new front back a.1))

-- a span is put in before those that begin behind its end
pub put_in-cons : (new : Span) (spans : List Span) → AllByRecursion (λ span. end_of new < span.start) spans → put_in new spans ≡ new ∷ spans
put_in-cons new [] a = refl
put_in-cons new (s ∷ spans) a = rw (lt-ltb (end_of new) s.start a.0)

-- a span is joined with one that it touches
pub put_in-touching : (new span : Span) (spans : List Span) → span.start ≤ end_of new → new.start ≤ end_of span
    → put_in new (span ∷ spans) ≡ put_in (joined new span) spans
put_in-touching new span spans p q = rw (le-ltb (end_of new) span.start p, le-ltb (end_of span) new.start q)

-- a span that touches none stands between those before it and those behind it
pub put_in_alone : (new : Span) (front back : List Span) → AllByRecursion (λ span. end_of span < new.start) front
    → AllByRecursion (λ span. end_of new < span.start) back → put_in new (front ++ back) ≡ front ++ new ∷ back
put_in_alone new front back f b = put_in-append new front back f ∙ ap (λ z. front ++ z) (put_in-cons new back b)

-- one that begins at the end of the last before it makes that one longer
pub put_in_at_end : (new last : Span) (front back : List Span) → AllByRecursion (λ span. end_of span < new.start) front → end_of last ≡ new.start
    → AllByRecursion (λ span. end_of new < span.start) back
    → put_in new (front ++ last ∷ back) ≡ front ++ record { start = last.start; len = last.len + new.len } ∷ back
put_in_at_end new last front back f e b =
    let whole : Span = record { start = last.start; len = last.len + new.len } in
    let same = span_same (joined new last) whole (omega arith) (omega arith) in
    put_in-append new front (last ∷ back) f
    ∙ ap (λ z. front ++ z)
    (put_in-touching new last back (omega arith) (omega arith)
    ∙ rw same
    (put_in-cons whole back
    (let e' : end_of new ≡ end_of whole = omega arith in subst (λ n. AllByRecursion (λ (span : Span). n < span.start) back) e' b)))

-- one that ends at the start of the next makes that one longer
pub put_in_at_start : (new next : Span) (front back : List Span) → AllByRecursion (λ span. end_of span < new.start) front → end_of new ≡ next.start
    → AllByRecursion (λ span. end_of next < span.start) back
    → put_in new (front ++ next ∷ back) ≡ front ++ record { start = new.start; len = new.len + next.len } ∷ back
put_in_at_start new next front back f e b =
    let whole : Span = record { start = new.start; len = new.len + next.len } in
    let same = span_same (joined new next) whole (omega arith) (omega arith) in
    put_in-append new front (next ∷ back) f
    ∙ ap (λ z. front ++ z)
    (put_in-touching new next back (omega arith) (omega arith)
    ∙ rw same
    (put_in-cons whole back
    (let e' : end_of next ≡ end_of whole = omega arith in subst (λ n. AllByRecursion (λ (span : Span). n < span.start) back) e' b)))

-- one that fills the words between two makes them one
pub put_in_between : (new last next : Span) (front back : List Span) → AllByRecursion (λ span. end_of span < new.start) front → end_of last ≡ new.start
    → end_of new ≡ next.start → AllByRecursion (λ span. end_of next < span.start) back
    → put_in new (front ++ last ∷ next ∷ back) ≡ front ++ record { start = last.start; len = last.len + (new.len + next.len) } ∷ back
put_in_between new last next front back f e g b =
    let longer : Span = record { start = last.start; len = last.len + new.len } in
    let whole : Span = record { start = last.start; len = last.len + (new.len + next.len) } in
    let first = span_same (joined new last) longer (omega arith) (omega arith) in
    let second = span_same (joined longer next) whole (omega arith) (omega arith) in
    put_in-append new front (last ∷ next ∷ back) f
    ∙ ap (λ z. front ++ z)
    (put_in-touching new last (next ∷ back) (omega arith) (omega arith)
    ∙ ap (λ z. put_in z (next ∷ back)) first
    ∙ put_in-touching longer next back (omega arith) (omega arith)
    ∙ ap (λ z. put_in z back) second
    ∙ put_in-cons whole back
    (let e' : end_of next ≡ end_of whole = omega arith in subst (λ n. AllByRecursion (λ (span : Span). n < span.start) back) e' b))

-- spans that stand apart do so with one more
pub apart_put_in : (low high : ℕ) (new : Span) (spans : List Span) → low ≤ new.start → 0 < new.len → end_of new < high → StandApart low high spans
    → StandApart low high (put_in new spans)
apart_put_in low high new [] p q r a = (p, q, r, tt)
apart_put_in low high new (s ∷ spans) p q r a =
    elim (cases_lt (end_of new) s.start) [
      | inl h ↦ rw (lt-ltb (end_of new) s.start h) (p, q, r, (omega arith, a.1, a.2, a.3))
      | inr h ↦ rw (le-ltb (end_of new) s.start h)
          (elim (cases_lt (end_of s) new.start) as
          (λ _. StandApart low high (if nat_lt (end_of s) new.start then s ∷ put_in new spans else put_in (joined new s) spans)) [
            | inl k ↦ rw (lt-ltb (end_of s) new.start k) (a.0, a.1, a.2, apart_put_in (end_of s + 1) high new spans (omega arith) q r a.3)
            | inr k ↦ rw (le-ltb (end_of s) new.start k) (apart_put_in low high (joined new s) spans (omega (arith, a.0)) (omega arith) (omega (arith, a.2))
                (apart_within_wider (end_of s + 1) high low high spans (omega (arith, a.0)) (omega arith) a.3))
          ])
    ]

-- a span that is apart from all makes the list longer by one, or it touches one
pub longer_or_touching : (new : Span) (spans : List Span) → AllByRecursion (AreApart new) spans
    → (length (put_in new spans) ≡ length spans + 1) ⊎ Any (Touches new) spans
longer_or_touching new [] a = inl refl
longer_or_touching new (s ∷ spans) a =
    elim (cases_lt (end_of new) s.start) [
      | inl h ↦ inl (rw (lt-ltb (end_of new) s.start h) (omega arith))
      | inr h ↦ elim (cases_lt (end_of s) new.start) [
        | inl k ↦ elim (longer_or_touching new spans a.1) [
          | inl e ↦ inl (rw (le-ltb (end_of new) s.start h, lt-ltb (end_of s) new.start k) (omega arith))
          | inr any ↦ inr (suc any.0, any.1, omega (arith, any.2), any.3, any.4)
        ]
        | inr k ↦ inr (zero, s, omega arith, refl, elim a.0 as (λ _. Touches new s) [ inl p ↦ inl (omega arith) | inr p ↦ inr (omega arith) ])
      ]
    ]
