-- What holds of each span, where spans are taken out of a list or put in.
use Rattle.std.proofs.Common.{List, [], ◌∷◌, ◌++◌, inl, inr, if◌then◌else◌, nat_lt}
use Rattle.std.specs.List.{AllByRecursion}
use Rattle.std.proofs.lemmas.Bool.{lt-ltb, le-ltb, cases_lt}
use Rattle.kn_base.specs.declared.numbers.Span.{Span}
use Rattle.kn_base.specs.Spans.{end_of}
use Rattle.kn_base.specs.SpanLists.{joined, put_in}

-- of each of two lists joined end to end
pub each_append : (P : Span → Type 0) (front back : List Span) → AllByRecursion P front → AllByRecursion P back → AllByRecursion P (front ++ back)
each_append P [] back f b = b
each_append P (s ∷ front) back f b = (f.0, each_append P front back f.1 b)

-- of each of the two parts of a list
pub each_parts : (P : Span → Type 0) (front back : List Span) → AllByRecursion P (front ++ back) → AllByRecursion P front × AllByRecursion P back
each_parts P [] back a = (tt, a)
each_parts P (s ∷ front) back a = let r = each_parts P front back a.1 in ((a.0, r.0), r.1)

-- of each span with one more put in, where it holds of two joined
pub each_put_in : (P : Span → Type 0) → ((a b : Span) → P a → P b → P (joined a b)) → (new : Span) (spans : List Span) → P new
    → AllByRecursion P spans
    → AllByRecursion P (put_in new spans)
each_put_in P join new [] p a = (p, tt)
each_put_in P join new (s ∷ spans) p a =
    elim (cases_lt (end_of new) s.start) [
      | inl h ↦ rw (lt-ltb (end_of new) s.start h) (p, a)
      | inr h ↦ rw (le-ltb (end_of new) s.start h)
          (elim (cases_lt (end_of s) new.start) as
          (λ _. AllByRecursion P (if nat_lt (end_of s) new.start then s ∷ put_in new spans else put_in (joined new s) spans)) [
            | inl k ↦ rw (lt-ltb (end_of s) new.start k) (a.0, each_put_in P join new spans p a.1)
            | inr k ↦ rw (le-ltb (end_of s) new.start k) (each_put_in P join (joined new s) spans (join new s p a.0) a.1)
          ])
    ]
