-- Spans that are apart.
use Rattle.std.proofs.Common.{◌≡◌, ℕ, ◌<◌, ◌≤◌, ◌⊎◌, inl, inr, true, false, leb, arith}
use Rattle.std.proofs.lemmas.Bool.Decides.{leb_tells}
use Rattle.kn_base.specs.declared.numbers.Span.{Span}
use Rattle.kn_base.specs.Spans.{AreApart, end_of}
use Rattle.kn_base.specs.SpanLists.{HasWord}

-- two spans without a word in common are apart
pub apart_if : (s t : Span) → 0 < s.len → 0 < t.len → ((a : ℕ) → HasWord s a → HasWord t a → ⊥) → AreApart s t
apart_if s t ps pt common = at (leb_tells s.start t.start) (leb_tells (end_of s) t.start) (leb_tells (end_of t) s.start)
  where
    at : ((leb s.start t.start ≡ true) × (s.start ≤ t.start)) ⊎ ((leb s.start t.start ≡ false) × (t.start < s.start)) →
        ((leb (end_of s) t.start ≡ true) × (end_of s ≤ t.start)) ⊎ ((leb (end_of s) t.start ≡ false) × (t.start < end_of s)) →
        ((leb (end_of t) s.start ≡ true) × (end_of t ≤ s.start)) ⊎ ((leb (end_of t) s.start ≡ false) × (s.start < end_of t)) → AreApart s t
    at a (inl b) c = inl b.1
    at a (inr b) (inl c) = inr c.1
    at (inl a) (inr b) (inr c) = absurd (common t.start (a.1, b.1) (omega arith, omega arith))
    at (inr a) (inr b) (inr c) = let x = a.1 in absurd (common s.start (omega arith, omega arith) (omega arith, c.1))
