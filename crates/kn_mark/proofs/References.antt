-- The place reached of a cell, where there is one, is a reference field.
use Rattle.std.proofs.Common.{◌≡◌, ℕ, zero, suc, ◌+◌, ◌-◌, ◌<◌, ◌≤◌, Bool, true, false, cond, Option, Some, None, refl, ap}
use Rattle.std.proofs.Common.{◌∙◌, arith}
use Rattle.kn_layout.specs.declared.layouts.FieldKind.{FieldKind}
use Rattle.kn_layout.specs.declared.layouts.FieldKind.TheVariants.{Ref as of_ref, Int as of_int}
use Rattle.kn_graph.specs.Ground.{Ground}
use Rattle.kn_rule.specs.Decoding.{header_of}
use Rattle.kn_rule.specs.Requests.{told_kind}
use Rattle.kn_rule.specs.MarkedHeap.{first_from, is_of_ref, next_ref}

-- the first number that a test takes is taken
first_taken : (test : ℕ → Bool) (n k : ℕ) → first_from test n k < k + n → test (first_from test n k) ≡ true
first_taken test zero k l = absurd (omega (arith, l))
first_taken test (suc n) k l = at (test k) refl l (λ m. first_taken test n (k + 1) m)
  where
    at : (b : Bool) → test k ≡ b → cond b k (first_from test n (k + 1)) < k + suc n →
        (first_from test n (k + 1) < k + 1 + n → test (first_from test n (k + 1)) ≡ true) →
        test (cond (test k) k (first_from test n (k + 1))) ≡ true
    at true e l more = ap (λ b. test (cond b k (first_from test n (k + 1)))) e ∙ e
    at false e l more = ap (λ b. test (cond b k (first_from test n (k + 1)))) e ∙ more (omega (arith, l))

is_told : (k : Option FieldKind) → is_of_ref k ≡ true → k ≡ Some of_ref
is_told None e = absurd (cc)
is_told (Some of_ref) e = refl
is_told (Some of_int) e = absurd (cc)

first_least : (test : ℕ → Bool) (n k : ℕ) → k ≤ first_from test n k
first_least test zero k = omega arith
first_least test (suc n) k = at (test k) (first_least test n (k + 1))
  where
    at : (b : Bool) → k + 1 ≤ first_from test n (k + 1) → k ≤ cond b k (first_from test n (k + 1))
    at true h = omega arith
    at false h = omega (arith, h)

pub next_at : (z : Ground) (h k : ℕ) → next_ref z h k < (header_of h).length → told_kind z h (next_ref z h k) ≡ Some of_ref
next_at z h k l =
    let test : ℕ → Bool = λ i. is_of_ref (told_kind z h i) in
    let least = first_least test ((header_of h).length - k) k in
    is_told (told_kind z h (next_ref z h k)) (first_taken test ((header_of h).length - k) k (omega (arith, l, least)))
