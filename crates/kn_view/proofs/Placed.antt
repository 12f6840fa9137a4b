-- What the word of a name holds, and the first reference field from a field on.
use Rattle.std.proofs.Common.{◌≡◌, ◌≢◌, ℕ, suc, ◌+◌, ◌-◌, ◌<◌, ◌≤◌, ◌/◌, ◌%◌, ◌^◌, ◌==◌, Bool, true}
use Rattle.std.proofs.Common.{false, cond, Option, Some, None, ◌∙◌, refl, sym, ap, arith, ne_eqb}
use Rattle.kn_base.specs.declared.node_word.NodeWord.{NodeWord}
use Rattle.kn_base.specs.declared.kinds.NodeKind.TheVariants as nodes
use Rattle.kn_rule.specs.Decoding.{node_of, node_kind_of}
use Rattle.kn_rule.specs.MarkedHeap.{first_from, held_by, object_named}

abbrev word_of : ℕ → NodeWord
word_of w = record { kind = node_kind_of (w / 2 ^ 56); count = w % 2 ^ 56 / 2 ^ 32; addr = w % 2 ^ 32 }

kind_named : (w n : ℕ) → w / 2 ^ 56 ≡ n → held_by (word_of w) (node_kind_of n) ≡ object_named w
unfolding node_of
kind_named w n e = ap (λ m. held_by (word_of w) (node_kind_of m)) (sym e)

pub stable_named : (w : ℕ) → w / 2 ^ 56 ≡ 1 → ◌≡◌ {A = Option ℕ} (Some (w % 2 ^ 32)) (object_named w)
stable_named w e = kind_named w 1 e

none_counted : (n a : ℕ) → n ≡ 0 → ◌≡◌ {A = Option ℕ} None (cond {A = Option ℕ} (n == 0) None (Some a))
none_counted n a e = ap (λ k. cond {A = Option ℕ} (k == 0) None (Some a)) (sym e)

some_counted : (n a : ℕ) → n ≢ 0 → ◌≡◌ {A = Option ℕ} (Some a) (cond {A = Option ℕ} (n == 0) None (Some a))
some_counted n a d = ap (λ b. cond {A = Option ℕ} b None (Some a)) (sym (ne_eqb n 0 d))

pub blank_named : (w : ℕ) → w / 2 ^ 56 ≡ 3 → w % 2 ^ 56 / 2 ^ 32 ≡ 0 → ◌≡◌ {A = Option ℕ} None (object_named w)
blank_named w e k = none_counted (w % 2 ^ 56 / 2 ^ 32) (w % 2 ^ 32) k ∙ kind_named w 3 e

pub back_named : (w : ℕ) → w / 2 ^ 56 ≡ 3 → w % 2 ^ 56 / 2 ^ 32 ≢ 0 → ◌≡◌ {A = Option ℕ} (Some (w % 2 ^ 32)) (object_named w)
back_named w e d = some_counted (w % 2 ^ 56 / 2 ^ 32) (w % 2 ^ 32) d ∙ kind_named w 3 e

none_held : (v : NodeWord) (n : ℕ) → n ≢ 1 → n ≢ 3 → ◌≡◌ {A = Option ℕ} None (held_by v (node_kind_of n))
none_held v n a b = by (n == 0) (n == 1) (n == 2) (n == 3) (ne_eqb n 1 a) (ne_eqb n 3 b)
  where
    by : (k l m o : Bool) → l ≡ false → o ≡ false → ◌≡◌ {A = Option ℕ} None
        (held_by v (cond k nodes.Vacant (cond l nodes.Stable (cond m nodes.Weak (cond o nodes.Back nodes.Cleared)))))
    by true l m o x y = refl
    by false true m o x y = cc
    by false false true o x y = refl
    by false false false true x y = cc
    by false false false false x y = refl

pub none_named : (w : ℕ) → w / 2 ^ 56 ≢ 1 → w / 2 ^ 56 ≢ 3 → ◌≡◌ {A = Option ℕ} None (object_named w)
none_named w a b = none_held (word_of w) (w / 2 ^ 56) a b ∙ kind_named w (w / 2 ^ 56) (λ _. w / 2 ^ 56)

module _ (test : ℕ → Bool) where
  one_left : (n k : ℕ) → k < n → n - k ≡ suc (n - (k + 1))
  one_left n k l = omega (arith, l)

  -- the one that is tested is the first, or the first is that behind it; and behind all there is none
  pub first_here : (n k : ℕ) → k < n → test k ≡ true → k ≡ first_from test (n - k) k
  first_here n k l t = ap (λ b. cond b k (first_from test (n - (k + 1)) (k + 1))) (sym t) ∙ ap (λ m. first_from test m k) (sym (one_left n k l))

  pub first_behind : (n k : ℕ) → k < n → test k ≡ false → first_from test (n - (k + 1)) (k + 1) ≡ first_from test (n - k) k
  first_behind n k l t =
      ap (λ b. cond b k (first_from test (n - (k + 1)) (k + 1))) (sym t) ∙ ap (λ m. first_from test m k) (sym (one_left n k l))

  pub first_past : (n k : ℕ) → n ≤ k → k ≡ first_from test (n - k) k
  first_past n k l = let none : 0 ≡ n - k = omega (arith, l) in ap (λ m. first_from test m k) none
