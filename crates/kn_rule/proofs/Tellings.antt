-- What the word of a frame tells.
use Rattle.std.proofs.Common.{◌≡◌, ℕ, zero, suc, ◌≤◌, ◌%◌, ◌/◌, ◌^◌, ◌≢◌, false, cond, eqb, ne_eqb}
use Rattle.std.proofs.Common.{refl, sym, ap, arith}
use Rattle.kn_base.specs.declared.kinds.FrameKind.TheVariants as kinds
use Rattle.kn_rule.specs.Decoding.{frame_of, frame_kind_of}
use Rattle.kn_rule.specs.Requests.{is_usable, is_usable_as}

pub class_told : (w : ℕ) → w % 2 ^ 56 / 2 ^ 40 ≡ (frame_of w).class
unfolding frame_of
class_told w = refl

pub usable_kind : (class w n : ℕ) → w / 2 ^ 56 ≡ n → is_usable_as class (frame_of w) (frame_kind_of n) ≡ is_usable class w
unfolding frame_of
usable_kind class w n e = ap (λ m. is_usable_as class (frame_of w) (frame_kind_of m)) (sym e)

owned_kind : (n : ℕ) → 5 ≤ n → frame_kind_of n ≡ kinds.Owned
owned_kind n l =
    let e0 : eqb n 0 ≡ false = ne_eqb n 0 (λ e. let x = e in absurd (omega arith)) in
    let e1 : eqb n 1 ≡ false = ne_eqb n 1 (λ e. let x = e in absurd (omega arith)) in
    let e2 : eqb n 2 ≡ false = ne_eqb n 2 (λ e. let x = e in absurd (omega arith)) in
    let e3 : eqb n 3 ≡ false = ne_eqb n 3 (λ e. let x = e in absurd (omega arith)) in
    let e4 : eqb n 4 ≡ false = ne_eqb n 4 (λ e. let x = e in absurd (omega arith)) in
    λ t. cond (e0 t) kinds.Vacant (cond (e1 t) kinds.Empty (cond (e2 t) kinds.Ready (cond (e3 t) kinds.Used (cond (e4 t) kinds.Unswept kinds.Owned))))

pub usable_others : (class w n : ℕ) → n ≢ 0 → n ≢ 1 → n ≢ 2 → n ≢ 4 → false ≡ is_usable_as class (frame_of w) (frame_kind_of n)
usable_others class w zero a b c d = absurd (a refl)
usable_others class w (suc zero) a b c d = absurd (b refl)
usable_others class w (suc (suc zero)) a b c d = absurd (c refl)
usable_others class w (suc (suc (suc zero))) a b c d = refl
usable_others class w (suc (suc (suc (suc zero)))) a b c d = absurd (d refl)
usable_others class w (suc (suc (suc (suc (suc n))))) a b c d =
    sym (ap (is_usable_as class (frame_of w)) (owned_kind (suc (suc (suc (suc (suc n))))) (omega arith)))
