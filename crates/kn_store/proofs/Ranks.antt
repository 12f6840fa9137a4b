-- The rank that the word of a frame tells.
use Rattle.std.proofs.Common.{◌≡◌, ◌≢◌, ℕ, zero, suc, ◌≤◌, ◌/◌, ◌^◌, false, cond, eqb}
use Rattle.std.proofs.Common.{refl, sym, ap, arith, ne_eqb}
use Rattle.kn_base.specs.declared.kinds.FrameKind.TheVariants as kinds
use Rattle.kn_rule.specs.Decoding.{frame_of, frame_kind_of}
use Rattle.kn_store.specs.Search.{rank_of}

pub rank_at : (w n : ℕ) → w / 2 ^ 56 ≡ n → rank_of (frame_kind_of n) ≡ rank_of (frame_of w).kind
unfolding frame_of
rank_at w n e = ap (λ m. rank_of (frame_kind_of m)) (sym e)

owned_kind : (n : ℕ) → 5 ≤ n → frame_kind_of n ≡ kinds.Owned
owned_kind n l =
    let e0 : eqb n 0 ≡ false = ne_eqb n 0 (λ e. let x = e in absurd (omega arith)) in
    let e1 : eqb n 1 ≡ false = ne_eqb n 1 (λ e. let x = e in absurd (omega arith)) in
    let e2 : eqb n 2 ≡ false = ne_eqb n 2 (λ e. let x = e in absurd (omega arith)) in
    let e3 : eqb n 3 ≡ false = ne_eqb n 3 (λ e. let x = e in absurd (omega arith)) in
    let e4 : eqb n 4 ≡ false = ne_eqb n 4 (λ e. let x = e in absurd (omega arith)) in
    λ t. cond (e0 t) kinds.Vacant (cond (e1 t) kinds.Empty (cond (e2 t) kinds.Ready (cond (e3 t) kinds.Used (cond (e4 t) kinds.Unswept kinds.Owned))))

-- a number that is none of those of frames that may be claimed has the worst rank
pub worst_at : (n : ℕ) → n ≢ 0 → n ≢ 1 → n ≢ 2 → n ≢ 4 → 4 ≡ rank_of (frame_kind_of n)
worst_at zero a b c d = absurd (a refl)
worst_at (suc zero) a b c d = absurd (b refl)
worst_at (suc (suc zero)) a b c d = absurd (c refl)
worst_at (suc (suc (suc zero))) a b c d = refl
worst_at (suc (suc (suc (suc zero)))) a b c d = absurd (d refl)
worst_at (suc (suc (suc (suc (suc n))))) a b c d = sym (ap rank_of (owned_kind (suc (suc (suc (suc (suc n))))) (omega arith)))
