-- Searches from the last frame on.
use Rattle.std.proofs.Common.{◌≡◌, ℕ, zero, suc, ◌+◌, ◌-◌, ◌<◌, ◌≤◌, Bool, false, true, ◌&&◌, List, Option}
use Rattle.std.proofs.Common.{sym, ap, ◌∙◌, arith}
use Rattle.kn_rule.specs.Searches.{done_from, is_done_with}

-- a search that is done with the last of some frames is done with them where it is done with the others
pub done_but_last : (class : ℕ) (seen : List (Option ℕ)) (refused : List Bool) (p n : ℕ) → 0 < n →
    is_done_with class seen refused (p + (n - 1)) ≡ true → done_from class seen refused p (n - 1) ≡ done_from class seen refused p n
done_but_last class seen refused p zero l d = absurd (omega arith)
done_but_last class seen refused p (suc n) l d =
    let e : suc n - 1 ≡ n = omega arith in
    let last : is_done_with class seen refused (p + n) ≡ true = ap (λ m. is_done_with class seen refused (p + m)) (sym e) ∙ d in
    ap (done_from class seen refused p) e ∙ (λ t. sym last t && done_from class seen refused p n)

-- a search that is not done with the last of some frames is not done with them
pub not_done : (class : ℕ) (seen : List (Option ℕ)) (refused : List Bool) (p n last : ℕ) → (p ≤ last) × (p + n ≡ last + 1) →
    is_done_with class seen refused last ≡ false → done_from class seen refused p n ≡ false
not_done class seen refused p zero last l d = let a = l.0 in let e = l.1 in absurd (omega arith)
not_done class seen refused p (suc n) last l d =
    let e = l.1 in
    let same : p + n ≡ last = omega arith in
    ap (λ k. is_done_with class seen refused k && done_from class seen refused p n) same ∙ (λ t. d t && done_from class seen refused p n)
