-- One call behind another: what they put behind, and where a text passes the limit.
use Rattle.std.proofs.Common.{◌≡◌, ℕ, ◌+◌, ◌-◌, ◌<◌, ◌≤◌, List, ◌++◌, length, take, drop, ◌==◌, cond, Option, Some, None}
use Rattle.std.proofs.Common.{ap, sym, ◌∙◌, arith, append_assoc}
use Rattle.std.proofs.lemmas.List.{take_rest, length-append}
use Rattle.std.proofs.lemmas.List.Sums.{sum_by-append}
use Rattle.std.proofs.Math.Seq.{take-add, take-append-add}
use Rattle.kn_base.specs.Texts.{line_behind}
use Rattle.kn_io.specs.Told.{Appends}
use Rattle.kn_io.specs.Ends.{PassesLimit}

pub Appends-trans : (a b c : Option (List ℕ)) (xs ys : List ℕ) → Appends a b xs → Appends b c ys → Appends a c (xs ++ ys)
Appends-trans None b c xs ys p q = rw p at q
Appends-trans (Some held) b c xs ys p q = (rw p at q) ∙ ap Some (append_assoc held xs ys)

-- the first i bytes, then the first n of those behind them
pub take-rest_append : (bytes : List ℕ) (i n : ℕ) → take i bytes ++ take n (take (length bytes - i) (drop i bytes)) ≡ take (i + n) bytes
take-rest_append bytes i n = rw take_rest (sym (take-add i n bytes))

-- a list up to a place within its second part
pub take-second_part : (xs ys : List ℕ) (n : ℕ) → length xs ≤ n → take n (xs ++ ys) ≡ xs ++ take (n - length xs) ys
take-second_part xs ys n low =
    let parts : n ≡ length xs + (n - length xs) = omega arith in
    ap (λ k. take k (xs ++ ys)) parts ∙ take-append-add xs ys (n - length xs)

-- where a piece passes the limit behind a text that is within it, the line is counted from both
pub PassesLimit-piece : (text piece : List ℕ) (limit line more : ℕ)
    → length text ≤ limit → limit < length text + length piece
    → line ≡ line_behind text → more ≡ line_behind (take (limit - length text) piece)
    → PassesLimit limit (text ++ piece) (line + (more - 1))
PassesLimit-piece text piece limit line more low high l m =
    let counted = sum_by-append (λ byte. cond (byte == 10) 1 0) text (take (limit - length text) piece) in
    (omega (arith, length-append text piece), rw (take-second_part text piece limit low) (omega (arith, counted)))
