-- A list behind its first elements, where some elements are moved by one place.
use Rattle.std.proofs.Common.{ℕ, suc, ◌+◌, ◌-◌, ◌<◌, ◌≤◌, ◌≡◌, List, [], ◌∷◌, ◌++◌, length, take, drop, slice_set}
use Rattle.std.proofs.Common.{slice_index_or, append_assoc, ap, sym, ◌∙◌, arith}
use Rattle.std.specs.List.{insert, remove}
use Rattle.std.proofs.Math.Seq.{drop-cons}
use Rattle.std.proofs.lemmas.List.{drop-append-le, drop-drop, drop-set-add, drop-take, drop_at, length-append, length-drop, length-take-le, set_at, take-take}
use borrow.Rule.Slice.PartMut.{put_mid}
use Rattle.kn_base.specs.declared.numbers.Span.{Span}

-- the last of some elements moved before the others, and left out
pub moved_up : (xs ys : List Span) (first place k n : ℕ) → first + place < length xs → k ≡ place + 1 → n ≡ place
    → ys ≡ drop n (take k (drop first xs)) ++ take n (take k (drop first xs))
    → drop (first + 1) (put_mid first k xs ys) ≡ remove (drop first xs) place
moved_up xs ys first place k n h ek en e =
    let rest = drop first xs in
    let front = take first xs in
    let last = drop n (take k rest) in
    let others = take n (take k rest) in
    let behind = drop k rest in
    let long : length rest + first ≡ length xs = omega (arith, length-drop first xs) in
    let one : length (front ++ last) ≡ first + 1 =
    omega (arith, length-append front last, length-take-le first xs (omega arith), length-drop n (take k rest), length-take-le k rest (omega arith)) in
    let parts : front ++ ((last ++ others) ++ behind) ≡ (front ++ last) ++ (others ++ behind) =
    ap (λ z. front ++ z) (append_assoc last others behind) ∙ sym (append_assoc front last (others ++ behind)) in
    ap (λ z. drop (first + 1) (front ++ (z ++ behind))) e
    ∙ ap (drop (first + 1)) parts
    ∙ drop_at (front ++ last) (others ++ behind) (first + 1) one
    ∙ ap (λ z. z ++ behind) (take-take n k rest (omega arith))
    ∙ ap (λ m. take m rest ++ behind) en
    ∙ ap (λ m. take place rest ++ drop m rest) (let next : k ≡ suc place = omega arith in next)

-- the element before some moved behind them, and another put in its place
pub moved_down : (xs ys : List Span) (first place k before at : ℕ) (span : Span) → 0 < first → first + place ≤ length xs → before ≡ first - 1
    → k ≡ place + 1 → at ≡ before + place → ys ≡ drop 1 (take k (drop before xs)) ++ take 1 (take k (drop before xs))
    → drop before (slice_set (put_mid before k xs ys) at span) ≡ insert (drop first xs) place span
moved_down xs ys first place k before at span some h eb ek ea e =
    let rest = drop first xs in
    let front = take before xs in
    let over = slice_index_or xs before span in
    let next : suc before ≡ first = omega arith in
    let size : length (take place rest) ≡ place = length-take-le place rest (omega (arith, length-drop first xs)) in
    let part : drop before xs ≡ over ∷ rest = drop-cons xs before span (omega arith) ∙ ap (λ m. over ∷ drop m xs) next in
    let long : k ≡ suc place = omega arith in
    let turned : ys ≡ take place rest ++ over ∷ [] =
    e ∙ ap (λ z. drop 1 (take k z) ++ take 1 (take k z)) part ∙ ap (λ m. drop 1 (take m (over ∷ rest)) ++ take 1 (take m (over ∷ rest))) long in
    let behind : drop k (drop before xs) ≡ drop place rest = ap (drop k) part ∙ ap (λ m. drop m (over ∷ rest)) long in
    ap (λ m. drop before (slice_set (put_mid before k xs ys) m span)) ea
    ∙ drop-set-add before (put_mid before k xs ys) place span
    ∙ ap (λ z. slice_set z place span) (drop_at front (ys ++ drop k (drop before xs)) before (length-take-le before xs (omega arith)))
    ∙ ap (λ z. slice_set (z ++ drop k (drop before xs)) place span) turned
    ∙ ap (λ z. slice_set ((take place rest ++ over ∷ []) ++ z) place span) behind
    ∙ ap (λ z. slice_set z place span) (append_assoc (take place rest) (over ∷ []) (drop place rest))
    ∙ set_at (take place rest) over (drop place rest) span place size

-- an element left out behind the first ones
pub drop-remove : (xs : List Span) (first place : ℕ) → first + place ≤ length xs →
    drop first (remove xs (first + place)) ≡ remove (drop first xs) place
drop-remove xs first place h =
    let behind = drop (suc (first + place)) xs in
    let next : suc (first + place) ≡ first + suc place = omega arith in
    drop-append-le first (take (first + place) xs) behind (omega (arith, length-take-le (first + place) xs h))
    ∙ ap (λ z. z ++ behind) (drop-take first place xs)
    ∙ ap (λ z. take place (drop first xs) ++ z) (ap (λ n. drop n xs) next ∙ sym (drop-drop (suc place) first xs))

-- an element put in behind the first ones
pub drop-insert : (xs : List Span) (first place : ℕ) (span : Span) → first + place ≤ length xs
    → drop first (insert xs (first + place) span) ≡ insert (drop first xs) place span
drop-insert xs first place span h =
    let behind = drop (first + place) xs in
    drop-append-le first (take (first + place) xs) (span ∷ behind) (omega (arith, length-take-le (first + place) xs h))
    ∙ ap (λ z. z ++ span ∷ behind) (drop-take first place xs)
    ∙ ap (λ z. take place (drop first xs) ++ span ∷ z) (sym (drop-drop place first xs))
