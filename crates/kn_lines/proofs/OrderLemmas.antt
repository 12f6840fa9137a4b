-- Order words: where they are cut, and what the numbers that are kept of them have lost.
use Rattle.std.proofs.Common.{◌≡◌, ◌≢◌, ℕ, zero, suc, ◌<◌, ◌≤◌, ◌==◌, nat_le, min, Bool, true, false, cond, Option}
use Rattle.std.proofs.Common.{Some, None, option_map, IfSome, List, [], ◌∷◌, length, get_or, take, drop, filter_map, refl, ap}
use Rattle.std.proofs.Common.{◌∙◌, sym, bytes_eq, codes, arith}
use Rattle.std.specs.List.{AllByRecursion, list_all}
use Rattle.std.proofs.lemmas.Bool.{ne_eqb, leb-true, and_parts}
use Rattle.std.proofs.lemmas.Slice.Eq.{bytes_eq-Decides}
use Rattle.kn_lines.specs.declared.built.Built.{Built}
use Rattle.kn_lines.specs.declared.built.OrderPart.TheVariants as part
use Rattle.kn_lines.specs.declared.orders.Actor.{Actor}
use Rattle.kn_lines.specs.declared.orders.Actor.TheVariants as who
use Rattle.kn_lines.specs.declared.orders.Until.{Until}
use Rattle.kn_lines.specs.declared.orders.Until.TheVariants as until
use Rattle.kn_lines.specs.declared.orders.OrderWord.{OrderWord}
use Rattle.kn_lines.specs.declared.orders.OrderWord.TheVariants.{Run, Uninstall}
use Rattle.kn_lines.specs.Numbers.{number_of, is_digit}
use Rattle.kn_lines.specs.Built.{has_part, only_if}
use Rattle.kn_lines.specs.Orders.{Cut, cut_of, is_sign, run_of, IsApart, turn_of, join, uninstall_of, alone_of, of_cut, order_of, actor_of, until_of}
use Rattle.kn_lines.specs.Ranges.{IsOrderWord, AreInRange}
use Rattle.kn_lines.specs.Kept.{AreKeptWhole, capped, capped_actor, capped_until}
use Rattle.kn_lines.proofs.NumberLemmas.{number_of-are_digits}

-- up to the first sign
pub cut_of-split : (bytes : List ℕ) (i : ℕ) → i < length bytes → ((k : ℕ) → k < i → is_sign (get_or bytes k 0) ≡ false) →
    is_sign (get_or bytes i 0) ≡ true →
    cut_of bytes ≡ Some (record { before = take i bytes; sign = get_or bytes i 0; behind = drop (suc i) bytes })
cut_of-split [] i h before found = absurd (omega arith)
cut_of-split (b ∷ bs) zero h before found = rw found refl
cut_of-split (b ∷ bs) (suc i) h before found =
    let other : is_sign b ≡ false = before 0 (omega arith) in
    rw (other, cut_of-split bs i (omega arith) (λ k below. before (suc k) (omega arith)) found) refl

-- without a sign
pub cut_of-whole : (bytes : List ℕ) → ((k : ℕ) → k < length bytes → is_sign (get_or bytes k 0) ≡ false) → cut_of bytes ≡ None
cut_of-whole [] none = refl
cut_of-whole (b ∷ bs) none =
    let other : is_sign b ≡ false = none 0 (omega arith) in
    rw (other, cut_of-whole bs (λ k below. none (suc k) (omega arith))) refl

-- what is kept of a word is made of what is kept of its parts
run-capped : (actor : Actor) (u : Until) → run_of (capped_actor actor) (capped_until u) ≡ option_map capped (run_of actor u)
run-capped (who.Thread n) u = refl
run-capped who.Collector (until.Turns n) = refl
run-capped who.Collector (until.Calls n) = refl
run-capped who.Collector (until.Code p) = refl
run-capped who.Finalizer (until.Turns n) = refl
run-capped who.Finalizer (until.Calls n) = refl
run-capped who.Finalizer (until.Code p) = refl
run-capped who.Round (until.Turns n) = refl
run-capped who.Round (until.Calls n) = refl
run-capped who.Round (until.Code p) = refl

pub joined-capped : (actor : Option Actor) (u : Option Until) →
    join (option_map capped_actor actor) (option_map capped_until u) ≡ option_map capped (join actor u)
joined-capped None u = refl
joined-capped (Some actor) None = refl
joined-capped (Some actor) (Some u) = run-capped actor u

turn-capped : (actor : Option Actor) → turn_of (option_map capped_actor actor) ≡ option_map capped (turn_of actor)
turn-capped None = refl
turn-capped (Some actor) = refl

pub alone-turn : (built : Built) (word : List ℕ) → get_or word 0 0 ≢ 117 →
    turn_of (option_map capped_actor (actor_of built word)) ≡ option_map capped (alone_of built word)
alone-turn built word other = rw (ne_eqb (get_or word 0 0) 117 other) (turn-capped (actor_of built word))

-- no bytes begin with `u`
pub first-none : (word : List ℕ) → length word ≡ 0 → get_or word 0 0 ≢ 117
first-none [] h = λ e. omega (arith, e)
first-none (b ∷ bs) h = absurd (omega (arith, h))

-- a number has no sign and does not begin with `u`
digit-cases : (b : ℕ) → is_digit b ≡ true → (48 ≤ b) × (b ≤ 57)
digit-cases b e =
    let parts = and_parts (nat_le 48 b) (nat_le b 57) e in
    (leb-true 48 b parts.0, leb-true b 57 parts.1)

digit-no_sign : (b : ℕ) → is_digit b ≡ true → is_sign b ≡ false
digit-no_sign b e =
    let h = digit-cases b e in
    let star = ne_eqb b 42 (λ is. omega (arith, h.0, is)) in
    let slash = ne_eqb b 47 (λ is. omega (arith, h.0, is)) in
    let at = ne_eqb b 64 (λ is. omega (arith, h.1, is)) in
    rw (star, slash, at) refl

digits-uncut : (word : List ℕ) → list_all is_digit word ≡ true → cut_of word ≡ None
digits-uncut [] e = refl
digits-uncut (b ∷ bs) e =
    let parts = and_parts (is_digit b) (list_all is_digit bs) e in
    rw (digit-no_sign b parts.0, digits-uncut bs parts.1) refl

digits-no_u : (word : List ℕ) → list_all is_digit word ≡ true → get_or word 0 0 ≢ 117
digits-no_u [] e = λ is. omega (arith, is)
digits-no_u (b ∷ bs) e =
    let h = digit-cases b (and_parts (is_digit b) (list_all is_digit bs) e).0 in
    λ is. omega (arith, h.1, is)

-- a word that spells a number is none that spells none
number-other : (word other : List ℕ) (n : ℕ) → number_of other ≡ None → number_of word ≡ Some n → bytes_eq word other ≡ false
number-other word other n none some = at (bytes_eq word other) refl
  where
    at : (b : Bool) → bytes_eq word other ≡ b → bytes_eq word other ≡ false
    at false e = e
    at true e =
        let same = ap number_of ((bytes_eq-Decides word other).0 e) in
        let wrong : Some n ≡ None = sym some ∙ same ∙ none in
        absurd cc

-- a number alone is one turn of the thread of that number
pub order_of-number : (built : Built) (word : List ℕ) (n : ℕ) → number_of word ≡ Some n →
    order_of built word ≡ turn_of (only_if (has_part built part.Thread) (Some (who.Thread n)))
unfolding order_of
order_of-number built word n some =
    let digits = number_of-are_digits word n some in
    let plain = ne_eqb (get_or word 0 0) 117 (digits-no_u word digits) in
    let round = number-other word (codes "r") n refl some in
    let collector = number-other word (codes "c") n refl some in
    let finalizer = number-other word (codes "f") n refl some in
    rw (digits-uncut word digits, plain, round, collector, finalizer, some) refl

-- nothing is lost of a word in its ranges
capped-same : (threads : ℕ) (order : OrderWord) → threads ≤ 16 → IsOrderWord threads order → capped order ≡ order
capped-same threads (Run (who.Thread n) (until.Turns k)) few h =
    let thread : min n 255 ≡ n = omega (arith, h.0, few) in
    let turns : min k 4294967295 ≡ k = omega (arith, h.1) in
    rw (thread, turns) refl
capped-same threads (Run (who.Thread n) (until.Calls k)) few h =
    let thread : min n 255 ≡ n = omega (arith, h.0, few) in
    let calls : min k 4294967295 ≡ k = omega (arith, h.1) in
    rw (thread, calls) refl
capped-same threads (Run (who.Thread n) (until.Code c)) few h = ap (λ m. Run (who.Thread m) (until.Code c)) (omega (arith, h.0, few))
capped-same threads (Run who.Collector (until.Turns k)) few h = ap (λ m. Run who.Collector (until.Turns m)) (omega (arith, h.1))
capped-same threads (Run who.Collector (until.Calls k)) few h = absurd h.1
capped-same threads (Run who.Collector (until.Code c)) few h = refl
capped-same threads (Run who.Finalizer (until.Turns k)) few h = ap (λ m. Run who.Finalizer (until.Turns m)) (omega (arith, h.1))
capped-same threads (Run who.Finalizer (until.Calls k)) few h = absurd h.1
capped-same threads (Run who.Finalizer (until.Code c)) few h = refl
capped-same threads (Run who.Round (until.Turns k)) few h = ap (λ m. Run who.Round (until.Turns m)) (omega (arith, h.1))
capped-same threads (Run who.Round (until.Calls k)) few h = absurd h.1
capped-same threads (Run who.Round (until.Code c)) few h = refl
capped-same threads (Uninstall n) few h = ap (λ m. Uninstall m) (omega (arith, h))

-- calls are counted of a thread alone
run-apart : (actor : Actor) (u : Until) → IfSome (run_of actor u) IsApart
run-apart (who.Thread n) u = tt
run-apart who.Collector (until.Turns n) = tt
run-apart who.Collector (until.Calls n) = tt
run-apart who.Collector (until.Code p) = tt
run-apart who.Finalizer (until.Turns n) = tt
run-apart who.Finalizer (until.Calls n) = tt
run-apart who.Finalizer (until.Code p) = tt
run-apart who.Round (until.Turns n) = tt
run-apart who.Round (until.Calls n) = tt
run-apart who.Round (until.Code p) = tt

pub order-apart : (built : Built) (word : List ℕ) → IfSome (order_of built word) IsApart
unfolding order_of
order-apart built word = of_a_cut (cut_of word)
  where
    turn : (actor : Option Actor) → IfSome (turn_of actor) IsApart
    turn None = tt
    turn (Some (who.Thread n)) = tt
    turn (Some who.Collector) = tt
    turn (Some who.Finalizer) = tt
    turn (Some who.Round) = tt

    uninstall : (b : Bool) (n : Option ℕ) → IfSome (only_if b (option_map (λ n. Uninstall n) n)) IsApart
    uninstall true None = tt
    uninstall true (Some n) = tt
    uninstall false n = tt

    alone : (b : Bool) (one other : Option OrderWord) → IfSome one IsApart → IfSome other IsApart → IfSome (cond b one other) IsApart
    alone true one other h k = h
    alone false one other h k = k

    joined : (actor : Option Actor) (u : Option Until) → IfSome (join actor u) IsApart
    joined None u = tt
    joined (Some actor) None = tt
    joined (Some actor) (Some u) = run-apart actor u

    of_a_cut : (o : Option Cut) → IfSome (of_cut built word o) IsApart
    of_a_cut None =
        let number = number_of (drop 1 word) in
        alone (get_or word 0 0 == 117) (uninstall_of built (drop 1 word)) (turn_of (actor_of built word))
        (uninstall (has_part built part.Uninstall) number) (turn (actor_of built word))
    of_a_cut (Some cut) = joined (actor_of built cut.before) (until_of built cut.sign cut.behind)

-- what is kept of words in their ranges is all of them
pub orders-same : (built : Built) (threads : ℕ) (words : List (List ℕ)) → threads ≤ 16 → AreInRange built threads words →
    AreKeptWhole built words
orders-same built threads [] few all = refl
orders-same built threads (word ∷ words) few all = at (order_of built word) refl all.0 (orders-same built threads words few all.1)
  where
    at : (o : Option OrderWord) → order_of built word ≡ o → IfSome o (IsOrderWord threads) → AreKeptWhole built words →
        AreKeptWhole built (word ∷ words)
    at None e h rest = rw e rest
    at (Some order) e h rest = rw (e, capped-same threads order few h, rest) refl

pub orders-good : (built : Built) (threads : ℕ) (words : List (List ℕ)) → AreInRange built threads words →
    AllByRecursion (IsOrderWord threads) (filter_map (order_of built) words)
orders-good built threads [] all = tt
orders-good built threads (word ∷ words) all = at (order_of built word) refl all.0 (orders-good built threads words all.1)
  where
    at : (o : Option OrderWord) → order_of built word ≡ o → IfSome o (IsOrderWord threads) →
        AllByRecursion (IsOrderWord threads) (filter_map (order_of built) words) →
        AllByRecursion (IsOrderWord threads) (filter_map (order_of built) (word ∷ words))
    at None e h rest = rw e rest
    at (Some order) e h rest = rw e (h, rest)
