-- Words of the order that meet no reason are in their ranges.
use Rattle.std.proofs.Common.{◌≡◌, ℕ, zero, suc, ◌+◌, ◌≤◌, nat_le, false, Option}
use Rattle.std.proofs.Common.{Some, None, IfSome, List, [], ◌∷◌, length, get_or, refl, subst}
use Rattle.std.specs.List.{AllByRecursion}
use Rattle.std.proofs.lemmas.Bool.{leb-false, le-leb, or_parts}
use Rattle.kn_base.specs.declared.limits.TheConstants.{MOST_CLEANERS}
use Rattle.kn_lines.specs.declared.forms.Wanted.{Wanted}
use Rattle.kn_lines.specs.declared.forms.Wanted.TheVariants.{Scheduled}
use Rattle.kn_lines.specs.declared.orders.Actor.{Actor}
use Rattle.kn_lines.specs.declared.orders.Actor.TheVariants as who
use Rattle.kn_lines.specs.declared.orders.Until.{Until}
use Rattle.kn_lines.specs.declared.orders.Until.TheVariants as until
use Rattle.kn_lines.specs.declared.orders.OrderWord.{OrderWord}
use Rattle.kn_lines.specs.declared.orders.OrderWord.TheVariants.{Run, Uninstall}
use Rattle.kn_lines.specs.Orders.{IsApart, order_of}
use Rattle.kn_lines.specs.Forms.{open_form_of, wanted_at}
use Rattle.kn_lines.specs.Ranges.{is_until_outside, IsActor, IsUntil, IsOrderWord, AreInRange}
use Rattle.kn_lines.proofs.OrderLemmas.{order-apart}
use Rattle.kn_script.specs.declared.faults.Why.TheVariants.{Range}
use Rattle.kn_script.specs.Scripts.{Progress}
use Rattle.kn_script.specs.Reasons.{when, is_actor_outside, is_order_outside, of_word, reason_at, word_reasons}
use Rattle.kn_script.proofs.ReasonLemmas.{and_then-nothing, when-none, outside-not, and-not}

-- a word that meets no reason is in its ranges
order-fits : (p : Progress) (order : OrderWord) → 3 ≤ p.stage → IsApart order → is_order_outside p order ≡ false →
    IsOrderWord (length p.threads) order
order-fits p (Run actor u) closed apart e =
    let parts = or_parts (is_actor_outside p actor) (is_until_outside u) e in
    (of_actor actor parts.0, of_until actor u apart parts.1)
  where
    of_actor : (a : Actor) → is_actor_outside p a ≡ false → IsActor (length p.threads) a
    of_actor (who.Thread n) h =
        leb-false (length p.threads) n (and-not (nat_le 3 p.stage) (nat_le (length p.threads) n) (le-leb 3 p.stage closed) h)
    of_actor who.Collector h = tt
    of_actor who.Finalizer h = tt
    of_actor who.Round h = tt

    of_until : (a : Actor) (v : Until) → IsApart (Run a v) → is_until_outside v ≡ false → IsUntil a v
    of_until (who.Thread n) (until.Turns k) apart h = outside-not 1 1000000 k h
    of_until (who.Thread n) (until.Calls k) apart h = outside-not 1 1000000 k h
    of_until (who.Thread n) (until.Code c) apart h = tt
    of_until who.Collector (until.Turns k) apart h = outside-not 1 1000000 k h
    of_until who.Collector (until.Calls k) apart h = absurd apart
    of_until who.Collector (until.Code c) apart h = tt
    of_until who.Finalizer (until.Turns k) apart h = outside-not 1 1000000 k h
    of_until who.Finalizer (until.Calls k) apart h = absurd apart
    of_until who.Finalizer (until.Code c) apart h = tt
    of_until who.Round (until.Turns k) apart h = outside-not 1 1000000 k h
    of_until who.Round (until.Calls k) apart h = absurd apart
    of_until who.Round (until.Code c) apart h = tt
order-fits p (Uninstall n) closed apart e = leb-false MOST_CLEANERS n e

-- an order word is wanted at each place
scheduled-at : (wants : List Wanted) (k : ℕ) → AllByRecursion (λ w. w ≡ Scheduled) wants → get_or wants k Scheduled ≡ Scheduled
scheduled-at [] k all = refl
scheduled-at (w ∷ wants) zero all = all.0
scheduled-at (w ∷ wants) (suc k) all = scheduled-at wants k all.1

word-fits : (p : Progress) (word : List ℕ) → 3 ≤ p.stage → reason_at p Scheduled word ≡ None →
    IfSome (order_of p.built word) (IsOrderWord (length p.threads))
word-fits p word closed e = at (order_of p.built word) (order-apart p.built word) e
  where
    at : (o : Option OrderWord) → IfSome o IsApart → of_word (λ order. when (is_order_outside p order) Range) o ≡ None →
        IfSome o (IsOrderWord (length p.threads))
    at None apart h = tt
    at (Some order) apart h = order-fits p order closed apart (when-none _ Range h)

pub orders-fit : (p : Progress) (place : ℕ) (words : List (List ℕ)) → 3 ≤ p.stage →
    word_reasons p (open_form_of Scheduled Scheduled 3 6) place words ≡ [] → AreInRange p.built (length p.threads) words
orders-fit p place [] closed none = tt
orders-fit p place (word ∷ words) closed none =
    let form = open_form_of Scheduled Scheduled 3 6 in
    let here = and_then-nothing (reason_at p (wanted_at form place) word) _ none in
    let want : wanted_at form place ≡ Scheduled = scheduled-at form.places place (refl, (refl, (refl, (refl, (refl, (refl, tt)))))) in
    let first = word-fits p word closed (subst (λ w. reason_at p w word ≡ None) want here.0) in
    (first, orders-fit p (place + 1) words closed here.1)
