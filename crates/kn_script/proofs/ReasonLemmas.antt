-- The first one of the reasons that a line meets.
use Rattle.std.proofs.Common.{◌≡◌, ◌⊎◌, inl, inr, ℕ, ◌+◌, ◌<◌, ◌≤◌, nat_le, nat_lt, ◌&&◌, Bool, true, false, cond, Option, Some}
use Rattle.std.proofs.Common.{None, List, [], ◌∷◌, refl, ap, sym, ◌∙◌, subst, arith}
use Rattle.std.proofs.lemmas.Bool.{ltb-false, or_parts, leb-true, leb-false, le-leb, lt-leb, cond-true, cond-false}
use Rattle.std.proofs.lemmas.Option.{same_Some}
use Rattle.kn_lines.specs.declared.built.FirstWord.{FirstWord}
use Rattle.kn_lines.specs.declared.forms.Form.{Form}
use Rattle.kn_lines.specs.Forms.{form_of, wanted_at}
use Rattle.kn_lines.specs.Ranges.{is_outside}
use Rattle.kn_script.specs.declared.faults.Why.{Why}
use Rattle.kn_script.specs.declared.faults.Why.TheVariants.{Word, Range, Count, Order, Late}
use Rattle.kn_script.specs.Scripts.{Progress}
use Rattle.kn_script.specs.Reasons.{row, is_word, when, and_then, sooner, earlier, first_of, IsAmong, StandsFirst}
use Rattle.kn_script.specs.Reasons.{word_reasons, further_reasons, is_too_much, is_other_count, is_early, is_late, reasons_of, MeetsNone}

-- which of two reasons stands first
sooner-cases : (why other : Why) →
    ((row why ≤ row other) × (sooner why (Some other) ≡ Some why)) ⊎ ((row other < row why) × (sooner why (Some other) ≡ Some other))
sooner-cases why other = at (nat_le (row why) (row other)) refl
  where
    at : (b : Bool) → nat_le (row why) (row other) ≡ b →
        ((row why ≤ row other) × (cond b (Some why) (Some other) ≡ Some why))
        ⊎ ((row other < row why) × (cond b (Some why) (Some other) ≡ Some other))
    at true e = inl (leb-true _ _ e, refl)
    at false e = inr (leb-false _ _ e, refl)

pub first_of-none : (reasons : List Why) → first_of reasons ≡ None → reasons ≡ []
first_of-none [] e = refl
first_of-none (why ∷ reasons) e = absurd (some why (first_of reasons) e)
  where
    some : (why : Why) (o : Option Why) → sooner why o ≡ None → ⊥
    some why None e = cc
    some why (Some other) e = elim (sooner-cases why other) [ inl h ↦ (let f = h.1 in cc) | inr h ↦ (let f = h.1 in cc) ]

pub first_of-some : (reasons : List Why) (why : Why) → first_of reasons ≡ Some why → StandsFirst reasons why
first_of-some [] why e = cc
first_of-some (head ∷ reasons) why e =
    elim (first_of reasons) as (λ o. first_of reasons ≡ o → sooner head o ≡ Some why → StandsFirst (head ∷ reasons) why) [
      | None ↦ λ none is. alone none (same_Some head why is)
      | Some other ↦ λ some is. both other (first_of-some reasons other some) is
    ] refl e
  where
    alone : first_of reasons ≡ None → head ≡ why → StandsFirst (head ∷ reasons) why
    alone none same = record {
      among = inl same;
      first = λ other before among. elim among [
        | inl is ↦ absurd (omega (arith, before, ap row (sym is ∙ same)))
        | inr is ↦ subst (λ rs. IsAmong rs other) (first_of-none reasons none) is
      ];
    }

    at_head : (other : Why) → StandsFirst reasons other → row head ≤ row other → head ≡ why → StandsFirst (head ∷ reasons) why
    at_head other rest below same = record {
      among = inl same;
      first = λ third before among. elim among [
        | inl is ↦ absurd (omega (arith, before, ap row (sym is ∙ same)))
        | inr is ↦ rest.first third (omega (arith, before, below, ap row same)) is
      ];
    }

    in_rest : (other : Why) → StandsFirst reasons other → row other < row head → other ≡ why → StandsFirst (head ∷ reasons) why
    in_rest other rest below same = record {
      among = inr (subst (λ w. IsAmong reasons w) same rest.among);
      first = λ third before among. elim among [
        | inl is ↦ absurd (omega (arith, before, below, ap row same, ap row is))
        | inr is ↦ rest.first third (omega (arith, before, ap row same)) is
      ];
    }

    both : (other : Why) → StandsFirst reasons other → sooner head (Some other) ≡ Some why → StandsFirst (head ∷ reasons) why
    both other rest is = elim (sooner-cases head other) [
      | inl h ↦ at_head other rest h.0 (same_Some head why (sym h.1 ∙ is))
      | inr h ↦ in_rest other rest h.0 (same_Some other why (sym h.1 ∙ is))
    ]

pub first_of-and_then : (one : Option Why) (reasons : List Why) → first_of (and_then one reasons) ≡ earlier one (first_of reasons)
first_of-and_then None reasons = refl
first_of-and_then (Some why) reasons = refl

pub earlier-none : (one : Option Why) → earlier one None ≡ one
earlier-none None = refl
earlier-none (Some why) = refl

pub earlier-assoc : (a b c : Option Why) → earlier (earlier a b) c ≡ earlier a (earlier b c)
earlier-assoc None b c = refl
earlier-assoc (Some x) None c = refl
earlier-assoc (Some x) (Some y) None = earlier-none (sooner x (Some y))
earlier-assoc (Some x) (Some y) (Some z) =
    elim (sooner-cases x y) [
      | inl xy ↦ elim (sooner-cases y z) [
        | inl yz ↦ rw (xy.1, yz.1, xy.1) (sooner-le x z (omega (arith, xy.0, yz.0)))
        | inr zy ↦ rw (xy.1, zy.1) refl
      ]
      | inr yx ↦ elim (sooner-cases y z) [
        | inl yz ↦ rw (yx.1, yz.1, yx.1) refl
        | inr zy ↦ rw (yx.1, zy.1) (sym (sooner-lt x z (omega (arith, yx.0, zy.0))))
      ]
    ]
  where
    sooner-le : (x z : Why) → row x ≤ row z → sooner x (Some z) ≡ Some x
    sooner-le x z h = cond-true _ (Some x) (Some z) (le-leb _ _ h)

    sooner-lt : (x z : Why) → row z < row x → sooner x (Some z) ≡ Some z
    sooner-lt x z h = cond-false _ (Some x) (Some z) (lt-leb _ _ h)

-- no reason from the test, and none from the rest
pub and_then-none : (test : Bool) (why : Why) (reasons : List Why) → and_then (when test why) reasons ≡ [] → (test ≡ false) × (reasons ≡ [])
and_then-none true why reasons e = cc
and_then-none false why reasons e = (refl, e)

-- words that meet no reason behind a first word, which is known
pub MeetsNone-from : (p : Progress) (word known : FirstWord) (words : List (List ℕ)) → word ≡ known → reasons_of p word words ≡ [] →
    MeetsNone p known words
MeetsNone-from p word known words is none =
    let room = and_then-none _ _ _ (subst (λ w. reasons_of p w words ≡ []) is none) in
    let count = and_then-none _ _ _ room.1 in
    let come = and_then-none _ _ _ count.1 in
    let in_time = and_then-none _ _ _ come.1 in
    record { places = in_time.1; room = room.0; count = count.0; come = come.0; in_time = in_time.0 }

pub and_then-nothing : (one : Option Why) (reasons : List Why) → and_then one reasons ≡ [] → (one ≡ None) × (reasons ≡ [])
and_then-nothing None reasons e = (refl, e)
and_then-nothing (Some why) reasons e = cc

-- before `word` stands no reason, and behind it none is sooner
pub earlier-word : (one other : Option Why) → is_word other ≡ true → earlier one other ≡ Some Word
earlier-word one None e = absurd cc
earlier-word None (Some Word) e = refl
earlier-word (Some why) (Some Word) e = behind why
  where
    behind : (w : Why) → sooner w (Some Word) ≡ Some Word
    behind Word = refl
    behind w = refl
earlier-word one (Some why) e = absurd cc

pub word-earlier : (one other : Option Why) → is_word one ≡ true → earlier one other ≡ Some Word
word-earlier None other e = absurd cc
word-earlier (Some Word) None e = refl
word-earlier (Some Word) (Some other) e = cond-true _ (Some Word) (Some other) (le-leb 0 (row other) (omega arith))
word-earlier (Some why) other e = absurd cc

-- past the first places each word is looked at in one way
pub word_reasons-further : (p : Progress) (form : Form) (place : ℕ) (words : List (List ℕ)) →
    ((k : ℕ) → place ≤ k → wanted_at form k ≡ form.further) → word_reasons p form place words ≡ further_reasons p form.further words
word_reasons-further p form place [] past = refl
word_reasons-further p form place (word ∷ words) past =
    let behind = word_reasons-further p form (place + 1) words (λ k h. past k (omega (arith, h))) in
    rw (past place (omega arith), behind) refl

-- one more reason is looked at
pub first_of-more : (all rest : List Why) (found reason next total : Option Why) → all ≡ and_then reason rest → next ≡ earlier found reason →
    earlier found (first_of all) ≡ total → earlier next (first_of rest) ≡ total
first_of-more all rest found reason next total is then so_far =
    ap (λ o. earlier o (first_of rest)) then
    ∙ earlier-assoc found reason (first_of rest)
    ∙ ap (λ o. earlier found o) (sym (first_of-and_then reason rest))
    ∙ ap (λ rs. earlier found (first_of rs)) (sym is)
    ∙ so_far

-- the reason `word` stands before all others of a line
pub first_of-word : (p : Progress) (word : FirstWord) (words : List (List ℕ)) →
    is_word (first_of (word_reasons p (form_of word words) 0 words)) ≡ true → first_of (reasons_of p word words) ≡ Some Word
first_of-word p word words is =
    let form = form_of word words in
    let places = word_reasons p form 0 words in
    let late = and_then (when (is_late p form) Late) places in
    let early = and_then (when (is_early p form) Order) late in
    let counted = and_then (when (is_other_count form words) Count) early in
    let a = behind (when (is_late p form) Late) places is in
    let b = behind (when (is_early p form) Order) late (ap is_word a) in
    let c = behind (when (is_other_count form words) Count) early (ap is_word b) in
    behind (when (is_too_much p word words) Range) counted (ap is_word c)
  where
    behind : (one : Option Why) (reasons : List Why) → is_word (first_of reasons) ≡ true → first_of (and_then one reasons) ≡ Some Word
    behind one reasons e = first_of-and_then one reasons ∙ earlier-word one (first_of reasons) e

-- a test that gives no reason fails
pub when-none : (test : Bool) (why : Why) → when test why ≡ None → test ≡ false
when-none true why e = cc
when-none false why e = refl

-- a number that is not outside is between
pub outside-not : (least greatest n : ℕ) → is_outside least greatest n ≡ false → (least ≤ n) × (n ≤ greatest)
outside-not least greatest n e =
    let h = or_parts (nat_lt n least) (nat_lt greatest n) e in
    (ltb-false n least h.0, ltb-false greatest n h.1)

-- a test behind another one that passes
pub and-not : (a b : Bool) → a ≡ true → (a && b) ≡ false → b ≡ false
and-not true b e h = h
and-not false b e h = cc
