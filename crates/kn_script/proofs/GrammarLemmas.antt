-- Lines are either a text or have a first bad line.
use Rattle.std.proofs.Common.{◌≡◌, ◌⊎◌, inl, inr, ℕ, false, Option, Some, None, Result, Ok, Err, List, [], ◌∷◌, length, refl, ap, sym}
use Rattle.std.proofs.Common.{◌∙◌, subst, arith}
use Rattle.std.proofs.lemmas.Option.{same_Some}
use Rattle.std.proofs.lemmas.Bool.{cases_lt}
use Rattle.kn_base.specs.declared.limits.TheConstants.{LONGEST_TEXT}
use Rattle.kn_lines.specs.declared.built.FirstWord.{FirstWord}
use Rattle.kn_lines.specs.Lines.{Numbered, unread, has_odd_byte}
use Rattle.kn_lines.specs.declared.built.Built.{Built}
use Rattle.kn_lines.specs.Built.{first_word_of}
use Rattle.kn_script.specs.declared.faults.Fault.{Fault}
use Rattle.kn_script.specs.declared.faults.Fault.TheVariants.{Bad, Memory}
use Rattle.kn_script.specs.declared.faults.Why.{Why}
use Rattle.kn_script.specs.declared.faults.Why.TheVariants.{Word, Count, Long}
use Rattle.kn_script.specs.Scripts.{Scripted, Progress}
use Rattle.kn_script.specs.Progress.{start, behind, script_of}
use Rattle.kn_script.specs.Reasons.{reasons_of, if_known, reasons, first_of, IsAmong, IsFirst}
use Rattle.kn_script.specs.Grammar.{Takes, Reads, IsBadAmong, Behind, IsText, IsBad, IfBad}
use Rattle.kn_script.specs.Laws.{EachLineIsTakenOrBad, NoLineIsBoth, EachTextIsOneOrBad, NoTextIsBad, TextsAreOfOneScript}
use Rattle.kn_script.proofs.ReasonLemmas.{first_of-none, first_of-some, and_then-none, MeetsNone-from}

-- a line that is taken meets no reason
pub Takes-meets_none : (p q : Progress) (line : Numbered) → Takes p line q → reasons p line ≡ []
Takes-meets_none p q line takes =
    let none = takes.meets_none in
    rw (takes.plain, takes.known, none.room, none.count, none.come, none.in_time, none.places) refl

-- a line that meets no reason is taken
pub Takes-from : (p : Progress) (line : Numbered) (word : FirstWord) → first_word_of p.built line.name ≡ Some word → reasons p line ≡ [] →
    Takes p line (behind p word line.arguments)
Takes-from p line word known none =
    let plain = and_then-none _ Word _ none in
    let of_word : reasons_of p word line.arguments ≡ [] = at_word (first_word_of p.built line.name) known plain.1 in
    record {
      word = word;
      plain = plain.0;
      known = known;
      meets_none = MeetsNone-from p word word line.arguments refl of_word;
      after = refl;
    }
  where
    at_word : (o : Option FirstWord) → o ≡ Some word → if_known (λ first. reasons_of p first line.arguments) o ≡ [] →
        reasons_of p word line.arguments ≡ []
    at_word None e h = cc
    at_word (Some first) e h = subst (λ w. reasons_of p w line.arguments ≡ []) (same_Some first word e) h

-- a line whose first word is not known meets a reason
pub unknown-meets : (p : Progress) (line : Numbered) → first_word_of p.built line.name ≡ None → reasons p line ≡ [] → ⊥
unknown-meets p line none is =
    let rest = (and_then-none _ Word _ is).1 in
    at_word (first_word_of p.built line.name) none rest
  where
    at_word : (o : Option FirstWord) → o ≡ None → if_known (λ first. reasons_of p first line.arguments) o ≡ [] → ⊥
    at_word None e h = cc
    at_word (Some first) e h = cc

-- a line is taken in one way
pub Takes-one : (p a b : Progress) (line : Numbered) → Takes p line a → Takes p line b → a ≡ b
Takes-one p a b line one other =
    let same : one.word ≡ other.word = same_Some one.word other.word (sym one.known ∙ other.known) in
    one.after ∙ ap (λ w. behind p w line.arguments) same ∙ sym other.after

-- a line that is taken meets no reason
pub Takes-not_met : NoLineIsBoth
Takes-not_met p q line why takes meets = subst (λ rs. IsAmong rs why) (Takes-meets_none p q line takes) meets

-- a line is taken, or it is bad
pub taken_or_bad : EachLineIsTakenOrBad
taken_or_bad p line = at (first_of (reasons p line)) refl
  where
    taken : (o : Option FirstWord) → first_word_of p.built line.name ≡ o → reasons p line ≡ [] → (q : Progress) × Takes p line q
    taken None e none = absurd (unknown-meets p line e none)
    taken (Some word) e none = (behind p word line.arguments, Takes-from p line word e none)

    at : (o : Option Why) → first_of (reasons p line) ≡ o → ((q : Progress) × Takes p line q) ⊎ ((why : Why) × IsFirst p line why)
    at None e = inl (taken (first_word_of p.built line.name) refl (first_of-none _ e))
    at (Some why) e = inr (why, first_of-some _ why e)

-- lines are the text of one script at most
pub Reads-one : (p : Progress) (lines : List Numbered) (s t : Scripted) → Reads p lines s → Reads p lines t → s ≡ t
Reads-one p [] s t one other = sym one.1 ∙ other.1
Reads-one p (line ∷ lines) s t (a, takes, reads) (b, takes', reads') =
    Reads-one b lines s t (subst (λ q. Reads q lines s) (Takes-one p a b line takes takes') reads) reads'

-- no text has a bad line
pub Reads-not_bad : (p : Progress) (lines : List Numbered) (end n : ℕ) (why : Why) (s : Scripted) → Reads p lines s → IsBadAmong p lines end n why → ⊥
Reads-not_bad p [] end n why s reads bad = omega (arith, reads.0, bad.0)
Reads-not_bad p (line ∷ lines) end n why s (a, takes, reads) (inl bad) = Takes-not_met p a line why takes bad.1.among
Reads-not_bad p (line ∷ lines) end n why s (a, takes, reads) (inr (b, takes', bad)) =
    Reads-not_bad b lines end n why s (subst (λ q. Reads q lines s) (Takes-one p a b line takes takes') reads) bad

-- lines are a text or have a bad line
pub reads_or_bad : (p : Progress) (lines : List Numbered) (end : ℕ) →
    ((s : Scripted) × Reads p lines s) ⊎ ((n : ℕ) × (why : Why) × IsBadAmong p lines end n why)
reads_or_bad p [] end = elim (cases_lt p.stage 3) [
  | inl few ↦ inr (end, Count, (few, refl, refl))
  | inr whole ↦ inl (script_of p, (whole, refl))
]
reads_or_bad p (line ∷ lines) end =
    elim (taken_or_bad p line) [
      | inl taken ↦ elim (reads_or_bad taken.0 lines end) [
        | inl reads ↦ inl (reads.0, (taken.0, taken.1, reads.1))
        | inr bad ↦ inr (bad.0, bad.1, inr (taken.0, taken.1, bad.2))
      ]
      | inr bad ↦ inr (line.number, bad.0, inl (refl, bad.1))
    ]

-- one more line is taken
pub Behind-more : (first : Progress) (all left rest : List Numbered) (end : ℕ) (p q : Progress) (line : Numbered) → Behind first all end p left →
    left ≡ line ∷ rest → Takes p line q → Behind first all end q rest
Behind-more first all left rest end p q line before is takes =
    let here : Behind first all end p (line ∷ rest) = subst (λ ls. Behind first all end p ls) is before in
    record {
      reads = λ s reads. here.reads s (q, takes, reads);
      bad = λ n why bad. here.bad n why (inr (q, takes, bad));
    }

-- a text is of one script
pub IsText-one : (built : Built) → TextsAreOfOneScript built
IsText-one built s t bytes one other = Reads-one (start built) _ s t one.reads other.reads

-- bytes that are bad are no text
pub IsText-not_bad : (built : Built) → NoTextIsBad built
IsText-not_bad built s bytes n why text (inl long) = omega (arith, text.short, long.long)
IsText-not_bad built s bytes n why text (inr bad) = Reads-not_bad (start built) _ _ n why s text.reads bad.bad

-- what was judged of a line whose first word is known
pub judged-bad : (p : Progress) (line : Numbered) (word : FirstWord) (why : Why) → has_odd_byte line.text ≡ false →
    first_word_of p.built line.name ≡ Some word → first_of (reasons_of p word line.arguments) ≡ Some why → IsFirst p line why
judged-bad p line word why plain known first =
    let same : reasons p line ≡ reasons_of p word line.arguments = rw (plain, known) refl in
    first_of-some (reasons p line) why (ap first_of same ∙ first)

pub judged-good : (p : Progress) (line : Numbered) (word : FirstWord) → has_odd_byte line.text ≡ false → first_word_of p.built line.name ≡ Some word →
    first_of (reasons_of p word line.arguments) ≡ None → reasons p line ≡ []
judged-good p line word plain known first =
    let same : reasons p line ≡ reasons_of p word line.arguments = rw (plain, known) refl in
    same ∙ first_of-none _ first

-- bytes with a bad line are no text
pub bad-no_text : {X : Type 0} (built : Built) (result : Result X Fault) (bytes : List ℕ) → IfBad result (λ n why. IsBad built bytes n why) →
    IfBad result (λ n why. (s : Scripted) → IsText built s bytes → ⊥)
bad-no_text built (Ok x) bytes bad = tt
bad-no_text built (Err Memory) bytes bad = tt
bad-no_text built (Err (Bad n why)) bytes bad = λ s text. IsText-not_bad built s bytes n why text bad

-- all bytes are the text of a script, or have a first bad line
pub text_or_bad : (built : Built) → EachTextIsOneOrBad built
text_or_bad built bytes = elim (cases_lt LONGEST_TEXT (length bytes)) [
  | inl long ↦ inr (_, Long, inl (record { long = long; line = refl; reason = refl }))
  | inr short ↦ elim (reads_or_bad (start built) (unread 1 bytes).left (unread 1 bytes).end) [
    | inl reads ↦ inl (reads.0, record { short = short; reads = reads.1 })
    | inr bad ↦ inr (bad.0, bad.1, inr (record { short = short; bad = bad.2 }))
  ]
]
