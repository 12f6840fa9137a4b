-- What the words of a line fit, where the line meets no reason.
use Rattle.std.proofs.Common.{◌≡◌, ℕ, zero, suc, ◌+◌, ◌<◌, ◌≤◌, nat_lt, nat_le, Bool, true, false, cond, Option, Some, None, List, []}
use Rattle.std.proofs.Common.{◌∷◌, length, get_or, slice_get, refl, ap, sym, ◌∙◌, subst, arith}
use Rattle.std.proofs.lemmas.Bool.{ltb-false, leb-false, le-leb, or_parts}
use Rattle.kn_base.specs.Sizes.{NamesFit}
use Rattle.kn_layout.specs.declared.layouts.Layout.{Layout}
use Rattle.kn_layout.specs.declared.layouts.Layout.TheVariants.{Fields, Array}
use Rattle.kn_graph.specs.declared.arguments.CallWord.{CallWord}
use Rattle.kn_graph.specs.declared.arguments.CallWord.TheVariants as word
use Rattle.kn_graph.specs.declared.arguments.Argument.{Argument}
use Rattle.kn_graph.specs.declared.arguments.Argument.TheVariants as argument
use Rattle.kn_graph.specs.Ground.{Ground}
use Rattle.kn_graph.specs.Arguments.{arguments_of, IsFieldsLayout, IsArrayLayout, Fits, AllFit, IsInRange}
use Rattle.kn_lines.specs.declared.built.HeaderWord.{HeaderWord}
use Rattle.kn_lines.specs.declared.built.HeaderWord.TheVariants as header
use Rattle.kn_lines.specs.declared.built.FirstWord.{FirstWord}
use Rattle.kn_lines.specs.declared.built.FirstWord.TheVariants.{Header, Call}
use Rattle.kn_lines.specs.declared.forms.Form.{Form}
use Rattle.kn_lines.specs.declared.forms.Wanted.{Wanted}
use Rattle.kn_lines.specs.declared.forms.Wanted.TheVariants as wanted
use Rattle.kn_lines.specs.Numbers.{number_of, value_of, value_at}
use Rattle.kn_lines.specs.Forms.{form_of, form_of_arguments, if_argument, nth_wanted, wanted_at, heap_places_of, names_places_of}
use Rattle.kn_lines.specs.Values.{values_of, call_of}
use Rattle.kn_lines.specs.Ranges.{AreWithin}
use Rattle.kn_lines.specs.Kept.{IsSmall, AllSmall}
use Rattle.kn_script.specs.declared.faults.Why.{Why}
use Rattle.kn_script.specs.declared.faults.Why.TheVariants.{Range, Late}
use Rattle.kn_script.specs.Scripts.{Progress, ground_of}
use Rattle.kn_script.specs.Progress.{script_of}
use Rattle.kn_script.specs.Reasons.{when, is_no_thread, is_no_name, if_fields, if_array, is_misfit, MeetsNone}
use Rattle.kn_script.specs.Reasons.{number_reason, of_number, reason_at, word_reasons}
use Rattle.kn_script.specs.Good.{ground_with}
use Rattle.kn_script.specs.Readings.{FitsAt}
use Rattle.kn_script.proofs.ReasonLemmas.{and_then-nothing, when-none, outside-not, and-not}

-- a line with a first word that meets no reason
pub MeetsNone-count : (p : Progress) (first : FirstWord) (words : List (List ℕ)) → MeetsNone p first words →
    ((form_of first words).least ≤ length words) × (length words ≤ (form_of first words).most)
MeetsNone-count p first words none = outside-not _ _ _ none.count

-- no word meets a reason at its place
pub word_reasons-at : (p : Progress) (form : Form) (place k : ℕ) (words : List (List ℕ)) → word_reasons p form place words ≡ [] → k < length words →
    reason_at p (wanted_at form (place + k)) (get_or words k []) ≡ None
word_reasons-at p form place k [] none h = absurd (omega arith)
word_reasons-at p form place zero (w ∷ words) none h =
    let same : place ≡ place + zero = omega arith in
    subst (λ n. reason_at p (wanted_at form n) w ≡ None) same (and_then-nothing (reason_at p (wanted_at form place) w) _ none).0
word_reasons-at p form place (suc k) (w ∷ words) none h =
    let same : place + 1 + k ≡ place + suc k = omega arith in
    let rest = (and_then-nothing (reason_at p (wanted_at form place) w) _ none).1 in
    subst (λ n. reason_at p (wanted_at form n) (get_or words k []) ≡ None) same
    (word_reasons-at p form (place + 1) k words rest (omega arith))

-- a word where a number is wanted
number-none : (reason : ℕ → Option Why) (o : Option ℕ) → of_number reason o ≡ None → (n : ℕ) × (o ≡ Some n) × (reason n ≡ None)
number-none reason None e = cc
number-none reason (Some n) e = (n, refl, e)

value-is : (w : List ℕ) (n : ℕ) → number_of w ≡ Some n → value_of w ≡ n
value-is w n e = rw e refl

-- a word at its place, where a number is wanted
pub wanted-number : (p : Progress) (first : FirstWord) (words : List (List ℕ)) (k : ℕ) (want : Wanted) → MeetsNone p first words → k < length words →
    wanted_at (form_of first words) k ≡ want → ((w : List ℕ) → reason_at p want w ≡ of_number (number_reason p want) (number_of w)) →
    number_reason p want (value_at words k) ≡ None
wanted-number p first words k want none below is numeric =
    let same : 0 + k ≡ k = omega arith in
    let here = word_reasons-at p (form_of first words) 0 k words none.places below in
    let wanted = ap (λ n. wanted_at (form_of first words) n) same ∙ is in
    let at : reason_at p want (get_or words k []) ≡ None = subst (λ q. reason_at p q (get_or words k []) ≡ None) wanted here in
    let n = number-none (number_reason p want) (number_of (get_or words k [])) (sym (numeric (get_or words k [])) ∙ at) in
    subst (λ v. number_reason p want v ≡ None) (sym (value-is (get_or words k []) n.0 n.1)) n.2

pub name-there : (p : Progress) (count n : ℕ) → 3 ≤ p.stage → is_no_name p count n ≡ false → n < count
name-there p count n closed h =
    leb-false count n (and-not (nat_le 2 p.stage) (nat_le count n) (le-leb 2 p.stage (omega arith)) h)

-- a number that is no misfit fits its argument
misfit-not : (p : Progress) (a : Argument) (n : ℕ) → 3 ≤ p.stage → is_misfit p a n ≡ false → Fits (ground_with p.names p.layouts) a n
misfit-not p (argument.Number greatest) n closed e = ltb-false greatest n e
misfit-not p argument.FieldsLayout n closed e = there (slice_get p.layouts n) e
  where
    there : (o : Option Layout) → if_fields p o ≡ false → IsFieldsLayout o
    there None h = omega (arith, closed, leb-false 3 p.stage h)
    there (Some (Fields kinds)) h = tt
    there (Some (Array kind)) h = cc
misfit-not p argument.ArrayLayout n closed e = there (slice_get p.layouts n) e
  where
    there : (o : Option Layout) → if_array p o ≡ false → IsArrayLayout o
    there None h = omega (arith, closed, leb-false 3 p.stage h)
    there (Some (Fields kinds)) h = cc
    there (Some (Array kind)) h = tt
misfit-not p argument.Global n closed e = name-there p p.names.globals n closed e
misfit-not p argument.Stable n closed e = name-there p p.names.stable n closed e
misfit-not p argument.Weak n closed e = name-there p p.names.weak n closed e
misfit-not p argument.Back n closed e = name-there p p.names.back n closed e

-- a call has three arguments at most
few-arguments : (w : CallWord) → length (arguments_of w) ≤ 3
few-arguments word.Collect = omega arith
few-arguments _ = omega arith

-- what is wanted at the places of a call's arguments
wanted-argument : (arguments : List Argument) (k : ℕ) → k < 3 → wanted_at (form_of_arguments arguments) k ≡ nth_wanted arguments k
wanted-argument arguments zero h = refl
wanted-argument arguments (suc zero) h = refl
wanted-argument arguments (suc (suc zero)) h = refl
wanted-argument arguments (suc (suc (suc k))) h = absurd (omega (arith, h))

get-there : {X : Type 0} (xs : List X) (k : ℕ) → k < length xs → (x : X) × (slice_get xs k ≡ Some x)
get-there [] k h = absurd (omega (arith, h))
get-there (x ∷ xs) zero h = (x, refl)
get-there (x ∷ xs) (suc k) h = get-there xs k (omega arith)

argument-fits : (p : Progress) (w : CallWord) (words : List (List ℕ)) → 3 ≤ p.stage → MeetsNone p (Call w) words → (k : ℕ) →
    k < length (arguments_of w) → FitsAt (ground_with p.names p.layouts) (slice_get (arguments_of w) k) (value_at words k)
argument-fits p w words closed none k below =
    let count = MeetsNone-count p (Call w) words none in
    let there = get-there (arguments_of w) k below in
    let want : wanted_at (form_of (Call w) words) k ≡ wanted.Argument there.0 =
    wanted-argument (arguments_of w) k (omega (arith, below, few-arguments w)) ∙ ap (λ o. if_argument o) there.1 in
    let n = wanted-number p (Call w) words k (wanted.Argument there.0) none (omega (arith, below, count.0)) want (λ _. refl) in
    let fits = misfit-not p there.0 (value_at words k) closed (when-none _ Range n) in
    subst (λ o. FitsAt (ground_with p.names p.layouts) o (value_at words k)) (sym there.1) fits

in-range : (z : Ground) (w : CallWord) (words : List (List ℕ)) →
    ((k : ℕ) → k < length (arguments_of w) → FitsAt z (slice_get (arguments_of w) k) (value_at words k)) → IsInRange z (call_of w words)
in-range z word.NewArray words h = (h 0 (omega arith), (h 1 (omega arith), (h 2 (omega arith), tt)))
in-range z word.Get words h = (h 0 (omega arith), (h 1 (omega arith), (h 2 (omega arith), tt)))
in-range z word.Set words h = (h 0 (omega arith), (h 1 (omega arith), (h 2 (omega arith), tt)))
in-range z word.Put words h = (h 0 (omega arith), (h 1 (omega arith), (h 2 (omega arith), tt)))
in-range z word.Tie words h = (h 0 (omega arith), (h 1 (omega arith), (h 2 (omega arith), tt)))
in-range z word.Clear words h = (h 0 (omega arith), tt)
in-range z word.Unpin words h = (h 0 (omega arith), tt)
in-range z word.Retain words h = (h 0 (omega arith), tt)
in-range z word.Release words h = (h 0 (omega arith), tt)
in-range z word.Collect words h = tt
in-range z _ words h = (h 0 (omega arith), (h 1 (omega arith), tt))

pub call-in_range : (p : Progress) (w : CallWord) (words : List (List ℕ)) → 3 ≤ p.stage → MeetsNone p (Call w) words →
    IsInRange (ground_with p.names p.layouts) (call_of w words)
call-in_range p w words closed none =
    in-range (ground_with p.names p.layouts) w words (argument-fits p w words closed none)

-- numbers that fit their arguments are small
layout-below : (layouts : List Layout) (n : ℕ) (Is : Option Layout → Type 0) → (Is None → ⊥) → Is (slice_get layouts n) → n < length layouts
layout-below [] n Is none h = absurd (none h)
layout-below (x ∷ xs) zero Is none h = omega arith
layout-below (x ∷ xs) (suc n) Is none h = omega (arith, layout-below xs n Is none h)

fits-small : (z : Ground) (a : Argument) (n : ℕ) → NamesFit z.sizes → length z.layouts ≤ 64 → Fits z a n → IsSmall a n
fits-small z (argument.Number greatest) n names few h = h
fits-small z argument.FieldsLayout n names few h = omega (arith, few, layout-below z.layouts n IsFieldsLayout (λ x. x) h)
fits-small z argument.ArrayLayout n names few h = omega (arith, few, layout-below z.layouts n IsArrayLayout (λ x. x) h)
fits-small z argument.Global n names few h = omega (arith, names.globals, h)
fits-small z argument.Stable n names few h = omega (arith, names.stable, h)
fits-small z argument.Weak n names few h = omega (arith, names.weak, h)
fits-small z argument.Back n names few h = omega (arith, names.back, h)

pub fit-small : (z : Ground) (arguments : List Argument) (ns : List ℕ) → NamesFit z.sizes → length z.layouts ≤ 64 →
    AllFit z arguments ns → AllSmall arguments ns
fit-small z [] ns names few all = tt
fit-small z (a ∷ arguments) [] names few all = absurd all
fit-small z (a ∷ arguments) (n ∷ ns) names few all =
    (fits-small z a n names few all.0, fit-small z arguments ns names few all.1)

-- numbers that fit on the names and layouts fit on the ground of the script
fits-script : (p : Progress) (a : Argument) (n : ℕ) → Fits (ground_with p.names p.layouts) a n → Fits (ground_of (script_of p)) a n
fits-script p (argument.Number greatest) n h = h
fits-script p _ n h = h

pub all-script : (p : Progress) (arguments : List Argument) (ns : List ℕ) → AllFit (ground_with p.names p.layouts) arguments ns →
    AllFit (ground_of (script_of p)) arguments ns
all-script p [] [] all = tt
all-script p [] (n ∷ ns) all = absurd all
all-script p (a ∷ arguments) [] all = absurd all
all-script p (a ∷ arguments) (n ∷ ns) all = (fits-script p a n all.0, all-script p arguments ns all.1)

pub MeetsNone-number : (p : Progress) (h : HeaderWord) (words : List (List ℕ)) (k least greatest : ℕ) → MeetsNone p (Header h) words →
    k < length words → wanted_at (form_of (Header h) words) k ≡ wanted.Number least greatest →
    (least ≤ value_at words k) × (value_at words k ≤ greatest)
MeetsNone-number p h words k least greatest none below is =
    outside-not least greatest _ (when-none _ Range (wanted-number p (Header h) words k (wanted.Number least greatest) none below is (λ _. refl)))

pub MeetsNone-thread : (p : Progress) (words : List (List ℕ)) → MeetsNone p (Header header.Thread) words → 0 < length words → 3 ≤ p.stage →
    value_at words 0 < length p.threads
MeetsNone-thread p words none h closed =
    there (is_no_thread p (value_at words 0)) refl
    (wanted-number p (Header header.Thread) words 0 wanted.Thread none h refl (λ _. refl))
  where
    there : (a : Bool) → is_no_thread p (value_at words 0) ≡ a → cond a (Some Range) (when (nat_lt (value_at words 0) p.next) Late) ≡ None →
        value_at words 0 < length p.threads
    there true ea e = cc
    there false ea e =
        leb-false (length p.threads) (value_at words 0)
        (and-not (nat_le 3 p.stage) (nat_le (length p.threads) (value_at words 0)) (le-leb 3 p.stage closed) ea)

pub MeetsNone-stage : (p : Progress) (first : FirstWord) (words : List (List ℕ)) → MeetsNone p first words →
    ((form_of first words).from ≤ p.stage) × (p.stage ≤ (form_of first words).until)
MeetsNone-stage p first words none = (ltb-false _ _ (or_parts _ _ none.come).0, ltb-false _ _ none.in_time)

-- a call stands in a block
pub MeetsNone-in_block : (p : Progress) (w : CallWord) (words : List (List ℕ)) → MeetsNone p (Call w) words →
    (1 ≤ p.next) × (3 ≤ p.stage) × (p.calls < 16384)
MeetsNone-in_block p w words none =
    let h = or_parts _ _ none.come in
    (ltb-false p.next 1 h.1, ltb-false p.stage 3 h.0, leb-false 16384 p.calls none.room)

pub MeetsNone-heap : (p : Progress) (words : List (List ℕ)) → MeetsNone p (Header header.Heap) words →
    AreWithin heap_places_of (values_of words)
MeetsNone-heap p words none =
    let count = MeetsNone-count p (Header header.Heap) words none in
    let small = MeetsNone-number p header.Heap words 0 1 256 none (omega arith) refl in
    let small_words = MeetsNone-number p header.Heap words 1 32 65536 none (omega arith) refl in
    let large = MeetsNone-number p header.Heap words 2 0 256 none (omega arith) refl in
    let large_words = MeetsNone-number p header.Heap words 3 32 65536 none (omega arith) refl in
    let extra = MeetsNone-number p header.Heap words 4 0 256 none (omega arith) refl in
    let extra_words = MeetsNone-number p header.Heap words 5 2 65536 none (omega arith) refl in
    (small, (small_words, (large, (large_words, (extra, (extra_words, tt))))))

pub MeetsNone-names : (p : Progress) (words : List (List ℕ)) → MeetsNone p (Header header.Names) words →
    AreWithin names_places_of (values_of words)
MeetsNone-names p words none =
    let count = MeetsNone-count p (Header header.Names) words none in
    let globals = MeetsNone-number p header.Names words 0 0 64 none (omega arith) refl in
    let stable = MeetsNone-number p header.Names words 1 0 64 none (omega arith) refl in
    let weak = MeetsNone-number p header.Names words 2 0 64 none (omega arith) refl in
    let back = MeetsNone-number p header.Names words 3 0 64 none (omega arith) refl in
    (globals, (stable, (weak, (back, (tt, (tt, tt))))))
