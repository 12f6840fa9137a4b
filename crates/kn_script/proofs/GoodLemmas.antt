-- A progress is good between any two lines, and every text is of a good script.
use Rattle.std.proofs.Common.{◌≡◌, ℕ, zero, suc, ◌+◌, ◌*◌, ◌<◌, ◌≤◌, ◌-◌, nat_le, nat_lt, not, ◌&&◌, ◌||◌, Bool, true}
use Rattle.std.proofs.Common.{false, Option, Some, None, List, [], ◌∷◌, ◌++◌, length, get_or, set, replicate, cond, filter_map, sum_by, bytes_eq}
use Rattle.std.proofs.Common.{codes, length-append, length-set, refl, ap, sym, ◌∙◌, subst, arith}
use Rattle.std.specs.List.{AllByRecursion}
use Rattle.std.proofs.Math.Nat.{mul-le-mul_left}
use Rattle.std.proofs.lemmas.Bool.{ltb-false, leb-false, le-leb, or_parts, not-false}
use Rattle.std.proofs.lemmas.List.{length-replicate}
use Rattle.std.proofs.lemmas.List.Sums.{sum_by-cons, sum_by-set, count_by-le-length}
use Rattle.std.proofs.lemmas.Slice.Eq.{bytes_eq-Decides}
use Rattle.kn_base.specs.Sizes.{FramesFit, ThreadsFit}
use Rattle.kn_layout.specs.declared.layouts.FieldKind.{FieldKind}
use Rattle.kn_layout.specs.declared.layouts.Layout.TheVariants.{Fields}
use Rattle.kn_layout.specs.Layouts.{IsLayout}
use Rattle.kn_graph.specs.declared.arguments.CallWord.{CallWord}
use Rattle.kn_graph.specs.declared.calls.Call.{Call as Made}
use Rattle.kn_graph.specs.Ground.{Ground}
use Rattle.kn_graph.specs.Arguments.{arguments_of, word_of, numbers_of, IsInRange}
use Rattle.kn_graph.specs.Counts.{makes_object, births_among}
use Rattle.kn_lines.specs.declared.built.Built.{Built}
use Rattle.kn_lines.specs.declared.built.HeaderWord.{HeaderWord}
use Rattle.kn_lines.specs.declared.built.HeaderWord.TheVariants as header
use Rattle.kn_lines.specs.declared.built.FirstWord.{FirstWord}
use Rattle.kn_lines.specs.declared.built.FirstWord.TheVariants.{Header, Call}
use Rattle.kn_lines.specs.declared.orders.OrderWord.{OrderWord}
use Rattle.kn_lines.specs.declared.forms.Wanted.TheVariants as wanted
use Rattle.kn_lines.specs.Lines.{Numbered}
use Rattle.kn_lines.specs.Numbers.{value_at}
use Rattle.kn_lines.specs.Orders.{order_of}
use Rattle.kn_lines.specs.Forms.{line_form_of, open_form_of, array_places_of}
use Rattle.kn_lines.specs.Values.{values_of, frames_from, call_of, kind_of, layout_of, array_from}
use Rattle.kn_lines.specs.Ranges.{is_long_layout, IsOrderWord}
use Rattle.kn_lines.specs.Kept.{IsSmallCall}
use Rattle.kn_lines.proofs.OrderLemmas.{orders-good}
use Rattle.kn_script.specs.declared.faults.Why.TheVariants.{Word}
use Rattle.kn_script.specs.Scripts.{Scripted, Progress}
use Rattle.kn_script.specs.Progress.{start, behind, script_of}
use Rattle.kn_script.specs.Reasons.{reason_at, word_reasons, is_late, MeetsNone}
use Rattle.kn_script.specs.Grammar.{Takes, Reads}
use Rattle.kn_script.specs.Laws.{TextsAreGood}
use Rattle.kn_script.specs.Good.{IsGoodScript, IsGoodProgress, AreThreads, AreCalls, AreOrderWords, ground_with, sizes_of_frames}
use Rattle.kn_script.proofs.ReasonLemmas.{and_then-nothing, when-none, and-not}
use Rattle.kn_script.proofs.OrderFits.{orders-fit}
use Rattle.kn_script.proofs.SizeLemmas.{counts-length, counts-past, counts-less, counts-sum}
use Rattle.kn_script.proofs.FitLemmas.{MeetsNone-count, MeetsNone-stage, MeetsNone-number, MeetsNone-thread, MeetsNone-in_block, MeetsNone-heap}
use Rattle.kn_script.proofs.FitLemmas.{MeetsNone-names, call-in_range, fit-small, all-script}

-- lists of things of one kind
pub All-set : {X : Type 0} (P : X → Type 0) (xs : List X) (i : ℕ) (y : X) → AllByRecursion P xs → P y → AllByRecursion P (set xs i y)
All-set P [] i y all one = tt
All-set P (x ∷ xs) zero y all one = (one, all.1)
All-set P (x ∷ xs) (suc i) y all one = (all.0, All-set P xs i y all.1 one)

pub All-at : {X : Type 0} (P : X → Type 0) (xs : List X) (i : ℕ) (d : X) → AllByRecursion P xs → P d → P (get_or xs i d)
All-at P [] i d all one = one
All-at P (x ∷ xs) zero d all one = all.0
All-at P (x ∷ xs) (suc i) d all one = All-at P xs i d all.1 one

All-append : {X : Type 0} (P : X → Type 0) (xs ys : List X) → AllByRecursion P xs → AllByRecursion P ys → AllByRecursion P (xs ++ ys)
All-append P [] ys all more = more
All-append P (x ∷ xs) ys all more = (all.0, All-append P xs ys all.1 more)

All-replicate : {X : Type 0} (P : X → Type 0) (n : ℕ) (y : X) → P y → AllByRecursion P (replicate n y)
All-replicate P zero y one = tt
All-replicate P (suc n) y one = (one, All-replicate P n y one)

All-map : {X : Type 0} (P Q : X → Type 0) (xs : List X) → ((x : X) → P x → Q x) → AllByRecursion P xs → AllByRecursion Q xs
All-map P Q [] also all = tt
All-map P Q (x ∷ xs) also all = (also x all.0, All-map P Q xs also all.1)

none-of : {X : Type 0} (P : X → Type 0) (xs : List X) → xs ≡ [] → AllByRecursion P xs
none-of P xs none = subst (λ ys. AllByRecursion P ys) (sym none) tt

sum-replicate : (n : ℕ) → sum_by {X = List Made} length (replicate n []) ≡ 0
sum-replicate zero = refl
sum-replicate (suc n) = omega (arith, sum_by-cons {X = List Made} length [] (replicate n []), sum-replicate n)

-- frames within the limits
heap-fits : (p : Progress) (words : List (List ℕ)) → MeetsNone p (Header header.Heap) words →
    FramesFit (sizes_of_frames (frames_from (values_of words)))
heap-fits p words none =
    let count = MeetsNone-count p (Header header.Heap) words none in
    let within = MeetsNone-heap p words none in
    let large = within.1.1 in
    let extra = large.1.1 in
    let room = or_parts _ _ none.room in
    record {
      small = within.0;
      small_words = within.1.0;
      large = large.0.1;
      large_words = large.1.0;
      extra = extra.0.1;
      extra_words = extra.1.0;
      frames = (omega (arith, within.0.0), ltb-false 256 _ (and-not (nat_le 5 (length words)) _ (le-leb 5 (length words) (omega arith)) room.0));
      words = (
        some-words (value_at words 0) (value_at words 1) (value_at words 2 * value_at words 3) (value_at words 4 * value_at words 5)
            within.0.0 within.1.0.0,
        ltb-false 1000000 _ (and-not (nat_le 6 (length words)) _ (le-leb 6 (length words) (omega arith)) room.1),
      );
    }
  where
    some-words : (small small_words large extra : ℕ) → 1 ≤ small → 32 ≤ small_words → 32 ≤ small * small_words + large + extra
    some-words small small_words large extra some wide = omega (arith, mul-le-mul_left small wide, some)

-- the frames of the script are those of the progress
frames-script : (p : Progress) → FramesFit (sizes_of_frames p.frames) → FramesFit (script_of p).sizes
frames-script p fit = record {
  small = fit.small;
  small_words = fit.small_words;
  large = fit.large;
  large_words = fit.large_words;
  extra = fit.extra;
  extra_words = fit.extra_words;
  frames = fit.frames;
  words = fit.words;
}

-- a layout line, of either form, stands before the threads line
layout-stage : (p : Progress) (words : List (List ℕ)) → MeetsNone p (Header header.Layout) words → p.stage < 3
layout-stage p words none = at (bytes_eq (get_or words 0 []) (codes "array")) none.in_time
  where
    at : (b : Bool) → is_late p (cond b (line_form_of array_places_of 2 2 2) (open_form_of wanted.Shape wanted.Kind 2 2)) ≡ false → p.stage < 3
    at true h = omega (arith, ltb-false 2 p.stage h)
    at false h = omega (arith, ltb-false 2 p.stage h)

-- what words spell is no more than there are words
filter_map-few : {Y : Type 0} (f : List ℕ → Option Y) (words : List (List ℕ)) → length (filter_map f words) ≤ length words
filter_map-few f [] = omega arith
filter_map-few {Y = Y} f (w ∷ words) = at (f w) refl (filter_map-few f words)
  where
    at : (o : Option Y) → f w ≡ o → length (filter_map f words) ≤ length words → length (filter_map f (w ∷ words)) ≤ suc (length words)
    at None e few = rw e (omega (arith, few))
    at (Some kind) e few = rw e (omega (arith, few))

-- the word behind `layout` is no kind
shape-none : (p : Progress) (w : List ℕ) → reason_at p wanted.Shape w ≡ None → kind_of w ≡ None
shape-none p w e = at (bytes_eq w (codes "fields")) refl (when-none _ Word e)
  where
    at : (b : Bool) → bytes_eq w (codes "fields") ≡ b → not (b || bytes_eq w (codes "array")) ≡ false → kind_of w ≡ None
    at true is h = ap kind_of ((bytes_eq-Decides w (codes "fields")).0 is)
    at false is h = ap kind_of ((bytes_eq-Decides w (codes "array")).0 (not-false _ h))

shape-at : (p : Progress) (w : List ℕ) (words : List (List ℕ)) → MeetsNone p (Header header.Layout) (w ∷ words) → reason_at p wanted.Shape w ≡ None
shape-at p w words none = at (bytes_eq w (codes "array")) none.places
  where
    at : (b : Bool) → word_reasons p (cond b (line_form_of array_places_of 2 2 2) (open_form_of wanted.Shape wanted.Kind 2 2)) 0 (w ∷ words) ≡ [] →
        reason_at p wanted.Shape w ≡ None
    at true h = (and_then-nothing (reason_at p wanted.Shape w) _ h).0
    at false h = (and_then-nothing (reason_at p wanted.Shape w) _ h).0

kinds-below : (p : Progress) (words : List (List ℕ)) → MeetsNone p (Header header.Layout) words → length words ≤ 65 →
    length (filter_map kind_of words) ≤ 64
kinds-below p [] none few = omega arith
kinds-below p (w ∷ words) none few =
    rw (shape-none p w (shape-at p w words none)) (omega (arith, few, filter_map-few kind_of words))

layout-good : (p : Progress) (words : List (List ℕ)) → MeetsNone p (Header header.Layout) words → IsLayout (layout_of words)
layout-good p words none = at (bytes_eq (get_or words 0 []) (codes "array")) (or_parts _ _ none.room).0
  where
    of_array : (kinds : List FieldKind) → IsLayout (array_from kinds)
    of_array [] = tt
    of_array (kind ∷ kinds) = tt

    at : (b : Bool) → (not b && nat_lt 65 (length words)) ≡ false →
        IsLayout (cond b (array_from (filter_map kind_of words)) (Fields (filter_map kind_of words)))
    at true h = of_array (filter_map kind_of words)
    at false h = kinds-below p words none (ltb-false 65 (length words) h)

-- what stays where a line comes behind the threads line, or before an order line
threads-later : (stage later next : ℕ) (threads : List (List Made)) → 3 ≤ stage → 3 ≤ later → AreThreads stage next threads →
    AreThreads later next threads
threads-later stage later next threads closed still are = record {
  few = are.few;
  some = λ h. are.some closed;
  none = λ h. absurd (omega (arith, h, still));
  there = are.there;
}

threads-early : (stage later next : ℕ) (threads : List (List Made)) → stage < 3 → later < 3 → AreThreads stage next threads →
    AreThreads later next threads
threads-early stage later next threads early still are = record {
  few = are.few;
  some = λ h. absurd (omega (arith, h, still));
  none = λ h. are.none early;
  there = are.there;
}

order-early : (stage later threads others : ℕ) (order : List OrderWord) → stage < 6 → AreOrderWords stage threads order →
    AreOrderWords later others order
order-early stage later threads others order early are = record {
  few = are.few;
  each = none-of _ order (are.none early);
  none = λ h. are.none early;
}

-- without threads there are no calls
no-calls : (y z : Ground) (stage next : ℕ) (threads : List (List Made)) (calls : ℕ) → stage < 3 → AreThreads stage next threads →
    AreCalls y threads calls → AreCalls z threads calls
no-calls y z stage next threads calls early are old =
    record { in_range = none-of _ threads (are.none early); count = old.count; few = old.few }

-- a good line keeps it
header-step : (p : Progress) (h : HeaderWord) (words : List (List ℕ)) → MeetsNone p (Header h) words → IsGoodProgress p →
    IsGoodProgress (behind p (Header h) words)
header-step p header.Heap words none good =
    let stage = MeetsNone-stage p (Header header.Heap) words none in
    record {
      frames = λ h. heap-fits p words none;
      names = good.names;
      layouts = good.layouts;
      turns = good.turns;
      threads = threads-early p.stage 1 p.next p.threads (omega (arith, stage.1)) (omega arith) good.threads;
      calls = good.calls;
      order = order-early p.stage 1 (length p.threads) (length p.threads) p.order (omega (arith, stage.1)) good.order;
    }
header-step p header.Names words none good =
    let stage = MeetsNone-stage p (Header header.Names) words none in
    let within = MeetsNone-names p words none in
    record {
      frames = λ h. good.frames stage.0;
      names = record {
        globals = within.0.1;
        stable = within.1.0.1;
        weak = within.1.1.0.1;
        back = within.1.1.1.0.1;
      };
      layouts = good.layouts;
      turns = good.turns;
      threads = threads-early p.stage 2 p.next p.threads (omega (arith, stage.1)) (omega arith) good.threads;
      calls = no-calls _ _ p.stage p.next p.threads p.calls (omega (arith, stage.1)) good.threads good.calls;
      order = order-early p.stage 2 (length p.threads) (length p.threads) p.order (omega (arith, stage.1)) good.order;
    }
header-step p header.Layout words none good =
    let few : length p.layouts < 64 = leb-false 64 (length p.layouts) (or_parts (is_long_layout words) _ none.room).1 in
    record {
      frames = good.frames;
      names = good.names;
      layouts = record {
        few = omega (arith, few, length-append p.layouts (layout_of words ∷ []));
        each = All-append IsLayout p.layouts (layout_of words ∷ []) good.layouts.each (layout-good p words none, tt);
      };
      turns = good.turns;
      threads = good.threads;
      calls = no-calls _ _ p.stage p.next p.threads p.calls (layout-stage p words none) good.threads good.calls;
      order = good.order;
    }
header-step p header.Threads words none good =
    let stage = MeetsNone-stage p (Header header.Threads) words none in
    let count = MeetsNone-count p (Header header.Threads) words none in
    let n = MeetsNone-number p header.Threads words 0 1 16 none (omega arith) refl in
    let made : length (replicate {A = List Made} (value_at words 0) []) ≡ value_at words 0 = length-replicate (value_at words 0) [] in
    let before : length p.threads ≡ 0 = ap length (good.threads.none (omega (arith, stage.1))) in
    let calls : p.calls ≡ 0 = sym good.calls.count ∙ ap (sum_by length) (good.threads.none (omega (arith, stage.1))) in
    record {
      frames = λ h. good.frames (omega (arith, stage.0));
      names = good.names;
      layouts = good.layouts;
      turns = good.turns;
      threads = record {
        few = omega (arith, n.1, made);
        some = λ h. omega (arith, n.0, made);
        none = λ h. absurd (omega (arith, h));
        there = omega (arith, good.threads.there, before);
      };
      calls = record {
        in_range = All-replicate _ (value_at words 0) [] tt;
        count = sum-replicate (value_at words 0) ∙ sym calls;
        few = good.calls.few;
      };
      order = order-early p.stage 3 (length p.threads) _ p.order (omega (arith, stage.1)) good.order;
    }
header-step p header.Turns words none good =
    let stage = MeetsNone-stage p (Header header.Turns) words none in
    let count = MeetsNone-count p (Header header.Turns) words none in
    record {
      frames = λ h. good.frames (omega (arith, stage.0));
      names = good.names;
      layouts = good.layouts;
      turns = MeetsNone-number p header.Turns words 0 1 18446744073709551615 none (omega arith) refl;
      threads = threads-later p.stage 4 p.next p.threads stage.0 (omega arith) good.threads;
      calls = good.calls;
      order = order-early p.stage 4 (length p.threads) (length p.threads) p.order (omega (arith, stage.1)) good.order;
    }
header-step p header.Thread words none good =
    let stage = MeetsNone-stage p (Header header.Thread) words none in
    let count = MeetsNone-count p (Header header.Thread) words none in
    let there = MeetsNone-thread p words none (omega arith) stage.0 in
    record {
      frames = λ h. good.frames (omega (arith, stage.0));
      names = good.names;
      layouts = good.layouts;
      turns = good.turns;
      threads = record {
        few = good.threads.few;
        some = λ h. good.threads.some stage.0;
        none = λ h. absurd (omega (arith, h));
        there = omega (arith, there);
      };
      calls = good.calls;
      order = order-early p.stage 5 (length p.threads) (length p.threads) p.order (omega (arith, stage.1)) good.order;
    }
header-step p header.Order words none good =
    let stage = MeetsNone-stage p (Header header.Order) words none in
    let count = MeetsNone-count p (Header header.Order) words none in
    let more = orders-good p.built (length p.threads) words (orders-fit p 0 words stage.0 none.places) in
    record {
      frames = λ h. good.frames (omega (arith, stage.0));
      names = good.names;
      layouts = good.layouts;
      turns = good.turns;
      threads = threads-later p.stage 6 p.next p.threads stage.0 (omega arith) good.threads;
      calls = good.calls;
      order = record {
        few = omega (
          arith,
          ltb-false 65536 (length p.order + length words) none.room,
          length-append p.order (filter_map (order_of p.built) words),
          filter_map-few (order_of p.built) words,
        );
        each = All-append (IsOrderWord (length p.threads)) p.order (filter_map (order_of p.built) words) good.order.each more;
        none = λ h. absurd (omega (arith, h));
      };
    }

call-step : (p : Progress) (w : CallWord) (words : List (List ℕ)) → MeetsNone p (Call w) words → IsGoodProgress p →
    IsGoodProgress (behind p (Call w) words)
call-step p w words none good =
    let block = MeetsNone-in_block p w words none in
    let made = call_of w words in
    let z = ground_with p.names p.layouts in
    let old = get_or p.threads (p.next - 1) [] in
    let before = All-at (AllByRecursion (IsInRange z)) p.threads (p.next - 1) [] good.calls.in_range tt in
    let new = All-append (IsInRange z) old (made ∷ []) before (call-in_range p w words block.1 none, tt) in
    let same = length-set p.threads (p.next - 1) (old ++ made ∷ []) in
    record {
      frames = good.frames;
      names = good.names;
      layouts = good.layouts;
      turns = good.turns;
      threads = record {
        few = omega (arith, good.threads.few, same);
        some = λ h. omega (arith, good.threads.some h, same);
        none = λ h. absurd (omega (arith, h, block.1));
        there = omega (arith, good.threads.there, same);
      };
      calls = record {
        in_range = All-set (AllByRecursion (IsInRange z)) p.threads (p.next - 1) (old ++ made ∷ []) good.calls.in_range new;
        count = omega (
          arith,
          sum_by-set length p.threads (p.next - 1) (old ++ made ∷ []) [] (omega (arith, block.0, good.threads.there)),
          length-append old (made ∷ []),
          good.calls.count,
        );
        few = omega (arith, block.2);
      };
      order = subst (λ n. AreOrderWords p.stage n p.order) (sym same) good.order;
    }

step : (p : Progress) (first : FirstWord) (words : List (List ℕ)) → MeetsNone p first words → IsGoodProgress p → IsGoodProgress (behind p first words)
step p (Header h) words none good = header-step p h words none good
step p (Call w) words none good = call-step p w words none good

pub Takes-good : (p q : Progress) (line : Numbered) → IsGoodProgress p → Takes p line q → IsGoodProgress q
Takes-good p q line good takes =
    subst IsGoodProgress (sym takes.after) (step p takes.word line.arguments takes.meets_none good)

pub start-good : (built : Built) → IsGoodProgress (start built)
start-good built = record {
  frames = λ h. absurd (omega (arith, h));
  names = record { globals = omega arith; stable = omega arith; weak = omega arith; back = omega arith };
  layouts = record { few = omega arith; each = tt };
  turns = (omega arith, omega arith);
  threads = record { few = omega arith; some = λ h. absurd (omega (arith, h)); none = λ h. refl; there = omega arith };
  calls = record { in_range = tt; count = refl; few = omega arith };
  order = record { few = omega arith; each = tt; none = λ h. refl };
}

-- a good progress with all required lines gives a good script
threads-fit : (p : Progress) → IsGoodProgress p → 3 ≤ p.stage → ThreadsFit (script_of p).sizes
threads-fit p good whole = record {
  threads = (good.threads.some whole, good.threads.few);
  lists = (counts-length length 16 p.threads, counts-length births_among 16 p.threads);
  calls = omega (arith, counts-sum length 16 p.threads good.threads.few, good.calls.count, good.calls.few);
  births = counts-less births_among length (λ calls. count_by-le-length makes_object calls) 16 p.threads;
  past = λ i h. (counts-past length 16 p.threads i h, counts-past births_among 16 p.threads i h);
}

script-good : (p : Progress) → IsGoodProgress p → 3 ≤ p.stage → IsGoodScript (script_of p)
script-good p good whole = record {
  sizes = record {
    of_frames = frames-script p (good.frames (omega (arith, whole)));
    of_names = record { globals = good.names.globals; stable = good.names.stable; weak = good.names.weak; back = good.names.back };
    of_threads = threads-fit p good whole;
  };
  each_thread = refl;
  counts = record { calls = refl; births = refl };
  few_layouts = good.layouts.few;
  layouts = good.layouts.each;
  calls = All-map _ _ p.threads (λ calls. All-map _ _ calls (λ call. all-script p (arguments_of (word_of call)) (numbers_of call)))
      good.calls.in_range;
  turns = good.turns;
  few_order_words = good.order.few;
  order_words = good.order.each;
}

reads-good : (p : Progress) (lines : List Numbered) (s : Scripted) → IsGoodProgress p → Reads p lines s → IsGoodScript s
reads-good p [] s good reads = subst IsGoodScript reads.1 (script-good p good reads.0)
reads-good p (line ∷ lines) s good (q, takes, reads) = reads-good q lines s (Takes-good p q line good takes) reads

pub texts_are_good : (built : Built) → TextsAreGood built
texts_are_good built s bytes text = reads-good (start built) _ s (start-good built) text.reads

-- a call that meets no reason is small enough for its type
pub call-small : (p : Progress) (w : CallWord) (words : List (List ℕ)) → IsGoodProgress p → MeetsNone p (Call w) words → IsSmallCall (call_of w words)
call-small p w words good none =
    let made = call_of w words in
    let z = ground_with p.names p.layouts in
    let fits = call-in_range p w words (MeetsNone-in_block p w words none).1 none in
    fit-small z (arguments_of (word_of made)) (numbers_of made) good.names good.layouts.few fits
