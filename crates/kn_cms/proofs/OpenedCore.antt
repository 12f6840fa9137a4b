-- The lists of a core before all steps stand for the state before all steps, with room for all.
use Rattle.std.proofs.Common.{◌≡◌, ℕ, zero, suc, ◌+◌, ◌<◌, ◌≤◌, true, Option, None, List, [], ◌∷◌, length, replicate, sum, drop}
use Rattle.std.proofs.Common.{slice_index_or, refl, ap, arith}
use Rattle.std.specs.List.{AllByRecursion, fold}
use Rattle.std.proofs.lemmas.List.{length-replicate}
use Rattle.kn_graph.specs.declared.calls.Call.{Call}
use Rattle.kn_graph.specs.Ground.{Ground}
use Rattle.kn_base.specs.Sizes.{word_count}
use Rattle.kn_graph.specs.declared.arguments.Argument.{Argument}
use Rattle.kn_graph.specs.declared.arguments.Argument.TheVariants.{Number, FieldsLayout, ArrayLayout, Global, Stable, Weak, Back}
use Rattle.kn_graph.specs.Arguments.{AllFit, Fits, IsInRange, arguments_of, numbers_of, word_of}
use Rattle.kn_script.specs.Scripts.{Scripted, counts_of, ground_of}
use Rattle.kn_script.specs.Good.{IsGoodScript}
use Rattle.kn_cms_rule.specs.declared.stages.Colour.TheVariants.{White}
use Rattle.kn_cms_rule.specs.declared.stages.Doing.TheVariants.{Free}
use Rattle.kn_cms_rule.specs.Words.{one_framed}
use Rattle.kn_cms_rule.specs.Calls.{is_core_call}
use Rattle.kn_cms_rule.specs.State.{opening}
use Rattle.kn_cms_rule.specs.Rule.{MayBeMade}
use Rattle.kn_cms_lists.specs.Kept.{opening_lists, calls_of_threads}
use Rattle.kn_cms.specs.Stands.{StandsFor, IsCore, calls_left}
use Rattle.kn_cms_rule.proofs.Opening.{opening_ruled}
use Rattle.kn_cms_lists.proofs.Writes.{same_at}

none_left : (threads : List (List Call)) (n : ℕ) → calls_left threads (replicate n 0) ≡ calls_left threads []
none_left [] n = refl
none_left (c ∷ threads) zero = refl
none_left (c ∷ threads) (suc n) = let rest = none_left threads n in omega (arith, rest)

sum_from : (xs : List ℕ) (a : ℕ) → fold ◌+◌ a xs ≡ a + fold ◌+◌ 0 xs
sum_from [] a = omega arith
sum_from (x ∷ xs) a = let here = sum_from xs (a + x) in let there = sum_from xs (0 + x) in omega (arith, here, there)

sum_cons : (x : ℕ) (xs : List ℕ) → sum (x ∷ xs) ≡ x + sum xs
sum_cons x xs = let e = sum_from xs (0 + x) in omega (arith, e)

-- the calls that are counted are all calls
all_counted : (n : ℕ) (threads : List (List Call)) → length threads ≤ n → sum (counts_of length n threads) ≡ calls_left threads []
all_counted zero [] h = refl
all_counted zero (c ∷ threads) h = absurd (omega (arith, h))
all_counted (suc n) [] h = let e = sum_cons 0 (counts_of length n []) in let rest = all_counted n [] (omega arith) in omega (arith, e, rest)
all_counted (suc n) (c ∷ threads) h = let e = sum_cons (length c) (counts_of length n threads) in
    let rest = all_counted n threads (omega (arith, h)) in omega (arith, e, rest)

-- an argument that fits the heap fits it as one frame
fits_one : (z : Ground) (a : Argument) (n : ℕ) → Fits z a n → Fits (one_framed z) a n
fits_one z (Number greatest) n h = h
fits_one z FieldsLayout n h = h
fits_one z ArrayLayout n h = h
fits_one z Global n h = h
fits_one z Stable n h = h
fits_one z Weak n h = h
fits_one z Back n h = h

all_fit_one : (z : Ground) (arguments : List Argument) (numbers : List ℕ) → AllFit z arguments numbers → AllFit (one_framed z) arguments numbers
all_fit_one z [] [] h = tt
all_fit_one z [] (n ∷ ns) h = absurd h
all_fit_one z (a ∷ arguments) [] h = absurd h
all_fit_one z (a ∷ arguments) (n ∷ ns) h = (fits_one z a n h.0, all_fit_one z arguments ns h.1)

may_all : (z : Ground) (calls : List Call) → AllByRecursion (IsInRange z) calls → AllByRecursion (λ c. is_core_call c ≡ true) calls →
    AllByRecursion (MayBeMade (one_framed z)) calls
may_all z [] fit core = tt
may_all z (c ∷ calls) fit core =
    (record { in_core = core.0; in_range = all_fit_one z (arguments_of (word_of c)) (numbers_of c) fit.0 }, may_all z calls fit.1 core.1)

all_may : (z : Ground) (threads : List (List Call)) → AllByRecursion (AllByRecursion (IsInRange z)) threads →
    AllByRecursion (AllByRecursion (λ c. is_core_call c ≡ true)) threads → (i : ℕ) →
    AllByRecursion (MayBeMade (one_framed z)) (calls_of_threads threads i)
all_may z [] fit core i = tt
all_may z (calls ∷ threads) fit core zero = may_all z calls fit.0 core.0
all_may z (calls ∷ threads) fit core (suc i) = all_may z threads fit.1 core.1 i

rows : (n i r : ℕ) → ◌≡◌ {A = Option ℕ} (slice_index_or (slice_index_or (replicate n (replicate 16 None)) i []) r None) None
rows zero i r = refl
rows (suc n) zero r = same_at 16 None r
rows (suc n) (suc i) r = rows n i r

none_rows : length (replicate {A = Option ℕ} 16 None) ≡ 16
none_rows = refl

rows_at : (n i : ℕ) → i < n → length (slice_index_or (replicate n (replicate {A = Option ℕ} 16 None)) i []) ≡ 16
rows_at zero i less = absurd (omega (arith, less))
rows_at (suc n) zero less = none_rows
rows_at (suc n) (suc i) less = rows_at n i (omega (arith, less))

module _ (s : Scripted) (good : IsGoodScript s) (core : AllByRecursion (AllByRecursion (λ c. is_core_call c ≡ true)) s.threads) where
  pub opening_stands : StandsFor (opening_lists (ground_of s) s.threads) (opening (calls_of_threads s.threads))
  opening_stands = record {
    rule = opening_ruled (one_framed (ground_of s)) (calls_of_threads s.threads) (λ i near. all_may (ground_of s) s.threads good.calls core i);
    cells = record {
      born = refl;
      each = λ n c e. absurd (cc);
      fields = λ n f. refl;
      taken = refl;
      fresh = λ w less. same_at (word_count s.sizes + 1) None w;
    };
    holders = record {
      locals = λ i r. rows s.sizes.threads i r;
      globals = λ i. same_at s.sizes.globals None i;
    };
    colours = λ n. same_at 16384 White n;
    doing = λ i near. same_at s.sizes.threads Free i;
    stage = refl;
    snapshot = refl;
    left = λ i near. ap (λ k. drop k (calls_of_threads s.threads i)) (same_at s.sizes.threads 0 i);
    history = refl;
    paused = refl;
  }

  few : calls_left s.threads [] ≤ 16384
  few =
      let threads = good.sizes.of_threads.threads.1 in let same = good.each_thread in
      let counted = all_counted 16 s.threads (omega (arith, threads, same)) in
      let sums = ap sum good.counts.calls in
      let most = good.sizes.of_threads.calls in omega (arith, counted, sums, most)

  pub opening_is_core : IsCore (opening_lists (ground_of s) s.threads)
  opening_is_core = record {
    state = opening (calls_of_threads s.threads);
    stands = opening_stands;
    room = record {
      threads = good.sizes.of_threads.threads.1;
      made = length-replicate s.sizes.threads 0;
      doing = length-replicate s.sizes.threads Free;
      holders = record {
        threads = length-replicate s.sizes.threads (replicate 16 None);
        locals = λ i near. rows_at s.sizes.threads i near;
        globals = length-replicate s.sizes.globals None;
        stable = length-replicate s.sizes.stable None;
        weak = length-replicate s.sizes.weak None;
        back = length-replicate s.sizes.back None;
        counts = length-replicate s.sizes.back 0;
      };
      points = length-replicate (word_count s.sizes + 1) None;
      taken = omega arith;
      calls = few;
      cells = let left = none_left s.threads s.sizes.threads in omega (arith, few, left);
      objects = refl;
      colours = length-replicate 16384 White;
      entries = let left = none_left s.threads s.sizes.threads in omega (arith, few, left);
    };
  }
