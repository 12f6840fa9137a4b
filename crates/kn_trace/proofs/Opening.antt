-- What is opened of a script.
use Rattle.std.proofs.Common.{◌≡◌, ℕ, zero, suc, ◌+◌, ◌-◌, ◌<◌, Bool, false, List, [], ◌∷◌, ◌++◌, length, map, replicate, take}
use Rattle.std.proofs.Common.{Some, slice_get, refl, sym, ap}
use Rattle.std.proofs.Common.{◌∙◌, subst, arith, length-append}
use Rattle.std.specs.List.{AllByRecursion}
use Rattle.std.proofs.lemmas.List.{take_all}
use Rattle.std.proofs.lemmas.Option.{slice_get_within, same_Some}
use Rattle.kn_base.proofs.Updates.{split_at}
use Rattle.kn_graph.specs.declared.calls.Call.{Call}
use Rattle.kn_rule.specs.Allowed.{IsBuilt}
use Rattle.kn_rule.specs.Rule.{fresh}
use Rattle.kn_script.specs.Scripts.{Scripted, ground_of}
use Rattle.kn_collector.specs.Kept.{new_kept}
use Rattle.kn_mutator.specs.Agree.{Agrees}
use Rattle.kn_mutator.specs.Mutating.{Mutating, first_task, new_mutating}
use Rattle.kn_trace.specs.Traces.{ends, is_end}
use Rattle.kn_trace.specs.Runs.{AreBuilt, calls_at}
use Rattle.kn_trace.specs.Between.{AreNew}

get_left : {A : Type 0} (xs ys : List A) (i : ℕ) (x : A) → slice_get xs i ≡ Some x → slice_get (xs ++ ys) i ≡ Some x
get_left [] ys i x is = cc
get_left (y ∷ xs) ys zero x is = is
get_left (y ∷ xs) ys (suc i) x is = get_left xs ys i x is

get_last : {A : Type 0} (xs : List A) (x : A) → slice_get (xs ++ x ∷ []) (length xs) ≡ Some x
get_last [] x = refl
get_last (y ∷ xs) x = get_last xs x

-- the calls of each thread are built
pub built_at : (threads : List (List Call)) (thread : ℕ) → AreBuilt threads → AllByRecursion IsBuilt (calls_at threads thread)
built_at [] thread all = tt
built_at (calls ∷ threads) zero all = all.0
built_at (calls ∷ threads) (suc thread) all = built_at threads thread all.1

goes_first : (calls : List Call) → is_end (first_task calls) ≡ false
goes_first [] = refl
goes_first (call ∷ calls) = refl

-- an empty list that was filled up
pub filled : {B : Type 0} (old new : List B) (long n : ℕ) (b : B) → old ≡ [] → long ≡ 0 → new ≡ take n old ++ replicate (n - long) b →
    new ≡ replicate n b
filled old new long n b none short is =
    let all : n - long ≡ n = omega (arith, short) in
    is
    ∙ (ap (λ o. take n o ++ replicate (n - long) b) none
    ∙ (ap (λ l. l ++ replicate (n - long) b) (take_all n [] (omega arith)) ∙ ap (λ k. replicate k b) all))

-- a list whose elements are all the same
all_same : {B : Type 0} (f : Mutating → B) (b : B) (ms : List Mutating) →
    ((i : ℕ) (m : Mutating) → slice_get ms i ≡ Some m → f m ≡ b) → map f ms ++ b ∷ [] ≡ replicate (length ms + 1) b
all_same f b [] each = refl
all_same f b (m ∷ ms) each =
    let long : suc (length ms + 1) ≡ suc (length ms) + 1 = omega arith in
    (λ t. each 0 m refl t ∷ all_same f b ms (λ i n is. each (suc i) n is) t) ∙ ap (λ n. replicate n b) long

module _ (s : Scripted) where
  pub none_new : AreNew s 0 []
  none_new = record { count = refl; each = λ thread near. absurd (omega arith); agree = λ thread near. absurd (omega arith) }

  pub one_new : (n : ℕ) (ms : List Mutating) (m : Mutating) → AreNew s n ms → m ≡ new_mutating (ground_of s) n (calls_at s.threads n) →
      ((here : ℕ → Bool) → Agrees m (record { heap = ground_of s; by = n; view = fresh (ground_of s) }) here) → AreNew s (n + 1) (ms ++ m ∷ [])
  one_new n ms m new is agrees = record {
    count = length-append ms (m ∷ []) ∙ ap (λ k. k + 1) new.count;
    each = λ thread near. split_at (λ i. i < n + 1 →
        slice_get (ms ++ m ∷ []) i ≡ Some (new_mutating (ground_of s) i (calls_at s.threads i))) n
        (λ _. subst (λ k. slice_get (ms ++ m ∷ []) k ≡ Some (new_mutating (ground_of s) n (calls_at s.threads n))) new.count
        (get_last ms m ∙ ap (λ (x : Mutating). Some x) is)) thread
        (λ ne l. get_left ms (m ∷ []) thread _ (new.each thread (omega arith))) near;
    agree = λ thread near. split_at (λ i. i < n + 1 → (here : ℕ → Bool) →
        Agrees (new_mutating (ground_of s) i (calls_at s.threads i)) (record { heap = ground_of s; by = i; view = fresh (ground_of s) }) here) n
        (λ _ here. subst (λ (x : Mutating). Agrees x (record { heap = ground_of s; by = n; view = fresh (ground_of s) }) here) is (agrees here)) thread
        (λ ne l. new.agree thread (omega arith)) near;
  }

  -- no mutator has ended or answered a call
  new_at : (n : ℕ) (ms : List Mutating) → AreNew s n ms → (i : ℕ) (m : Mutating) → slice_get ms i ≡ Some m →
      m ≡ new_mutating (ground_of s) i (calls_at s.threads i)
  new_at n ms new i m is =
      let near = slice_get_within ms i m is in
      let count = new.count in
      same_Some m (new_mutating (ground_of s) i (calls_at s.threads i)) (sym is ∙ new.each i (omega arith))

  pub first_flags : (n : ℕ) (ms : List Mutating) → AreNew s n ms → replicate (n + 1) false ≡ ends ms (new_kept (ground_of s))
  first_flags n ms new =
      ap (λ k. replicate (k + 1) false) (sym new.count)
      ∙ sym (all_same (λ m. is_end m.task) false ms
      (λ i m is. ap (λ (x : Mutating). is_end x.task) (new_at n ms new i m is) ∙ goes_first (calls_at s.threads i)))

  pub first_counts : (n : ℕ) (ms : List Mutating) → AreNew s n ms → replicate (n + 1) 0 ≡ map (λ (m : Mutating). length m.log) ms ++ 0 ∷ []
  first_counts n ms new =
      ap (λ k. replicate (k + 1) 0) (sym new.count)
      ∙ sym (all_same (λ m. length m.log) 0 ms (λ i m is. ap (λ (x : Mutating). length x.log) (new_at n ms new i m is)))
