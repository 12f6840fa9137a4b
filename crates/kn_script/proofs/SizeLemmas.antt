-- The counts of calls and births in sizes.
use Rattle.std.proofs.Common.{◌≡◌, ℕ, zero, suc, ◌<◌, ◌≤◌, List, [], ◌∷◌, length, get_or, set, take, sum, sum_by, refl, ap, arith}
use Rattle.std.proofs.lemmas.List.Sums.{sum_by-cons}
use Rattle.kn_graph.specs.declared.calls.Call.{Call}
use Rattle.kn_script.specs.Scripts.{counts_of}

-- one more thread is counted
pub counts-more : (count : List Call → ℕ) (n : ℕ) (threads : List (List Call)) (i : ℕ) → i < n → i < length threads →
    set (counts_of count n (take i threads)) i (count (get_or threads i [])) ≡ counts_of count n (take (suc i) threads)
counts-more count zero threads i h there = absurd (omega (arith, h))
counts-more count (suc n) [] i h there = absurd (omega (arith, there))
counts-more count (suc n) (calls ∷ threads) zero h there = refl
counts-more count (suc n) (calls ∷ threads) (suc i) h there =
    ap (λ ns. count calls ∷ ns) (counts-more count n threads i (omega arith) (omega arith))

-- there are so many counts
pub counts-length : (count : List Call → ℕ) (n : ℕ) (threads : List (List Call)) → length (counts_of count n threads) ≡ n
counts-length count zero threads = refl
counts-length count (suc n) [] = omega (arith, counts-length count n [])
counts-length count (suc n) (calls ∷ threads) = omega (arith, counts-length count n threads)

-- past the last thread they are 0
pub counts-past : (count : List Call → ℕ) (n : ℕ) (threads : List (List Call)) (i : ℕ) → length threads ≤ i →
    get_or (counts_of count n threads) i 0 ≡ 0
counts-past count zero threads i h = refl
counts-past count (suc n) [] zero h = refl
counts-past count (suc n) [] (suc i) h = counts-past count n [] i (omega arith)
counts-past count (suc n) (calls ∷ threads) zero h = absurd (omega (arith, h))
counts-past count (suc n) (calls ∷ threads) (suc i) h = counts-past count n threads i (omega arith)

-- what is counted less of each list of calls is less for each thread
pub counts-less : (few many : List Call → ℕ) → ((calls : List Call) → few calls ≤ many calls) → (n : ℕ) (threads : List (List Call)) (i : ℕ) →
    get_or (counts_of few n threads) i 0 ≤ get_or (counts_of many n threads) i 0
counts-less few many less zero threads i = omega arith
counts-less few many less (suc n) [] zero = omega arith
counts-less few many less (suc n) [] (suc i) = counts-less few many less n [] i
counts-less few many less (suc n) (calls ∷ threads) zero = less calls
counts-less few many less (suc n) (calls ∷ threads) (suc i) = counts-less few many less n threads i

-- the sum of the counts is that over the threads
counts-nothing : (count : List Call → ℕ) (n : ℕ) → sum (counts_of count n []) ≡ 0
counts-nothing count zero = refl
counts-nothing count (suc n) = omega (arith, sum_by-cons (λ k. k) 0 (counts_of count n []), counts-nothing count n)

pub counts-sum : (count : List Call → ℕ) (n : ℕ) (threads : List (List Call)) → length threads ≤ n →
    sum (counts_of count n threads) ≡ sum_by count threads
counts-sum count zero [] h = refl
counts-sum count zero (calls ∷ threads) h = absurd (omega (arith, h))
counts-sum count (suc n) [] h = counts-nothing count (suc n)
counts-sum count (suc n) (calls ∷ threads) h = omega (
  arith,
  sum_by-cons (λ k. k) (count calls) (counts_of count n threads),
  sum_by-cons count calls threads,
  counts-sum count n threads (omega arith),
)
