-- Scripts, and what is read of one so far.
use Rattle.std.specs.Prelude.{◌≡◌, ℕ, zero, suc, List, [], ◌∷◌, length}
use Rattle.kn_base.specs.declared.heap.Sizes.{Sizes}
use Rattle.kn_layout.specs.declared.layouts.Layout.{Layout}
use Rattle.kn_graph.specs.declared.calls.Call.{Call}
use Rattle.kn_graph.specs.Ground.{Ground}
use Rattle.kn_graph.specs.Counts.{births_among}
use Rattle.kn_lines.specs.declared.built.Built.{Built}
use Rattle.kn_lines.specs.declared.header_lines.FrameSizes.{FrameSizes}
use Rattle.kn_lines.specs.declared.header_lines.NameCounts.{NameCounts}
use Rattle.kn_lines.specs.declared.orders.OrderWord.{OrderWord}

-- a script without where it lies in memory
pub record Scripted : Type 0 where
  pub sizes : Sizes
  pub layouts : List Layout
  pub threads : List (List Call)
  pub turns : ℕ
  pub order : List OrderWord

-- what the graph of a script lives on
abbrev pub ground_of : Scripted → Ground
ground_of s = record { sizes = s.sizes; layouts = s.layouts }

-- a number for each of so many threads: what is counted of its calls, and 0 past the last thread
abbrev pub counts_of : (List Call → ℕ) → ℕ → List (List Call) → List ℕ
counts_of count zero threads = []
counts_of count (suc n) [] = 0 ∷ counts_of count n []
counts_of count (suc n) (calls ∷ threads) = count calls ∷ counts_of count n threads

-- the sizes count the calls and the births of each thread
pub record Counts (s : Scripted) : Type 0 where
  pub calls : s.sizes.calls ≡ counts_of length 16 s.threads
  pub births : s.sizes.births ≡ counts_of births_among 16 s.threads

-- what the lines so far have given: the words that are built, the parts of a script, which lines have come (1 the
-- heap, 2 the names, 3 the threads, 4 the turns, 5 a thread, 6 an order), the least thread that may come, and the
-- number of calls
pub record Progress : Type 0 where
  pub built : Built
  pub frames : FrameSizes
  pub names : NameCounts
  pub layouts : List Layout
  pub turns : ℕ
  pub threads : List (List Call)
  pub order : List OrderWord
  pub stage : ℕ
  pub next : ℕ
  pub calls : ℕ
