-- Which scripts are good, and what holds of a progress between any two lines.
use Rattle.std.specs.Prelude.{◌≡◌, ℕ, ◌<◌, ◌≤◌, List, [], length, sum_by}
use Rattle.std.specs.List.{AllByRecursion}
use Rattle.kn_base.specs.declared.heap.Sizes.{Sizes}
use Rattle.kn_base.specs.Sizes.{Between, FramesFit, NamesFit, IsGood}
use Rattle.kn_base.specs.declared.limits.TheConstants.{MOST_THREADS, MOST_LAYOUTS, MOST_CALLS, MOST_ORDER_WORDS}
use Rattle.kn_layout.specs.declared.layouts.Layout.{Layout}
use Rattle.kn_layout.specs.Layouts.{IsLayout}
use Rattle.kn_graph.specs.declared.calls.Call.{Call}
use Rattle.kn_graph.specs.Ground.{Ground}
use Rattle.kn_graph.specs.Arguments.{IsInRange}
use Rattle.kn_lines.specs.declared.header_lines.FrameSizes.{FrameSizes}
use Rattle.kn_lines.specs.declared.header_lines.NameCounts.{NameCounts}
use Rattle.kn_lines.specs.declared.orders.OrderWord.{OrderWord}
use Rattle.kn_lines.specs.Values.{no_frames, no_names}
use Rattle.kn_lines.specs.Ranges.{IsOrderWord}
use Rattle.kn_script.specs.Scripts.{Scripted, Progress, Counts, ground_of}
use Rattle.kn_script.specs.Progress.{sizes_with}

-- the script is within the limits, its sizes count its calls and births, and every layout, call and order word is in
-- its ranges
pub record IsGoodScript (s : Scripted) : Type 0 where
  pub sizes : IsGood s.sizes
  pub each_thread : length s.threads ≡ s.sizes.threads
  pub counts : Counts s
  pub few_layouts : length s.layouts ≤ MOST_LAYOUTS
  pub layouts : AllByRecursion IsLayout s.layouts
  pub calls : AllByRecursion (AllByRecursion (IsInRange (ground_of s))) s.threads
  pub turns : Between 1 18446744073709551615 s.turns
  pub few_order_words : length s.order ≤ MOST_ORDER_WORDS
  pub order_words : AllByRecursion (IsOrderWord (length s.threads)) s.order

-- the sizes of frames alone, and of names alone
abbrev pub sizes_of_frames : FrameSizes → Sizes
sizes_of_frames frames = sizes_with frames no_names 0 [] []

abbrev pub sizes_of_names : NameCounts → Sizes
sizes_of_names names = sizes_with no_frames names 0 [] []

-- the names and layouts, on which calls rest
abbrev pub ground_with : NameCounts → List Layout → Ground
ground_with names layouts = record { sizes = sizes_of_names names; layouts = layouts }

-- the layouts that have come
pub record AreLayouts (layouts : List Layout) : Type 0 where
  pub few : length layouts ≤ MOST_LAYOUTS
  pub each : AllByRecursion IsLayout layouts

-- the threads: there are none before the threads line, and the next one that may come is one of them or the end
pub record AreThreads (stage next : ℕ) (threads : List (List Call)) : Type 0 where
  pub few : length threads ≤ MOST_THREADS
  pub some : 3 ≤ stage → 1 ≤ length threads
  pub none : stage < 3 → threads ≡ []
  pub there : next ≤ length threads

-- the calls of all threads, and their number
pub record AreCalls (z : Ground) (threads : List (List Call)) (calls : ℕ) : Type 0 where
  pub in_range : AllByRecursion (AllByRecursion (IsInRange z)) threads
  pub count : sum_by length threads ≡ calls
  pub few : calls ≤ MOST_CALLS

-- the words of the order: there are none before an order line
pub record AreOrderWords (stage threads : ℕ) (order : List OrderWord) : Type 0 where
  pub few : length order ≤ MOST_ORDER_WORDS
  pub each : AllByRecursion (IsOrderWord threads) order
  pub none : stage < 6 → order ≡ []

-- what holds between any two lines: what has come is within the limits and in its ranges, and what has not come is
-- not there
pub record IsGoodProgress (p : Progress) : Type 0 where
  pub frames : 1 ≤ p.stage → FramesFit (sizes_of_frames p.frames)
  pub names : NamesFit (sizes_of_names p.names)
  pub layouts : AreLayouts p.layouts
  pub turns : Between 1 18446744073709551615 p.turns
  pub threads : AreThreads p.stage p.next p.threads
  pub calls : AreCalls (ground_with p.names p.layouts) p.threads p.calls
  pub order : AreOrderWords p.stage (length p.threads) p.order
