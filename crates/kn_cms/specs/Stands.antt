-- The states that the lists of a core stand for, and the room that there is for the rest of the run.
use Rattle.std.specs.Prelude.{◌≡◌, ℕ, ◌+◌, ◌<◌, ◌≤◌, Some, None, option_map, List, [], length, drop, ◌-◌, slice_get}
use Rattle.std.specs.Prelude.{slice_index, slice_index_or, ◌∷◌}
use Rattle.kn_base.specs.Sizes.{word_count}
use Rattle.kn_graph.specs.declared.calls.Call.{Call}
use Rattle.kn_graph.specs.Graph.{Graph, pointers}
use Rattle.kn_objects.specs.Holders.{KeptHolders, AreSized}
use Rattle.kn_cms_rule.specs.declared.stages.Colour.TheVariants.{White}
use Rattle.kn_cms_rule.specs.declared.stages.Doing.TheVariants.{Free}
use Rattle.kn_cms_rule.specs.declared.stages.Stage.{Stage}
use Rattle.kn_cms_rule.specs.declared.stages.Stage.TheVariants.{Waiting}
use Rattle.kn_cms_lists.specs.declared.cells.Cell.{Cell}
use Rattle.kn_cms_rule.specs.Words.{one_framed, words_taken}
use Rattle.kn_cms_rule.specs.State.{State}
use Rattle.kn_cms_rule.specs.Rule.{Rule}
use Rattle.kn_cms_lists.specs.Kept.{KeptCells, Kept, calls_of_threads, epoch_at, kept_point}

-- an object is kept so
pub record IsCellOf (c : Cell) (g : Graph) (n : ℕ) : Type 0 where
  pub address : c.address ≡ (g.object n).address
  pub layout : c.layout ≡ (g.object n).layout
  pub length : c.length ≡ (g.object n).length

-- the objects are kept so, and the words behind the last one hold nothing
pub record AreCellsOf (k : KeptCells) (g : Graph) : Type 0 where
  pub born : length k.cells ≡ g.born
  pub each : (n : ℕ) (c : Cell) → slice_get k.cells n ≡ Some c → IsCellOf c g n
  pub fields : (n f : ℕ) → kept_point k n f ≡ pointers g n f
  pub taken : k.taken ≡ words_taken g
  pub fresh : (w : ℕ) → k.taken < w → slice_index_or k.points w None ≡ None

-- locals and globals hold this
pub record AreHoldersOf (h : KeptHolders) (g : Graph) : Type 0 where
  pub locals : (i r : ℕ) → slice_index_or (slice_index_or h.locals i []) r None ≡ g.local i r
  pub globals : (i : ℕ) → slice_index_or h.globals i None ≡ g.global i

-- what is kept stands for a state in which the rule of the core holds
pub record StandsFor (k : Kept) (s : State) : Type 0 where
  pub rule : Rule (one_framed k.ground) (calls_of_threads k.calls) s
  pub cells : AreCellsOf k.cells s.graph
  pub holders : AreHoldersOf k.holders s.graph
  pub colours : (n : ℕ) → slice_index_or k.colours n White ≡ s.colour n
  pub doing : (i : ℕ) → i < k.ground.sizes.threads → slice_index_or k.doing i Free ≡ s.doing i
  pub stage : k.stage ≡ s.stage
  pub snapshot : k.snapshot ≡ option_map (λ (g : Graph). g.born) s.snapshot
  pub left : (i : ℕ) → i < k.ground.sizes.threads → drop (slice_index k.made i) (calls_of_threads k.calls i) ≡ s.left i
  pub history : k.history.list ≡ s.history
  pub paused : s.graph.paused ≡ epoch_at k.stage

-- how many calls threads have left that have these calls and have answered so many of them
abbrev pub calls_left : List (List Call) → List ℕ → ℕ
calls_left [] made = 0
calls_left (calls ∷ threads) [] = length calls + calls_left threads []
calls_left (calls ∷ threads) (n ∷ made) = (length calls - n) + calls_left threads made

-- how many entries the collector will still make
abbrev pub pauses_left : Stage → ℕ
pauses_left Waiting = 1
pauses_left _ = 0

-- there is a place for each thread, each word and each local and global, and room for an object and an entry of each call
-- that is left, and for the entry of the pause
pub record HasRoom (k : Kept) : Type 0 where
  pub threads : k.ground.sizes.threads ≤ 16
  pub made : length k.made ≡ k.ground.sizes.threads
  pub doing : length k.doing ≡ k.ground.sizes.threads
  pub holders : AreSized k.ground.sizes k.holders
  pub points : length k.cells.points ≡ word_count k.ground.sizes + 1
  pub taken : k.cells.taken ≤ word_count k.ground.sizes
  pub calls : calls_left k.calls [] ≤ 16384
  pub cells : length k.cells.cells + calls_left k.calls k.made ≤ 16384
  pub objects : k.cells.room ≡ 16384
  pub colours : length k.colours ≡ 16384
  pub entries : length k.history.list + (calls_left k.calls k.made + pauses_left k.stage) ≤ k.history.room

-- what is kept stands for a state, and there is room for the rest of the run
pub record IsCore (k : Kept) : Type 0 where
  pub state : State
  pub stands : StandsFor k state
  pub room : HasRoom k
