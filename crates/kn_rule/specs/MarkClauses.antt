-- The clauses of the rule on marks, root sets, the count of open work and the shares of callers.
use Rattle.std.specs.Prelude.{◌≡◌, ◌≢◌, ◌↔◌, ℕ, ◌+◌, ◌<◌, ◌≤◌, Bool, true}
use Rattle.kn_base.specs.declared.kinds.Code.TheVariants as codes
use Rattle.kn_base.specs.declared.places.Place.{Place}
use Rattle.kn_base.specs.declared.places.Place.TheVariants.{Phase, Pending, RootSet, Side, Body}
use Rattle.kn_graph.specs.Ground.{Ground}
use Rattle.kn_graph.specs.Graph.{Shape, Lives}
use Rattle.kn_marking.specs.declared.work.Work.{Work}
use Rattle.kn_marking.specs.declared.work.Doing.{Doing}
use Rattle.kn_marking.specs.declared.work.Doing.TheVariants as doings
use Rattle.kn_marking.specs.Words.{black}
use Rattle.kn_marking.specs.Marking.{Marking, Rest}
use Rattle.kn_rule.specs.Decoding.{phase_of}
use Rattle.kn_rule.specs.MarkedHeap.{heap_of}
use Rattle.kn_rule.specs.Steps.{callers}

-- a header that was read of a scanned cell is the cell's
abbrev pub IsHeaderRead : (ℕ → ℕ) → Doing → Type 0
IsHeaderRead body (doings.Cell x h i) = h ≡ body x
IsHeaderRead body _ = Unit {0}

-- a mark outside Mark, behind `now` pauses: it is black, of an epoch up to now, and its object is condemned exactly where that epoch
-- is below now
pub record IsBlackOf (now : ℕ) (condemned : Bool) (mark : ℕ) : Type 0 where
  pub epoch : ℕ
  pub last : epoch ≤ now
  pub packs : mark ≡ black epoch
  pub aged : (condemned ≡ true) ↔ (epoch < now)

-- in Mark: the marking of the phase's epoch goes on over the heap that the words and the graph make, and what was read is right
pub record Marks (z : Ground) (paused born : ℕ) (shape : ℕ → Shape) (word : Place → ℕ) (work : ℕ → Work) : Type 0 where
  pub marking : Marking (heap_of z born shape word) paused (phase_of (word Phase)).epoch (callers z.sizes) (λ a. word (Side a))
      (λ j. word (RootSet j)) work (word Pending)
  pub headers : (c : ℕ) → c < callers z.sizes → IsHeaderRead (λ a. word (Body a)) (work c).doing

-- in every other phase: each mark is black, and no caller has a share in a marking
pub record Rests (z : Ground) (paused born : ℕ) (shape : ℕ → Shape) (side set : ℕ → ℕ) (work : ℕ → Work) : Type 0 where
  pub marks : (n : ℕ) → Lives born shape n → IsBlackOf paused (shape n).condemned (side (shape n).address)
  pub shares : Rest (z.sizes.threads + 2) paused (callers z.sizes) set work

-- marks and shares, by phase
pub record Phased (z : Ground) (paused born : ℕ) (shape : ℕ → Shape) (word : Place → ℕ) (work : ℕ → Work) : Type 0 where
  pub in_mark : (phase_of (word Phase)).code ≡ codes.Mark → Marks z paused born shape word work
  pub at_rest : (phase_of (word Phase)).code ≢ codes.Mark → Rests z paused born shape (λ a. word (Side a)) (λ j. word (RootSet j)) work
