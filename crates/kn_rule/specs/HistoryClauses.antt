-- The clauses of the rule on the history, the calls that were begun, and the phase.
use Rattle.std.specs.Prelude.{◌≡◌, ◌≢◌, ℕ, ◌+◌, ◌<◌, ◌≤◌, cond, List, length, Option, Some, None, slice_index}
use Rattle.kn_base.specs.declared.limits.TheConstants.{LOCALS}
use Rattle.kn_base.specs.declared.kinds.Code.TheVariants as codes
use Rattle.kn_base.specs.Sizes.{frame_count}
use Rattle.kn_graph.specs.declared.entries.Entry.{Entry}
use Rattle.kn_graph.specs.Ground.{Ground}
use Rattle.kn_graph.specs.Graph.{Graph, empty_graph}
use Rattle.kn_graph.specs.Arguments.{IsInRange}
use Rattle.kn_graph.specs.Counts.{makes_object, births_among}
use Rattle.kn_graph.specs.Histories.{Leads}
use Rattle.kn_graph.specs.Logs.{log_of, calls_of}
use Rattle.kn_rule.specs.declared.positions.Position.{Position}
use Rattle.kn_rule.specs.declared.positions.Position.TheVariants.{Calling, Writing}
use Rattle.kn_rule.specs.Decoding.{phase_of, PacksPhase}
use Rattle.kn_rule.specs.Phases.{pauses, last_done}
use Rattle.kn_rule.specs.Steps.{callers}
use Rattle.kn_rule.specs.Allowed.{IsBuilt}

-- how many calls a caller has begun that are not answered, by its position and its target
abbrev pub under_way : Position → Option ℕ → ℕ
under_way (Calling call) target = 1
under_way _ None = 0
under_way _ (Some n) = 1

-- how many of these make an object
abbrev pub births_under_way : Position → ℕ
births_under_way (Calling call) = cond (makes_object call) 1 0
births_under_way _ = 0

-- the history is legal and leads to the graph; its entries of each caller are the log in that caller's view; a thread has
-- begun the calls in its log and at most one more, and no more calls and births than are given
pub record Told (z : Ground) (g : Graph) (history : List Entry) (log : ℕ → List Entry) (position : ℕ → Position) (target : ℕ → Option ℕ)
    (calls births : ℕ → ℕ) : Type 0 where
  pub leads : Leads z empty_graph history g
  pub logs : (c : ℕ) → c < callers z.sizes → log_of c history ≡ log c
  pub calls_are : (c : ℕ) → c < z.sizes.threads → length (calls_of (log c)) + under_way (position c) (target c) ≡ calls c
  pub births_are : (c : ℕ) → c < z.sizes.threads → births_among (calls_of (log c)) + births_under_way (position c) ≡ births c
  pub calls_fit : (c : ℕ) → c < z.sizes.threads → calls c ≤ slice_index z.sizes.calls c
  pub births_fit : (c : ℕ) → c < z.sizes.threads → births c ≤ slice_index z.sizes.births c

-- a call that is under way is built and in range, and a value is due for one of the locals
abbrev pub IsRightCall : Ground → Position → Type 0
IsRightCall z (Calling call) = IsBuilt call × IsInRange z call
IsRightCall z (Writing r w n) = r < LOCALS
IsRightCall z _ = Unit {0}

-- what is due is right, and the view of each caller has a place for each local and each frame
pub record Formed (z : Ground) (position : ℕ → Position) (width : ℕ → ℕ × ℕ) : Type 0 where
  pub call : (c : ℕ) → c < z.sizes.threads → IsRightCall z (position c)
  pub locals : (c : ℕ) → c < z.sizes.threads → (width c).0 ≡ LOCALS
  pub frames : (c : ℕ) → c < callers z.sizes → (width c).1 ≡ frame_count z.sizes

-- the phase word packs a phase, and is the one that the collector stored last; the last pause of the graph and its last epoch
-- done are those that the word tells; and but in Idle its epoch is at least 1
pub record Timed (paused done phase stored : ℕ) : Type 0 where
  pub packs : PacksPhase phase
  pub now : paused ≡ pauses (phase_of phase)
  pub last : done ≡ last_done (phase_of phase)
  pub by_collector : phase ≡ stored
  pub some : (phase_of phase).code ≢ codes.Idle → 1 ≤ (phase_of phase).epoch
