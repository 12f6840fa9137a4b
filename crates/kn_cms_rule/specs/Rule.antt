-- The rule of the core: what holds between any two steps.
use Rattle.std.specs.Prelude.{◌≡◌, ℕ, ◌<◌, ◌↔◌, Bool, true, false, Option, Some, None, List, ◌++◌}
use Rattle.std.specs.List.{AllByRecursion}
use Rattle.kn_graph.specs.declared.calls.Call.{Call}
use Rattle.kn_graph.specs.declared.entries.Entry.{Entry}
use Rattle.kn_graph.specs.Ground.{Ground}
use Rattle.kn_graph.specs.Graph.{Graph, empty_graph}
use Rattle.kn_graph.specs.Arguments.{IsInRange}
use Rattle.kn_graph.specs.Histories.{Leads}
use Rattle.kn_graph.specs.Logs.{log_of, calls_of}
use Rattle.kn_graph.specs.Growth.{Succeeds}
use Rattle.kn_graph.specs.Epochs.{Happens}
use Rattle.kn_cms_rule.specs.declared.stages.Colour.{Colour}
use Rattle.kn_cms_rule.specs.declared.stages.Colour.TheVariants.{White, Gray}
use Rattle.kn_cms_rule.specs.declared.stages.Doing.{Doing}
use Rattle.kn_cms_rule.specs.declared.stages.Doing.TheVariants.{Free, Loaded, Shaded}
use Rattle.kn_cms_rule.specs.declared.stages.Stage.{Stage}
use Rattle.kn_cms_rule.specs.declared.stages.Stage.TheVariants.{Waiting, Marking, Looking, Finished}
use Rattle.kn_cms_rule.specs.Words.{AreStacked}
use Rattle.kn_cms_rule.specs.Calls.{FullExactly, is_core_call}
use Rattle.kn_cms_rule.specs.State.{State, IsRefField}
use Rattle.kn_cms_rule.specs.Steps.{Aims, pause_entry}
use Rattle.kn_cms_rule.specs.MarkRule.{MarkRule, IsKept}

-- no stable or back name holds an object
pub record HoldsNoNames (stable back : ℕ → Option ℕ) : Type 0 where
  pub stables : (h : ℕ) → stable h ≡ None
  pub backs : (b : ℕ) → back b ≡ None

-- the calls of a thread are those in its log and those that it has left
abbrev pub CallsAreMade : ℕ → (ℕ → List Call) → List Entry → (ℕ → List Call) → Type 0
CallsAreMade threads calls history left = (i : ℕ) → i < threads → calls_of (log_of i history) ++ left i ≡ calls i

-- a call may be made in the core: it is one of the nine, and its arguments are in their ranges
pub record MayBeMade (z : Ground) (call : Call) : Type 0 where
  pub in_core : is_core_call call ≡ true
  pub in_range : IsInRange z call

abbrev pub AllMayBeMade : Ground → (ℕ → List Call) → Type 0
AllMayBeMade z left = (i : ℕ) → i < z.sizes.threads → AllByRecursion (MayBeMade z) (left i)

-- a thread in the middle of a call is in that of the first call that it has left, a `set` of that field of that object
abbrev pub IsInMiddle : Ground → Graph → ℕ → List Call → Doing → Type 0
IsInMiddle z g thread left Free = Unit {0}
IsInMiddle z g thread left (Loaded n f v) = Aims z g thread left n f
IsInMiddle z g thread left (Shaded n f) = Aims z g thread left n f

abbrev pub AreInMiddle : Ground → Graph → (ℕ → List Call) → (ℕ → Doing) → Type 0
AreInMiddle z g left doing = (i : ℕ) → i < z.sizes.threads → IsInMiddle z g i (left i) (doing i)

-- before the snapshot there was no pause, no object has a colour, and no field was looked at
pub record IsUnmarked (g : Graph) (snapshot : Option Graph) (colour : ℕ → Colour) (looked : ℕ → ℕ → Bool) : Type 0 where
  pub no_snapshot : snapshot ≡ None
  pub paused : g.paused ≡ 0
  pub done : g.done ≡ 0
  pub alive : (n : ℕ) → n < g.born → (g.object n).condemned ≡ false
  pub white : (n : ℕ) → colour n ≡ White
  pub unread : (n f : ℕ) → looked n f ≡ false

-- the pause of the history came at this graph, in which no name holds an object, the graph since comes after it, and exactly
-- those objects are condemned that were neither reachable there nor born after it
pub record IsSince (z : Ground) (g : Graph) (history : List Entry) (at : Graph) : Type 0 where
  pub before : List Entry
  pub paused_at : Happens z empty_graph history before (pause_entry z) at
  pub succeeds : Succeeds at g
  pub nameless : HoldsNoNames at.stable at.back
  pub flags : (n : ℕ) → n < g.born → ((g.object n).condemned ≡ false) ↔ IsKept at g.born n

-- the object that the collector has begun is gray, and its reference fields before the next one were looked at
abbrev pub IsBegun : Ground → Graph → (ℕ → Colour) → (ℕ → ℕ → Bool) → Stage → Type 0
IsBegun z at colour looked (Looking n from) = (colour n ≡ Gray) × ((f : ℕ) → f < from → IsRefField z at n f → looked n f ≡ true)
IsBegun z at colour looked _ = Unit {0}

-- in marking the rule of marking holds, since the snapshot
pub record IsInMarking (z : Ground) (s : State) : Type 0 where
  pub at : Graph
  pub is_snapshot : s.snapshot ≡ Some at
  pub since : IsSince z s.graph s.history at
  pub rule : MarkRule z at s.graph s.colour s.looked s.doing
  pub begun : IsBegun z at s.colour s.looked s.stage

-- after the last step of marking an object has no colour exactly where it is condemned
pub record IsMarked (z : Ground) (s : State) : Type 0 where
  pub at : Graph
  pub is_snapshot : s.snapshot ≡ Some at
  pub since : IsSince z s.graph s.history at
  pub settled : (n : ℕ) → n < s.graph.born → (s.colour n ≡ White) ↔ ((s.graph.object n).condemned ≡ true)

abbrev pub IsAtStage : Ground → State → Stage → Type 0
IsAtStage z s Waiting = IsUnmarked s.graph s.snapshot s.colour s.looked
IsAtStage z s Marking = IsInMarking z s
IsAtStage z s (Looking n f) = IsInMarking z s
IsAtStage z s Finished = IsMarked z s

-- the rule of the core, whose threads have these calls
pub record Rule (z : Ground) (calls : ℕ → List Call) (s : State) : Type 0 where
  pub leads : Leads z empty_graph s.history s.graph
  pub full : FullExactly z s.history
  pub stacked : AreStacked s.graph
  pub nameless : HoldsNoNames s.graph.stable s.graph.back
  pub made : CallsAreMade z.sizes.threads calls s.history s.left
  pub may_be_made : AllMayBeMade z s.left
  pub in_middle : AreInMiddle z s.graph s.left s.doing
  pub at_stage : IsAtStage z s s.stage
