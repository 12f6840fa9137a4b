-- The calls of the core, and what of a history the core decides.
use Rattle.std.specs.Prelude.{◌≡◌, ℕ, ◌↔◌, Bool, true, false, ◌||◌, Option, Some, None, List}
use Rattle.std.specs.Option.{IfSome}
use Rattle.kn_graph.specs.declared.calls.Call.{Call}
use Rattle.kn_graph.specs.declared.calls.Call.TheVariants as made
use Rattle.kn_graph.specs.declared.entries.Event.{Event}
use Rattle.kn_graph.specs.declared.entries.Event.TheVariants as events
use Rattle.kn_graph.specs.declared.entries.Entry.{Entry}
use Rattle.kn_graph.specs.Ground.{Ground}
use Rattle.kn_graph.specs.Graph.{Graph, empty_graph, length_for, with_local, with_global}
use Rattle.kn_graph.specs.Counts.{makes_object}
use Rattle.kn_graph.specs.Histories.{IsLegal}
use Rattle.kn_graph.specs.Epochs.{Happens}
use Rattle.kn_replay.specs.Seen.{is_full}
use Rattle.kn_cms_rule.specs.Words.{HasNoRoom}

-- the calls that are answered in one step and make no object
abbrev pub is_whole : Call → Bool
is_whole (made.Copy r s) = true
is_whole (made.Clear r) = true
is_whole (made.Same r s) = true
is_whole (made.Get r s f) = true
is_whole (made.GlobalSet i r) = true
is_whole (made.GlobalGet r i) = true
is_whole _ = false

-- the call that stores a reference
abbrev pub is_set : Call → Bool
is_set (made.Set s f r) = true
is_set _ = false

-- the nine calls of the core
abbrev pub is_core_call : Call → Bool
is_core_call call = makes_object call || (is_whole call || is_set call)

-- what a birth asks for: the local that will hold the object, the layout, and the number of fields
pub record Birth : Type 0 where
  pub local : ℕ
  pub layout : ℕ
  pub fields : ℕ

-- what a call asks for, where it is a birth
abbrev pub birth_of : Ground → Call → Option Birth
birth_of z (made.New r layout) = Some (record { local = r; layout = layout; fields = length_for z layout 0 })
birth_of z (made.NewArray r layout n) = Some (record { local = r; layout = layout; fields = length_for z layout n })
birth_of z _ = None

-- where a birth is answered, it is `full` exactly where there is no room
abbrev pub IsFullExactly : Ground → Graph → Event → Type 0
IsFullExactly z g (events.Call call reply address) = IfSome (birth_of z call) (λ (b : Birth). (is_full reply ≡ true) ↔ HasNoRoom z g b.fields)
IsFullExactly z g _ = Unit {0}

-- a birth in the history is `full` exactly where the words of all births before it and its own pass the words of the heap
abbrev pub FullExactly : Ground → List Entry → Type 0
FullExactly z history = (before : List Entry) (entry : Entry) (g : Graph) → Happens z empty_graph history before entry g →
    IsFullExactly z g entry.what

-- a history of the core
pub record IsCoreHistory (z : Ground) (history : List Entry) : Type 0 where
  pub legal : IsLegal z history
  pub full : FullExactly z history

-- a thread changes nothing, or what one of its locals or one global holds
pub data ChangesHeld (thread : ℕ) (g : Graph) : Graph → Type 0 where
  nothing : ChangesHeld thread g g
  of_local : (r : ℕ) (x : Option ℕ) → ChangesHeld thread g (with_local g thread r x)
  of_global : (i : ℕ) (x : Option ℕ) → ChangesHeld thread g (with_global g i x)
