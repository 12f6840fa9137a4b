-- What a step makes of a view and of the history.
use Rattle.std.specs.Prelude.{◌≡◌, ℕ, ◌*◌, ◌≤◌, List, length, Option, slice_get, slice_set}
use Rattle.kn_base.specs.declared.limits.TheConstants.{MOST_CALLS}
use Rattle.kn_graph.specs.declared.entries.Entry.{Entry}
use Rattle.kn_graph.specs.Ground.{Ground}
use Rattle.kn_rule.specs.Views.{View, Open, flattened}
use Rattle.kn_rule.specs.Steps.{Outcome, more, quietly}
use Rattle.kn_view.specs.Parts.{Part, view_with}

-- there are no more entries than all calls of a run and as many pauses, so that there is room for one more
abbrev pub IsShort : List Entry → Type 0
IsShort history = length history ≤ 2 * MOST_CALLS

-- a view, and the history
pub record Told : Type 0 where
  pub view : View
  pub history : List Entry

-- the view of an outcome, and a history with what the outcome says behind it
abbrev pub told : List Entry → Outcome → Told
told history o = record { view = o.view; history = more history o.says }

-- a step makes one part of another as an outcome of the view says that says nothing, whatever its caller owns and its log are
abbrev pub Makes : Ground → Part → Part → (View → Outcome) → Type 0
Makes z old new outcome = (owned : List (Option Open)) (log : List Entry) →
    quietly (view_with z new owned log) ≡ outcome (view_with z old owned log)

-- a step makes one part of another, and one history of another, as an outcome of the view says: the history behind it is the one
-- before it with exactly what the outcome says
abbrev pub Says : Ground → Part → Part → List Entry → List Entry → (View → Outcome) → Type 0
Says z old new before after outcome = (owned : List (Option Open)) (log : List Entry) →
    record { view = view_with z new owned log; history = after } ≡ told before (outcome (view_with z old owned log))

-- the same of a step that also changes what its caller owns of frame p, from one to another
abbrev pub SaysOwning : Ground → Part → Part → List Entry → List Entry → ℕ → Option Open → Option Open → (View → Outcome) → Type 0
SaysOwning z old new before after p owns owns' outcome = (owned : List (Option Open)) (log : List Entry) →
    flattened (slice_get owned p) ≡ owns →
    record { view = view_with z new (slice_set owned p owns') log; history = after } ≡ told before (outcome (view_with z old owned log))
