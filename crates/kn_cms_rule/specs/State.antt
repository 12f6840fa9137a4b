-- The state of the core, as functions: a graph, the colours of its objects, what the threads and the collector are at.
use Rattle.std.specs.Prelude.{◌≡◌, ℕ, Bool, true, false, Option, Some, None, List, []}
use Rattle.kn_layout.specs.declared.layouts.FieldKind.TheVariants.{Ref as of_ref}
use Rattle.kn_base.specs.Functions.{upd}
use Rattle.kn_graph.specs.declared.calls.Call.{Call}
use Rattle.kn_graph.specs.declared.entries.Entry.{Entry}
use Rattle.kn_graph.specs.Ground.{Ground}
use Rattle.kn_graph.specs.Graph.{Graph, empty_graph, shapes, field_kind}
use Rattle.kn_cms_rule.specs.declared.stages.Colour.{Colour}
use Rattle.kn_cms_rule.specs.declared.stages.Colour.TheVariants.{White, Gray, Black}
use Rattle.kn_cms_rule.specs.declared.stages.Doing.{Doing}
use Rattle.kn_cms_rule.specs.declared.stages.Doing.TheVariants.{Free}
use Rattle.kn_cms_rule.specs.declared.stages.Stage.{Stage}
use Rattle.kn_cms_rule.specs.declared.stages.Stage.TheVariants.{Waiting, Marking, Looking, Finished}

-- the graph, the colour of each object, which fields of it the collector has looked at, the graph at the snapshot, what
-- each thread is in the middle of, what the collector is at, the calls that each thread has left, and the history
pub record State : Type 0 where
  pub graph : Graph
  pub colour : ℕ → Colour
  pub looked : ℕ → ℕ → Bool
  pub snapshot : Option Graph
  pub doing : ℕ → Doing
  pub stage : Stage
  pub left : ℕ → List Call
  pub history : List Entry

-- the state before all steps, where each thread has these calls
abbrev pub opening : (ℕ → List Call) → State
opening calls = record {
  graph = empty_graph;
  colour = λ _. White;
  looked = λ _ _. false;
  snapshot = None;
  doing = λ _. Free;
  stage = Waiting;
  left = calls;
  history = [];
}

-- an object with this colour has one
abbrev pub is_coloured : Colour → Bool
is_coloured White = false
is_coloured Gray = true
is_coloured Black = true

-- the collector has taken the snapshot and has not marked all
abbrev pub is_marking : Stage → Bool
is_marking Waiting = false
is_marking Marking = true
is_marking (Looking n f) = true
is_marking Finished = false

-- the colour of an object that becomes gray if it has none
abbrev pub shaded : Colour → Colour
shaded White = Gray
shaded Gray = Gray
shaded Black = Black

-- the colours after a value becomes gray, if it is an object without a colour
abbrev pub shade : (ℕ → Colour) → Option ℕ → ℕ → Colour
shade colour None = colour
shade colour (Some n) = upd colour n (shaded (colour n))

-- the colour of an object that is born: none before the snapshot, black after it
abbrev pub birth_colour : Stage → Colour
birth_colour Waiting = White
birth_colour _ = Black

-- field f of object n holds references
abbrev pub IsRefField : Ground → Graph → ℕ → ℕ → Type 0
IsRefField z g n f = field_kind z (shapes g n) f ≡ Some of_ref
