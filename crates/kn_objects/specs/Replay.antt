-- What the plain program keeps of a graph, and the graph that it stands for.
use Rattle.std.specs.Prelude.{ℕ, ◌+◌, nat_lt, cond, Option, Some, None, List, [], length, slice_get, slice_index, slice_index_or}
use Rattle.kn_objects.specs.declared.objects.KeptObject.{KeptObject}
use Rattle.kn_graph.specs.Ground.{Ground}
use Rattle.kn_graph.specs.Graph.{Graph, Object, newborn}

-- the sizes and layouts; the objects in order of birth, and the fields of all of them, as references and as numbers; the
-- locals of each thread, globals and names, by object number; the counts of back names; the numbers of the last pause
-- and of the last epoch done; and the epoch of each caller's last entry
pub record Replay : Type 0 where
  pub ground : Ground
  pub objects : List KeptObject
  pub points : List (Option ℕ)
  pub numbers : List ℕ
  pub locals : List (List (Option ℕ))
  pub globals : List (Option ℕ)
  pub stable : List (Option ℕ)
  pub weak : List (Option ℕ)
  pub back : List (Option ℕ)
  pub counts : List ℕ
  pub paused : ℕ
  pub done : ℕ
  pub entered : List ℕ

-- what field f of an object holds by one of the lists of fields; nothing past its last field
abbrev pub nth_field : {A : Type 0} → A → List A → KeptObject → ℕ → A
nth_field nothing fields o f = cond (nat_lt f o.length) (slice_index_or fields (o.first + f) nothing) nothing

-- the object that is kept so; an object that was not born is empty
abbrev pub object_of : List (Option ℕ) → List ℕ → Option KeptObject → Object
object_of points numbers None = newborn 0 0 0
object_of points numbers (Some o) = record {
  address = o.address;
  layout = o.layout;
  length = o.length;
  points = nth_field None points o;
  number = nth_field 0 numbers o;
  tie = o.tie;
  condemned = o.condemned;
  released = o.released;
  queued = o.queued;
  finalized = o.finalized;
}

-- the graph that is kept so
abbrev pub graph_of : Replay → Graph
graph_of r = record {
  born = length r.objects;
  object = λ n. object_of r.points r.numbers (slice_get r.objects n);
  local = λ thread q. slice_index_or (slice_index_or r.locals thread []) q None;
  global = λ i. slice_index_or r.globals i None;
  stable = λ h. slice_index_or r.stable h None;
  weak = λ w. slice_index_or r.weak w None;
  back = λ b. slice_index_or r.back b None;
  count = λ b. slice_index r.counts b;
  paused = r.paused;
  done = r.done;
  entered = λ by. slice_index r.entered by;
}
