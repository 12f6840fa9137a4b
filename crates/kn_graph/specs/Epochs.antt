-- What happens at one point of a history, and when an object was found unreachable.
use Rattle.std.specs.Prelude.{◌≡◌, ℕ, ◌<◌, List, [], ◌∷◌, ◌++◌}
use Rattle.kn_graph.specs.declared.entries.Event.TheVariants as events
use Rattle.kn_graph.specs.declared.entries.Entry.{Entry}
use Rattle.kn_graph.specs.Ground.{Ground}
use Rattle.kn_graph.specs.Graph.{Graph, Names}
use Rattle.kn_graph.specs.Reachable.{IsReachable}
use Rattle.kn_graph.specs.Histories.{Leads}

-- the history, which begins at the graph `first`, has this entry behind the entries `before`, which lead to the graph g
pub record Happens (z : Ground) (first : Graph) (history before : List Entry) (entry : Entry) (g : Graph) : Type 0 where
  pub after : List Entry
  pub whole : history ≡ before ++ entry ∷ after
  pub leads : Leads z first before g

-- the history has a pause behind the birth of object n, and n was unreachable there
pub record WasUnreachable (z : Ground) (first : Graph) (history : List Entry) (n : ℕ) : Type 0 where
  pub before : List Entry
  pub pause : Entry
  pub epoch : ℕ
  pub is_pause : pause.what ≡ events.Pause epoch
  pub graph : Graph
  pub happens : Happens z first history before pause graph
  pub born : n < graph.born
  pub unreachable : ¬ IsReachable graph n

-- the entry finalizes object n of the graph
pub record Finalizes (entry : Entry) (g : Graph) (n : ℕ) : Type 0 where
  pub address : ℕ
  pub cleaner : ℕ
  pub number : ℕ
  pub is_finalized : entry.what ≡ events.Finalized address cleaner number
  pub named : Names g address n

-- the epoch of the last entry of a log, and e where it has none
abbrev pub last_epoch : ℕ → List Entry → ℕ
last_epoch e [] = e
last_epoch e (entry ∷ log) = last_epoch entry.epoch log
