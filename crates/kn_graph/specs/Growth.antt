-- How a graph goes on: what was born stays, no flag is taken back, and what a change makes of the parts of a graph.
use Rattle.std.specs.Prelude.{◌≡◌, ℕ, ◌<◌, ◌≤◌, true, Option, Some}
use Rattle.kn_base.specs.Functions.{upd}
use Rattle.kn_graph.specs.Graph.{Graph, Object, Shape, shape_of, shapes, pointers, numbers}
use Rattle.kn_graph.specs.Sound.{Finalization, finalization_of, finalizations}

-- what an object keeps for ever: its cell, each flag that is set, its tie, and its finalization
pub record Endures (o o' : Object) : Type 0 where
  pub address : o'.address ≡ o.address
  pub layout : o'.layout ≡ o.layout
  pub length : o'.length ≡ o.length
  pub condemned : o.condemned ≡ true → o'.condemned ≡ true
  pub released : o.released ≡ true → o'.released ≡ true
  pub queued : o.queued ≡ true → o'.queued ≡ true
  pub tie : (t : ℕ × ℕ) → o.tie ≡ Some t → o'.tie ≡ Some t
  pub finalized : (pauses : ℕ) → o.finalized ≡ Some pauses → o'.finalized ≡ Some pauses

-- the second graph comes after the first one
pub record Succeeds (g g' : Graph) : Type 0 where
  pub born : g.born ≤ g'.born
  pub objects : (n : ℕ) → n < g.born → Endures (g.object n) (g'.object n)
  pub paused : g.paused ≤ g'.paused
  pub done : g.done ≤ g'.done

-- no object is condemned in the second graph that was not in the first one
abbrev pub CondemnsNone : Graph → Graph → Type 0
CondemnsNone g g' = (n : ℕ) → n < g'.born → (g'.object n).condemned ≡ true → (n < g.born) × ((g.object n).condemned ≡ true)

-- object n of the second graph is o, and each other object is that of the first graph, part by part
pub record IsWritten (g g' : Graph) (n : ℕ) (o : Object) : Type 0 where
  pub shapes_are : ◌≡◌ {A = ℕ → Shape} (shapes g') (upd (shapes g) n (shape_of o))
  pub pointers_are : ◌≡◌ {A = ℕ → ℕ → Option ℕ} (pointers g') (upd (pointers g) n o.points)
  pub numbers_are : ◌≡◌ {A = ℕ → ℕ → ℕ} (numbers g') (upd (numbers g) n o.number)
  pub finalizations_are : ◌≡◌ {A = ℕ → Finalization} (finalizations g') (upd (finalizations g) n (finalization_of o))

-- a part that o has as object n has it is in the second graph as in the first
pub record KeepsParts (g g' : Graph) (n : ℕ) (o : Object) : Type 0 where
  pub shapes_stay : shape_of o ≡ shapes g n → ◌≡◌ {A = ℕ → Shape} (shapes g') (shapes g)
  pub pointers_stay : ◌≡◌ {A = ℕ → Option ℕ} o.points (pointers g n) → ◌≡◌ {A = ℕ → ℕ → Option ℕ} (pointers g') (pointers g)
  pub numbers_stay : ◌≡◌ {A = ℕ → ℕ} o.number (numbers g n) → ◌≡◌ {A = ℕ → ℕ → ℕ} (numbers g') (numbers g)
  pub finalizations_stay : finalization_of o ≡ finalizations g n → ◌≡◌ {A = ℕ → Finalization} (finalizations g') (finalizations g)
