-- What the laws of this crate say.
use Rattle.std.specs.Prelude.{◌≡◌, ℕ, ◌<◌, Bool}
use Rattle.kn_graph.specs.Ground.{Ground, IsGoodGround}
use Rattle.kn_rule.specs.Rule.{fresh}
use Rattle.kn_steps.specs.Made.{LieAs, Stand}
use Rattle.kn_alloc.specs.Keeps.{Keeps, new_keeps}
use Rattle.kn_alloc.specs.Agree.{Agrees, IsIdle}

-- an allocator that has made no turn agrees with the view of a thread that has made no step
abbrev pub Opens : Type 0
Opens = (z : Ground) (c : ℕ) (here : ℕ → Bool) → IsGoodGround z → c < z.sizes.threads →
    Agrees (new_keeps z.sizes c) (record { heap = z; by = c; view = fresh z }) here

-- an agreement stays where the pages of the frames that the view owns lie as they did
abbrev pub StaysAsPagesMove : Type 0
StaysAsPagesMove = (m : Keeps) (a : Stand) (here here' : ℕ → Bool) → Agrees m a here → LieAs a.view here here' → Agrees m a here'

-- the agreement of an allocator without a request stays where the view keeps what it owns, takes and sweeps
abbrev pub StaysWhileIdle : Type 0
StaysWhileIdle = (m : Keeps) (a b : Stand) (here here' : ℕ → Bool) → IsIdle m.stage → Agrees m a here → b.heap ≡ a.heap → b.by ≡ a.by →
    b.view.owned ≡ a.view.owned → b.view.taken ≡ a.view.taken → b.view.sweep ≡ a.view.sweep → LieAs b.view here here' → Agrees m b here'
