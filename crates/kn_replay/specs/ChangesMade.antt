-- What a call or an event changes, as data, and what a change needs.
use Rattle.std.specs.Prelude.{◌≡◌, ℕ, ◌<◌, ◌≤◌, Bool, true, false, List, Some}
use Rattle.kn_replay.specs.declared.changes.Change.{Change}
use Rattle.kn_replay.specs.declared.changes.Change.TheVariants.{Nothing, Local, Global, Stable, Weak, Back, Count, Points, Number, Tie, Birth, Release}
use Rattle.kn_replay.specs.declared.changes.Change.TheVariants.{Queue, Finalize, Finish}
use Rattle.kn_replay.specs.declared.changes.Plan.{Plan}
use Rattle.kn_graph.specs.Ground.{Ground}
use Rattle.kn_graph.specs.Graph.{Graph, Lives, shapes, newborn, cell_at, with_local, with_global, with_stable, with_weak, with_back, with_count}
use Rattle.kn_graph.specs.Graph.{with_points, with_number, with_tie, with_birth, with_object, IsLegalBirth}
use Rattle.kn_graph.specs.Answers.{Answer, answers, greatest_count}
use Rattle.kn_graph.specs.Sound.{WasBorn}
use Rattle.kn_objects.specs.Replay.{Replay, graph_of}
use Rattle.kn_objects.specs.Kept.{KeptObjects}
use Rattle.kn_objects.specs.Holders.{KeptHolders}
use Rattle.kn_replay.specs.Held.{FitTogether, replay_of}

-- the graph after a change that a thread makes
abbrev pub changed : ℕ → Change → Graph → Graph
changed thread Nothing g = g
changed thread (Local r value) g = with_local g thread r value
changed thread (Global i value) g = with_global g i value
changed thread (Stable h value) g = with_stable g h value
changed thread (Weak w n) g = with_weak g w n
changed thread (Back b n) g = with_back g b n
changed thread (Count b n) g = with_count g b n
changed thread (Points n f value) g = with_points g n f value
changed thread (Number n f value) g = with_number g n f value
changed thread (Tie n cleaner number) g = with_tie g n cleaner number
changed thread (Birth r new) g = with_birth g thread r (newborn new.address new.layout new.length)
changed thread (Release n) g = with_object g n (record (g.object n) { released = true })
changed thread (Queue n) g = with_object g n (record (g.object n) { queued = true })
changed thread (Finalize n) g = with_object g n (record (g.object n) { finalized = Some g.paused })
changed thread (Finish e) g = record g { done = e }

-- what a plan answers
abbrev pub planned : ℕ → Plan → Graph → Answer
planned thread plan g = answers plan.reply (changed thread plan.change g)

-- the place of a change is there, each object that it names was born, and a count is at most the greatest one
abbrev pub IsFit : Ground → ℕ → Change → Graph → Type 0
IsFit z thread Nothing g = Unit {0}
IsFit z thread (Local r value) g = (thread < z.sizes.threads) × (r ≤ 15) × WasBorn g.born value
IsFit z thread (Global i value) g = (i < z.sizes.globals) × WasBorn g.born value
IsFit z thread (Stable h value) g = (h < z.sizes.stable) × WasBorn g.born value
IsFit z thread (Weak w n) g = (w < z.sizes.weak) × (n < g.born)
IsFit z thread (Back b n) g = (b < z.sizes.back) × (n < g.born)
IsFit z thread (Count b n) g = (b < z.sizes.back) × (n ≤ greatest_count)
IsFit z thread (Points n f value) g = (f < (g.object n).length) × WasBorn g.born value
IsFit z thread (Number n f value) g = f < (g.object n).length
IsFit z thread (Tie n cleaner number) g = n < g.born
IsFit z thread (Birth r new) g = (thread < z.sizes.threads) × (r ≤ 15) × IsLegalBirth z g (cell_at new.address new.length)
IsFit z thread (Release n) g = Lives g.born (shapes g) n
IsFit z thread (Queue n) g = n < g.born
IsFit z thread (Finalize n) g = n < g.born
IsFit z thread (Finish e) g = Unit {0}

-- a change is a birth
abbrev pub is_birth : Change → Bool
is_birth (Birth r new) = true
is_birth _ = false

-- what is kept stands for the graph after a change, and its parts fit together
pub record Stands (z : Ground) (thread : ℕ) (change : Change) (g : Graph) (o : KeptObjects) (h : KeptHolders) (paused done : ℕ) (entered : List ℕ)
    (places : ℕ) : Type 0 where
  pub after : graph_of (replay_of z o h paused done entered) ≡ changed thread change g
  pub together : FitTogether z o h (graph_of (replay_of z o h paused done entered)) entered places

-- a change was made, over the same ground
pub record IsChanged (thread : ℕ) (change : Change) (r r' : Replay) : Type 0 where
  pub after : graph_of r' ≡ changed thread change (graph_of r)
  pub ground : r'.ground ≡ r.ground
