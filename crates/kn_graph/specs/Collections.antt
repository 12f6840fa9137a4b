-- What a pause, a release, a queueing, a finalization and the end of an epoch make of a graph.
use Rattle.std.specs.Prelude.{◌≡◌, ◌≢◌, ℕ, ◌+◌, ◌<◌, ◌≤◌, ◌⊎◌, ◌↔◌, Bool, true, false, Option, Some, None}
use Rattle.kn_graph.specs.Graph.{Graph, Object, Names, with_object}
use Rattle.kn_graph.specs.Reachable.{IsReachable}

-- the graph with other condemned flags
abbrev pub with_condemned : Graph → (ℕ → Bool) → Graph
with_condemned g flag = record g { object = λ n. record (g.object n) { condemned = flag n } }

-- exactly what is not reachable becomes condemned, and what was condemned stays so
pub record Condemns (g : Graph) (flag : ℕ → Bool) : Type 0 where
  pub born : (n : ℕ) → n < g.born → (flag n ≡ false) ↔ (IsReachable g n × ((g.object n).condemned ≡ false))
  pub unborn : (n : ℕ) → g.born ≤ n → flag n ≡ (g.object n).condemned

-- the pause of epoch e: it is the next one, and the epoch of the last one is done
pub record PauseFollows (e : ℕ) (g g' : Graph) : Type 0 where
  pub next : e ≡ g.paused + 1
  pub last_done : g.done ≡ g.paused
  pub flag : ℕ → Bool
  pub condemns : Condemns g flag
  pub after : g' ≡ record (with_condemned g flag) { paused = e }

-- address a names a condemned object that has no tie or is finalized, and it is released
pub record ReleaseFollows (a : ℕ) (g g' : Graph) : Type 0 where
  pub object : ℕ
  pub named : Names g a object
  pub condemned : (g.object object).condemned ≡ true
  pub loose : ((g.object object).tie ≡ None) ⊎ ((g.object object).finalized ≢ None)
  pub after : g' ≡ with_object g object (record (g.object object) { released = true })

-- address a names a condemned object with a tie that is not queued, and it is queued
pub record QueueFollows (a : ℕ) (g g' : Graph) : Type 0 where
  pub object : ℕ
  pub named : Names g a object
  pub condemned : (g.object object).condemned ≡ true
  pub tied : (g.object object).tie ≢ None
  pub new : (g.object object).queued ≡ false
  pub after : g' ≡ with_object g object (record (g.object object) { queued = true })

-- address a names a queued object that is not finalized and has this tie, and it is finalized
pub record FinalizeFollows (a cleaner number : ℕ) (g g' : Graph) : Type 0 where
  pub object : ℕ
  pub named : Names g a object
  pub queued : (g.object object).queued ≡ true
  pub new : (g.object object).finalized ≡ None
  pub tie : (g.object object).tie ≡ Some (cleaner, number)
  pub after : g' ≡ with_object g object (record (g.object object) { finalized = Some g.paused })

-- a finalization came before a pause
abbrev pub IsBefore : Option ℕ → ℕ → Type 0
IsBefore None e = ⊥
IsBefore (Some pauses) e = pauses < e

-- what the end of epoch e asks of an object: condemned and without a tie it is released, condemned and with one it is
-- queued, and finalized before the pause of e it is released
pub record IsSettled (e : ℕ) (o : Object) : Type 0 where
  pub plain : o.condemned ≡ true → o.tie ≡ None → o.released ≡ true
  pub tied : o.condemned ≡ true → o.tie ≢ None → o.queued ≡ true
  pub finalized : IsBefore o.finalized e → o.released ≡ true

-- epoch e is done: its pause is the last one, its end has not come, and each object is settled
pub record DoneFollows (e : ℕ) (g g' : Graph) : Type 0 where
  pub last : e ≡ g.paused
  pub first : g.done < e
  pub settled : (n : ℕ) → n < g.born → IsSettled e (g.object n)
  pub after : g' ≡ record g { done = e }
