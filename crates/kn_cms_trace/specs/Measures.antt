-- How many turns a run of a core has left at most.
use Rattle.std.specs.Prelude.{◌≡◌, ℕ, ◌+◌, ◌-◌, ◌*◌, ◌<◌, nat_le, Bool, true, false, List, [], ◌∷◌, length, slice_index_or}
use Rattle.std.specs.List.{AllByRecursion}
use Rattle.kn_graph.specs.declared.calls.Call.{Call}
use Rattle.kn_graph.specs.Ground.{Ground}
use Rattle.kn_lines.specs.declared.orders.OrderWord.{OrderWord}
use Rattle.kn_lines.specs.Ranges.{IsOrderWord}
use Rattle.kn_cms_rule.specs.Turns.{HasEnded}
use Rattle.kn_cms_rule.specs.Words.{one_framed}
use Rattle.kn_cms_bound.specs.TurnLaws.{Holds}
use Rattle.kn_cms_bound.specs.Work.{steps_left, sum_below}
use Rattle.kn_schedule.specs.declared.asking.Asking.{Asking}
use Rattle.kn_schedule.specs.Asks.{AreForActors, asking_of}
use Rattle.kn_schedule.specs.Schedules.{ComesTo, Left}
use Rattle.kn_cms_trace.specs.CoreRuns.{CoreRun, actor_at}

-- how many asks are left of a word that was begun, and how many words that were not ask
abbrev pub asks_of : Asking → ℕ
asks_of asking = asking.times - asking.made

abbrev pub asks_of_words : ℕ → List OrderWord → ℕ
asks_of_words threads [] = 0
asks_of_words threads (word ∷ words) = (asking_of threads word).times + asks_of_words threads words

-- how many asks are left of the order
abbrev pub asks_left : ℕ → Left → ℕ
asks_left threads left = asks_of left.asking + asks_of_words threads left.words

-- what may be left of an order: words in their ranges, and asks for actors that are there
pub record IsOrderLeft (threads : ℕ) (left : Left) : Type 0 where
  pub words : AllByRecursion (IsOrderWord threads) left.words
  pub actors : AreForActors (threads + 1) left.asking

-- what a turn makes of what is left: a word asked for it, and the round stays where it is; or no ask is left, and the round came
-- to its actor and goes on behind it
pub data OrderFalls (threads : ℕ) (ended : ℕ → Bool) (left : Left) (actor : ℕ) (left' : Left) : Type 0 where
  by_word : asks_left threads left' < asks_left threads left → left'.next ≡ left.next → OrderFalls threads ended left actor left'
  by_round : asks_left threads left' ≡ 0 → ComesTo (threads + 1) ended left.next actor → left'.next ≡ actor + 1 →
      OrderFalls threads ended left actor left'

-- an actor that has not ended counts
abbrev pub actor_left : Bool → ℕ
actor_left true = 0
actor_left false = 1

-- how many actors have not ended
abbrev pub actors_left : ℕ → List Bool → ℕ
actors_left actors ended = sum_below (λ i. actor_left (slice_index_or ended i false)) actors

-- how many turns are left that make a step or end an actor
abbrev pub work_left : Ground → CoreRun → ℕ
work_left z r = steps_left (one_framed z) r.state + actors_left (z.sizes.threads + 1) r.ended

-- one turn may be idle before the round begins again
abbrev pub wait_left : Bool → ℕ
wait_left true = 1
wait_left false = 0

abbrev pub waits_left : ℕ → ℕ → ℕ
waits_left threads place = wait_left (nat_le place threads)

-- how many turns are left: those that the order words ask for, and behind them rounds, in which of two turns one at least is
-- not idle
abbrev pub turns_left : Ground → CoreRun → ℕ
turns_left z r =
    asks_left z.sizes.threads r.left + (2 * work_left z r + waits_left z.sizes.threads r.left.next)

-- what holds between any two turns of a run: the rule of the core, an actor that is flagged has ended, and what may be left of
-- an order is left
pub record RunHolds (z : Ground) (calls : ℕ → List Call) (r : CoreRun) : Type 0 where
  pub holds : Holds (one_framed z) calls r.state
  pub long : length r.ended ≡ z.sizes.threads + 1
  pub flagged : (i : ℕ) → i < z.sizes.threads + 1 → slice_index_or r.ended i false ≡ true → HasEnded r.state (actor_at z.sizes.threads i)
  pub order : IsOrderLeft z.sizes.threads r.left
