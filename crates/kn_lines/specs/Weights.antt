-- How many turns the words of the order take at most.
use Rattle.std.specs.Prelude.{ℕ, ◌*◌}
use Rattle.kn_lines.specs.declared.orders.Actor.TheVariants.{Round}
use Rattle.kn_lines.specs.declared.orders.Until.{Until}
use Rattle.kn_lines.specs.declared.orders.Until.TheVariants.{Turns, Calls, Code}
use Rattle.kn_lines.specs.declared.orders.OrderWord.{OrderWord}
use Rattle.kn_lines.specs.declared.orders.OrderWord.TheVariants.{Run, Uninstall}

-- the most turns of one actor: as many as the word says, or 100,000 where it says until when
abbrev pub most_turns : Until → ℕ
most_turns (Turns n) = n
most_turns (Calls n) = 100000
most_turns (Code p) = 100000

-- the weight of an order word, where there are so many actors: the most turns of one actor, for a round those of each, and
-- none for the uninstalling of a cleaner
abbrev pub order_weight : ℕ → OrderWord → ℕ
order_weight actors (Run Round until) = most_turns until * actors
order_weight actors (Run actor until) = most_turns until
order_weight actors (Uninstall cleaner) = 0
