use Rattle.std.proofs.Common.{◌<◌, ◌≤◌, ℕ}
use Rattle.kn_schedule.specs.Asks.{TakesTurn, standing_of}
use Rattle.kn_schedule.proofs.asking.Asking.first_ask.Given as goal

abbrev pub invariant-loop-ask : goal.invariant-loop-ask
invariant-loop-ask l = (a : ℕ) → l.self.made ≤ a → a < l.ask → ¬ TakesTurn (standing_of l.ended l.answered l.code) l.self a
