use Rattle.std.proofs.Common.{ℕ, List, drop}
use Rattle.kn_lines.specs.declared.orders.OrderWord.{OrderWord}
use Rattle.kn_schedule.specs.declared.asking.Asking.{Asking}
use Rattle.kn_schedule.specs.Asks.{standing_of}
use Rattle.kn_schedule.specs.Schedules.{AllPassed, FromWords}
use Rattle.kn_schedule.proofs.schedule.first_of_words.Given as goal

abbrev pub invariant-loop-at : goal.invariant-loop-at
invariant-loop-at l =
    ((actor : ℕ) (asking' : Asking) (words' : List OrderWord) →
    FromWords l.threads (standing_of l.ended l.answered l.code) (drop l.at l.words) actor asking' words' →
    FromWords l.threads (standing_of l.ended l.answered l.code) l.words actor asking' words')
    × (AllPassed l.threads (standing_of l.ended l.answered l.code) (drop l.at l.words) →
    AllPassed l.threads (standing_of l.ended l.answered l.code) l.words)
