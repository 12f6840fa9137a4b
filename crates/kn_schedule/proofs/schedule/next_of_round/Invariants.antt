use Rattle.std.proofs.Common.{false, get_or}
use Rattle.kn_schedule.specs.Schedules.{AllEnded, EndedBetween}
use Rattle.kn_schedule.proofs.schedule.next_of_round.Given as goal

abbrev pub invariant-loop-actor : goal.invariant-loop-actor
invariant-loop-actor l = EndedBetween (λ i. get_or l.ended i false) l.place l.actor

abbrev pub invariant-loop-actor-2 : goal.invariant-loop-actor-2
invariant-loop-actor-2 l = AllEnded l.actor (λ i. get_or l.ended i false)
