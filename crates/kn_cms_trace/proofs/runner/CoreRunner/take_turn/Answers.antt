use Rattle.std.proofs.Common.{◌∙◌, ℕ, Bool, List, slice_set, sym, ap, subst}
use Rattle.kn_schedule.specs.Schedules.{IsNext}
use Rattle.kn_cms_trace.specs.CoreRuns.{actor_at, standing_in}
use Rattle.kn_cms_trace.specs.Runners.{Runner, RunnerTurns}
use Rattle.kn_cms_trace.proofs.Turned.{one_turn}
use Rattle.kn_cms_trace.proofs.runner.CoreRunner.take_turn.Goals as goal

pub returns-clause-takes : goal.returns-clause-takes
returns-clause-takes c =
    let s = c.self.inside in
    let k : Runner = record { core = s.core; ended = s.ended.items; answered = s.answered.items; left = s.schedule.left } in
    let actor = c.in-Some.actor in
    let threads = s.core.ground.sizes.threads in
    let who = c.actor_at-who.ensures.is ∙ ap (λ (t : ℕ). actor_at t actor) (sym c.self.invariant.0) in
    let next = subst (λ (t : ℕ). IsNext t (standing_in c.deref.result.now c.deref-2.result.now) s.schedule.left actor c.next_turn.new.self.left)
    (c.self.invariant.1 ∙ sym c.self.invariant.0) c.in-Some.ensures.next in
    let next = subst (λ (e : List Bool). IsNext threads (standing_in e c.deref-2.result.now) s.schedule.left actor c.next_turn.new.self.left)
    c.deref.ensures.value next in
    let next = subst (λ (a : List ℕ). IsNext threads (standing_in s.ended.items a) s.schedule.left actor c.next_turn.new.self.left)
    c.deref-2.ensures.value next in
    let after : Runner = record {
      core = c.turn-turn.new.self;
      ended = slice_set k.ended c.from.result c.is_done.result;
      answered = slice_set k.answered c.from-2.result c.answered_by.result;
      left = c.next_turn.new.self.left;
    } in
    subst (λ (x : Runner). RunnerTurns x after) c.self.view_is
    (one_turn k c.turn-turn.new.self c.next_turn.new.self.left actor c.from.result c.from-2.result c.actor_at-who.result c.turn-turn.result
    c.is_done.result c.answered_by.result c.from.ensures c.from-2.ensures who c.is_done.ensures c.turn-turn.ensures.moves c.answered_by.ensures next)
