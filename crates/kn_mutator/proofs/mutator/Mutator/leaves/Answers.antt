use Rattle.std.proofs.Common.{refl, ap, ◌∙◌}
use Rattle.kn_safepoint.specs.Kept.{Kept}
use Rattle.kn_mutator.specs.Mutating.{Mutating}
use Rattle.kn_mutator.proofs.Homes.{leaves_done, leaves_goes}
use Rattle.kn_mutator.proofs.WayIn.{by_leaving, left_at, may_leaving, thread_leaving}
use Rattle.kn_mutator.proofs.Needs.{alloc_agrees, leaving_idle, leaving_no_call}
use Rattle.kn_mutator.proofs.mutator.Mutator.leaves.Goals as goal

pub put_home_turn-requires-clause-agrees : goal.put_home_turn-requires-clause-agrees
put_home_turn-requires-clause-agrees g c =
    let t = g.T.Steps in
    let m = c.args.self.now in
    let a = t.stand c.args.steps.now in
    let here = t.here c.args.steps.now in
    alloc_agrees m a here c.requires.agrees _ c.self.view_is

pub put_home_turn-requires-clause-idle : goal.put_home_turn-requires-clause-idle
put_home_turn-requires-clause-idle g c =
    let t = g.T.Steps in
    let m = c.args.self.now in
    let a = t.stand c.args.steps.now in
    let here = t.here c.args.steps.now in
    leaving_idle m a here c.requires.agrees _ c.self.view_is c.requires.task

pub put_home_turn-requires-clause-no_call : goal.put_home_turn-requires-clause-no_call
put_home_turn-requires-clause-no_call g c =
    let t = g.T.Steps in
    let m = c.args.self.now in
    let a = t.stand c.args.steps.now in
    let here = t.here c.args.steps.now in
    leaving_no_call m a here c.requires.agrees _ c.self.view_is c.requires.task

pub leave_turn-requires-clause-caller : goal.leave_turn-requires-clause-caller
leave_turn-requires-clause-caller g c = λ κs near.
    let t = g.T.Steps in
    let s = c.args.steps.now in
    by_leaving c.args.self.now (t.stand s) (t.here s) c.requires.agrees c.requires.task (t.stand c.put_home_turn.new.steps)
    (ap t.stand (c.put_home_turn.ensures.still c.in-Done.is).0) c.safepoint.result.by
    (ap (λ (k : Kept). k.by) c.safepoint.ensures ∙ ap (λ (q : Mutating). q.by) c.self.view_is)

pub leave_turn-requires-clause-thread : goal.leave_turn-requires-clause-thread
leave_turn-requires-clause-thread g c = λ κs near.
    let t = g.T.Steps in
    let s = c.args.steps.now in
    thread_leaving c.args.self.now (t.stand s) (t.here s) c.requires.agrees c.requires.task (t.stand c.put_home_turn.new.steps)
    (ap t.stand (c.put_home_turn.ensures.still c.in-Done.is).0) c.safepoint.result.by
    (ap (λ (k : Kept). k.by) c.safepoint.ensures ∙ ap (λ (q : Mutating). q.by) c.self.view_is)

pub leave_turn-requires-clause-may : goal.leave_turn-requires-clause-may
leave_turn-requires-clause-may g c = λ κs near.
    let t = g.T.Steps in
    let s = c.args.steps.now in
    may_leaving c.args.self.now (t.stand s) (t.here s) c.requires.agrees c.requires.task (t.stand c.put_home_turn.new.steps)
    (ap t.stand (c.put_home_turn.ensures.still c.in-Done.is).0) c.safepoint.result.by
    (ap (λ (k : Kept). k.by) c.safepoint.ensures ∙ ap (λ (q : Mutating). q.by) c.self.view_is) (c.put_home_turn.ensures.done.0 c.in-Done.is)

pub returns-in-Moved : goal.returns-in-Moved
returns-in-Moved g c =
    let t = g.T.Steps in
    let p = c.in-Moved.ensures in
    leaves_goes t.stand t.here t.did t.moved _ c.args.self.now c.self.view_is c.args.steps.now c.put_home_turn.new.steps c.requires.agrees
    c.put_home_turn.new.self p.agrees p.tells p.kept p.idle p.went c.requires.task

pub returns-in-Done : goal.returns-in-Done
returns-in-Done g c =
    let t = g.T.Steps in
    let p = c.in-Done.ensures in
    leaves_done t.stand t.here t.did t.moved _ c.args.self.now c.self.view_is c.args.steps.now c.leave_turn.new.steps c.requires.agrees
    c.put_home_turn.new.steps c.put_home_turn.new.self p.went (p.still refl) c.requires.task
    (left_at t.stand t.here t.did t.moved c.args.self.now c.put_home_turn.new.steps c.leave_turn.new.steps c.self.inside.by c.safepoint.result
    c.leave_turn.new.self c.safepoint.ensures c.leave_turn.ensures.left)
    c.goes_to.new.self c.goes_to.ensures
