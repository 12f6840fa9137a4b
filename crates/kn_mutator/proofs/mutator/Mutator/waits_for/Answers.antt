use Rattle.kn_mutator.proofs.Awaiting.{waits_in, waits_out}
use Rattle.std.proofs.Common.{refl, None}
use Rattle.kn_mutator.proofs.Needs.{may_wait, waiting_room}
use Rattle.kn_mutator.proofs.Core.{phase_made}
use Rattle.kn_mutator.specs.Tasks.{poll_for}
use Rattle.kn_rule.specs.Steps.{found}
use Rattle.kn_mutator.proofs.mutator.Mutator.waits_for.Goals as goal

pub poll-word-requires : goal.poll-word-requires
poll-word-requires g c =
    let t = g.T.Steps in
    let m = c.args.self.now in
    let a = t.stand c.args.steps.now in
    let here = t.here c.args.steps.now in
    may_wait m a here c.requires.agrees c.requires.task

pub waits_in-requires-clause-room : goal.waits_in-requires-clause-room
waits_in-requires-clause-room g c =
    let t = g.T.Steps in
    let m = c.args.self.now in
    let a = t.stand c.args.steps.now in
    let here = t.here c.args.steps.now in
    waiting_room m a here c.requires.agrees c.requires.task

pub awaits-requires-clause-room : goal.awaits-requires-clause-room
awaits-requires-clause-room g c =
    let t = g.T.Steps in
    let m = c.args.self.now in
    let a = t.stand c.args.steps.now in
    let here = t.here c.args.steps.now in
    waiting_room m a here c.requires.agrees c.requires.task

pub waits_in-requires-clause-word : goal.waits_in-requires-clause-word
waits_in-requires-clause-word g c =
    let t = g.T.Steps in
    let a = t.stand c.args.steps.now in
    let here = t.here c.args.steps.now in
    let h = c.poll-word.ensures in
    let b = c.poll-word.new.self in
    phase_made a here (poll_for None) (found c.poll-word.result h.0) (t.stand b) (t.here b) h.1 refl

pub awaits-requires-clause-word : goal.awaits-requires-clause-word
awaits-requires-clause-word g c =
    let t = g.T.Steps in
    let a = t.stand c.args.steps.now in
    let here = t.here c.args.steps.now in
    let h = c.poll-word.ensures in
    let b = c.poll-word.new.self in
    phase_made a here (poll_for None) (found c.poll-word.result h.0) (t.stand b) (t.here b) h.1 refl

pub returns-then-runs : goal.returns-then-runs
returns-then-runs g c =
    let t = g.T.Steps in
    let h = c.poll-word.ensures in
    waits_in t.stand t.here t.did t.moved c.args.self.now c.args.steps.now c.poll-word.new.self c.requires.agrees c.args.target c.requires.target
    c.poll-word.result h.0 h.1 h.2 c.requires.task c.runs.result c.runs.ensures c.if-runs.true c.waits_in.new.self c.waits_in.result c.waits_in.ensures

pub returns-else-runs : goal.returns-else-runs
returns-else-runs g c =
    let t = g.T.Steps in
    let h = c.poll-word.ensures in
    waits_out t.stand t.here t.did t.moved c.args.self.now c.args.steps.now c.poll-word.new.self c.requires.agrees c.args.target c.requires.target
    c.poll-word.result h.0 h.1 h.2 c.requires.task c.runs.result c.runs.ensures c.if-runs.false c.awaits.new.self c.awaits.ensures
