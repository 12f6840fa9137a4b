use Rattle.std.proofs.Common.{inr, refl}
use Rattle.kn_mutator.proofs.Core.{phase_made}
use Rattle.kn_mutator.proofs.Polling.{may_poll_at, range_between, ready_between}
use Rattle.kn_mutator.proofs.Heard.{heard}
use Rattle.kn_mutator.specs.Tasks.{poll_for}
use Rattle.kn_rule.specs.Steps.{found}
use Rattle.kn_mutator.proofs.mutator.Mutator.polls.Goals as goal

pub poll-word-requires : goal.poll-word-requires
poll-word-requires g c =
    may_poll_at c.args.self.now (g.T.Steps.stand c.args.steps.now) (g.T.Steps.here c.args.steps.now) c.requires.agrees c.requires.task
    c.pass-passed.result c.next_call-next.result c.next_call-next.ensures

pub hears-requires-clause-ready : goal.hears-requires-clause-ready
hears-requires-clause-ready g c =
    let t = g.T.Steps in
    let s = c.args.steps.now in
    ready_between c.args.self.now (t.stand s) (t.here s) c.requires.agrees c.requires.task

pub hears-requires-clause-next : goal.hears-requires-clause-next
hears-requires-clause-next g c =
    let t = g.T.Steps in
    let s = c.args.steps.now in
    range_between c.args.self.now (t.stand s) (t.here s) c.requires.agrees c.requires.task c.pass-passed.result c.next_call-next.result
    c.next_call-next.ensures

pub hears-requires-clause-word : goal.hears-requires-clause-word
hears-requires-clause-word g c =
    let t = g.T.Steps in
    let s = c.args.steps.now in
    let h = c.poll-word.ensures in
    let b = c.poll-word.new.self in
    phase_made (t.stand s) (t.here s) (poll_for c.next_call-next.result) (found c.poll-word.result h.0) (t.stand b) (t.here b) h.1 refl

pub returns : goal.returns
returns g c =
    let t = g.T.Steps in
    let h = c.poll-word.ensures in
    heard t.stand t.here t.did t.moved (g.G.Gate.told c.args.gate.now) _ c.args.self.now c.self.view_is c.args.steps.now c.poll-word.new.self
    c.requires.agrees c.pass-passed.result c.pass-passed.ensures c.next_call-next.result c.next_call-next.ensures c.poll-word.result h.0 h.1 h.2
    c.hears.new.self c.hears.result c.hears.ensures (inr c.requires.task)
