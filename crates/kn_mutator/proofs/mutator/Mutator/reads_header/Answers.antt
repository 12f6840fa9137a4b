use Rattle.kn_rule.specs.Steps.{found}
use Rattle.kn_mutator.proofs.CallTurns.{reads_header}
use Rattle.std.proofs.Common.{None, refl}
use Rattle.kn_mutator.proofs.Needs.{may_read_header, room}
use Rattle.kn_mutator.proofs.mutator.Mutator.reads_header.Goals as goal

pub load-word-requires : goal.load-word-requires
load-word-requires g c =
    let t = g.T.Steps in
    let m = c.args.self.now in
    let a = t.stand c.args.steps.now in
    let here = t.here c.args.steps.now in
    may_read_header m a here c.requires.agrees c.args.call None c.requires.task c.args.s c.requires.field.0 c.requires.field.1 c.requires.field.2
    refl c.local.result c.local.ensures

pub judges-requires-clause-room : goal.judges-requires-clause-room
judges-requires-clause-room g c =
    let t = g.T.Steps in
    let m = c.args.self.now in
    let a = t.stand c.args.steps.now in
    let here = t.here c.args.steps.now in
    room m a here c.requires.agrees c.args.call None c.requires.task

pub returns : goal.returns
returns g c =
    let t = g.T.Steps in
    let h = c.load-word.ensures in
    reads_header t.stand t.here t.did t.moved c.args.self.now c.args.steps.now c.load-word.new.self c.requires.agrees (found c.load-word.result h.0)
    c.args.call c.requires.task c.args.s c.requires.field.0 c.requires.field.1 c.requires.field.2 c.local.result c.local.ensures h.1 h.2
    c.judges.new.self c.judges.ensures
