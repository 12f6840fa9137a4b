use Rattle.std.proofs.Common.{None}
use Rattle.kn_rule.specs.Steps.{found}
use Rattle.kn_safepoint.specs.declared.stage.Stage.TheVariants.{Out}
use Rattle.kn_safepoint.proofs.Making.{may_look, out_agrees, phase_packs}
use Rattle.kn_safepoint.proofs.Turning.{goes}
use Rattle.kn_safepoint.proofs.safepoint.Safepoint.looks.Goals as goal

pub poll-word-requires : goal.poll-word-requires
poll-word-requires g c = may_look c.requires.agrees (g.T.Steps.here c.args.steps.now) c.requires.stage

pub looked-requires : goal.looked-requires
looked-requires g c = phase_packs c.poll-word.ensures.1

pub returns : goal.returns
returns g c =
    let t = g.T.Steps in
    let h = c.poll-word.ensures in
    goes t.stand t.here t.did t.moved c.args.self.now None c.args.steps.now c.poll-word.new.self c.looked.new.self c.looked.result
    c.requires.agrees Out c.requires.stage (found c.poll-word.result h.0) h.1 h.2 (out_agrees c.requires.agrees (t.here c.args.steps.now) c.requires.stage h.1)
    c.looked.ensures.behind c.looked.ensures.answer
