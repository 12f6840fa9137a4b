use Rattle.kn_rule.specs.Steps.{found}
use Rattle.kn_safepoint.specs.declared.stage.Stage.TheVariants.{Enters}
use Rattle.kn_safepoint.proofs.Making.{enters_agrees, may_enter, phase_packs}
use Rattle.kn_safepoint.proofs.Turning.{goes}
use Rattle.kn_safepoint.proofs.safepoint.Safepoint.enters.Goals as goal

pub poll-word-requires : goal.poll-word-requires
poll-word-requires g c = may_enter c.requires.agrees (g.T.Steps.here c.args.steps.now) c.requires.stage c.args.next c.requires.may

pub heard-requires : goal.heard-requires
heard-requires g c = phase_packs c.poll-word.ensures.1

pub returns : goal.returns
returns g c =
    let t = g.T.Steps in
    let h = c.poll-word.ensures in
    goes t.stand t.here t.did t.moved c.args.self.now c.args.next c.args.steps.now c.poll-word.new.self c.heard.new.self c.heard.result
    c.requires.agrees Enters c.requires.stage (found c.poll-word.result h.0) h.1 h.2
    (enters_agrees c.requires.agrees (t.here c.args.steps.now) c.requires.stage c.args.next h.1) c.heard.ensures.behind c.heard.ensures.answer
