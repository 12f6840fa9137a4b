use Rattle.std.proofs.Common.{refl}
use Rattle.kn_base.specs.declared.places.Place.TheVariants.{Want}
use Rattle.kn_rule.specs.declared.steps.Action.TheVariants.{Loads}
use Rattle.kn_rule.specs.declared.steps.Kind.TheVariants.{K13}
use Rattle.kn_rule.specs.Steps.{Step, does, found}
use Rattle.kn_collector.specs.declared.stage.Stage.TheVariants.{Wants}
use Rattle.kn_collector.proofs.Allowing.{may_want}
use Rattle.kn_collector.proofs.Agreeing.{wanted_agrees}
use Rattle.kn_collector.proofs.Turning.{goes}
use Rattle.kn_collector.proofs.collector.Collector.wants.Goals as goal

pub load-word-requires : goal.load-word-requires
load-word-requires g c =
    may_want c.requires.agrees (g.T.Steps.here c.args.steps.now) c.args.all_ended c.requires.stage

pub returns : goal.returns
returns g c =
    let t = g.T.Steps in
    let h = c.load-word.ensures in
    let d : Step = does K13 Want Loads in
    goes t.stand t.here t.did t.moved c.args.self.now c.args.steps.now c.load-word.new.self c.requires.agrees (Wants c.args.all_ended) c.requires.stage d
    (found c.load-word.result h.0) refl d refl h.1 h.2
    (λ made. wanted_agrees c.requires.agrees c.epochs_are_few.ensures c.args.all_ended c.requires.stage made)
    c.chooses.new.self c.chooses.ensures.behind c.chooses.result c.chooses.ensures.answer
