use Rattle.std.proofs.Common.{refl}
use Rattle.kn_base.specs.declared.places.Place.TheVariants.{State}
use Rattle.kn_rule.specs.declared.steps.Action.TheVariants.{Loads}
use Rattle.kn_rule.specs.declared.steps.Kind.TheVariants.{K15}
use Rattle.kn_rule.specs.Steps.{Step, does, found}
use Rattle.kn_steps.specs.declared.turns.Turn.TheVariants.{Idle}
use Rattle.kn_collector.specs.declared.stage.Stage.TheVariants.{Paused}
use Rattle.kn_collector.specs.Kept.{Kept}
use Rattle.kn_collector.proofs.Allowing.{may_rest}
use Rattle.kn_collector.proofs.Agreeing.{rested_agrees}
use Rattle.kn_collector.proofs.Turning.{goes}
use Rattle.kn_collector.proofs.collector.Collector.rests.Goals as goal

pub load-word-requires : goal.load-word-requires
load-word-requires g c = may_rest c.requires.agrees (g.T.Steps.here c.args.steps.now) c.requires.stage

pub returns : goal.returns
returns g c =
    let t = g.T.Steps in
    let k : Kept = c.args.self.now in
    let h = c.load-word.ensures in
    let d : Step = does K15 (State 0) Loads in
    goes t.stand t.here t.did t.moved k c.args.steps.now c.load-word.new.self c.requires.agrees Paused c.requires.stage d
    (found c.load-word.result h.0) refl d refl h.1 h.2 (λ made. rested_agrees c.requires.agrees c.requires.stage made) k
    (λ t. record k { stage = c.requires.stage t }) (Idle (State 0) c.load-word.result) refl
