use Rattle.std.proofs.Common.{refl}
use Rattle.kn_base.specs.declared.places.Place.TheVariants.{State}
use Rattle.kn_rule.specs.declared.steps.Action.TheVariants.{Loads}
use Rattle.kn_rule.specs.declared.steps.Kind.TheVariants.{K15}
use Rattle.kn_rule.specs.Steps.{Step, does, found}
use Rattle.kn_collector.specs.declared.stage.Stage.TheVariants.{Counts}
use Rattle.kn_collector.proofs.Allowing.{may_count}
use Rattle.kn_collector.proofs.Agreeing.{counted_agrees}
use Rattle.kn_collector.proofs.Turning.{goes}
use Rattle.kn_collector.proofs.collector.Collector.counts.Goals as goal

pub load-word-requires : goal.load-word-requires
load-word-requires g c =
    may_count c.requires.agrees (g.T.Steps.here c.args.steps.now) c.args.mutator c.requires.stage

pub returns : goal.returns
returns g c =
    let t = g.T.Steps in
    let h = c.load-word.ensures in
    let d : Step = does K15 (State c.args.mutator) Loads in
    goes t.stand t.here t.did t.moved c.args.self.now c.args.steps.now c.load-word.new.self c.requires.agrees (Counts c.args.mutator) c.requires.stage d
    (found c.load-word.result h.0) refl d refl h.1 h.2 (λ made. counted_agrees c.requires.agrees c.args.mutator made c.requires.stage)
    c.hears.new.self c.hears.ensures.behind c.hears.result c.hears.ensures.answer
