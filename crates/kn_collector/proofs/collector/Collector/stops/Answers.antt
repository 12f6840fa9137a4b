use Rattle.std.proofs.Common.{◌+◌, refl, sym, ap, ◌∙◌, subst}
use Rattle.kn_base.specs.declared.kinds.Code.TheVariants as codes
use Rattle.kn_base.specs.declared.places.Place.TheVariants.{Phase}
use Rattle.kn_rule.specs.declared.steps.Action.TheVariants.{Stores}
use Rattle.kn_rule.specs.declared.steps.Kind.TheVariants.{K14}
use Rattle.kn_rule.specs.Steps.{does}
use Rattle.kn_steps.specs.Made.{Allowed}
use Rattle.kn_steps.specs.declared.turns.Turn.TheVariants.{Moved}
use Rattle.kn_collector.specs.declared.stage.Stage.TheVariants.{Counts, Stops}
use Rattle.kn_collector.specs.Kept.{Kept}
use Rattle.kn_collector.specs.Stages.{phase_word}
use Rattle.kn_collector.proofs.Allowing.{may_stop}
use Rattle.kn_collector.proofs.Agreeing.{stopped_agrees}
use Rattle.kn_collector.proofs.Turning.{goes}
use Rattle.kn_collector.proofs.collector.Collector.stops.Goals as goal

pub store-requires : goal.store-requires
store-requires g c =
    let t = g.T.Steps in
    let s = c.args.steps.now in
    let e = c.phase_word.ensures ∙ ap (λ (q : Kept). phase_word (q.epoch + 1) codes.StopA) c.self.view_is in
    subst (λ w. Allowed (t.stand s) (t.here s) (does K14 Phase (Stores w))) (sym e) (may_stop c.requires.agrees (t.here s) c.requires.stage)

pub returns : goal.returns
returns g c =
    let t = g.T.Steps in
    let k : Kept = c.args.self.now in
    let h = c.store.ensures in
    let e = c.phase_word.ensures ∙ ap (λ (q : Kept). phase_word (q.epoch + 1) codes.StopA) c.self.view_is in
    goes t.stand t.here t.did t.moved k c.args.steps.now c.store.new.self c.requires.agrees Stops c.requires.stage
    (does K14 Phase (Stores (phase_word (k.epoch + 1) codes.StopA))) h.0 refl
    (does K14 Phase (Stores c.phase_word.result)) (ap (λ w. does K14 Phase (Stores w)) e) h.1 h.2
    (λ made. stopped_agrees c.requires.agrees c.requires.stage made) c.goes_to.new.self
    (c.goes_to.ensures ∙ ap (λ (q : Kept). record q { epoch = q.epoch + 1; stage = Counts 0 }) c.self.view_is) Moved refl
