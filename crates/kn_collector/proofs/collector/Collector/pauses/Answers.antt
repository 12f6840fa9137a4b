use Rattle.std.proofs.Common.{refl, sym, ap, ◌∙◌, subst}
use Rattle.kn_base.specs.declared.kinds.Code.TheVariants as codes
use Rattle.kn_base.specs.declared.places.Place.TheVariants.{Phase}
use Rattle.kn_rule.specs.declared.steps.Action.TheVariants.{Stores}
use Rattle.kn_rule.specs.declared.steps.Kind.TheVariants.{K14}
use Rattle.kn_rule.specs.Steps.{does}
use Rattle.kn_steps.specs.Made.{Allowed}
use Rattle.kn_steps.specs.declared.turns.Turn.TheVariants.{Moved}
use Rattle.kn_collector.specs.declared.stage.Stage.TheVariants.{Paused, Pauses}
use Rattle.kn_collector.specs.Kept.{Kept}
use Rattle.kn_collector.specs.Stages.{phase_word}
use Rattle.kn_collector.proofs.Allowing.{may_pause}
use Rattle.kn_collector.proofs.Agreeing.{paused_agrees, room_for_pause}
use Rattle.kn_collector.proofs.Turning.{goes}
use Rattle.kn_collector.proofs.collector.Collector.pauses.Goals as goal

pub store-requires : goal.store-requires
store-requires g c =
    let t = g.T.Steps in
    let s = c.args.steps.now in
    let e = c.phase_word.ensures ∙ ap (λ (q : Kept). phase_word q.epoch codes.Weak) c.self.view_is in
    subst (λ w. Allowed (t.stand s) (t.here s) (does K14 Phase (Stores w))) (sym e) (may_pause c.requires.agrees (t.here s) c.requires.stage)

pub says_pause-requires : goal.says_pause-requires
says_pause-requires g c = room_for_pause c.requires.agrees c.requires.stage

pub returns : goal.returns
returns g c =
    let t = g.T.Steps in
    let k : Kept = c.args.self.now in
    let h = c.store.ensures in
    let e = c.phase_word.ensures ∙ ap (λ (q : Kept). phase_word q.epoch codes.Weak) c.self.view_is in
    goes t.stand t.here t.did t.moved k c.args.steps.now c.store.new.self c.requires.agrees Pauses c.requires.stage
    (does K14 Phase (Stores (phase_word k.epoch codes.Weak))) h.0 refl
    (does K14 Phase (Stores c.phase_word.result)) (ap (λ w. does K14 Phase (Stores w)) e) h.1 h.2
    (λ made. paused_agrees c.requires.agrees c.requires.stage made) c.goes_to.new.self
    (c.goes_to.ensures ∙ ap (λ (q : Kept). record q { stage = Paused }) c.says_pause.ensures) Moved refl
