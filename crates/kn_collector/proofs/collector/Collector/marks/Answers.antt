use Rattle.std.proofs.Common.{refl, sym, ap, ◌∙◌, subst}
use Rattle.kn_base.specs.declared.kinds.Code.TheVariants as codes
use Rattle.kn_base.specs.declared.places.Place.TheVariants.{Phase}
use Rattle.kn_rule.specs.declared.steps.Action.TheVariants.{Stores}
use Rattle.kn_rule.specs.declared.steps.Kind.TheVariants.{K14}
use Rattle.kn_rule.specs.Steps.{does}
use Rattle.kn_steps.specs.Made.{Allowed, Stand}
use Rattle.kn_steps.specs.declared.turns.Turn.TheVariants.{Moved}
use Rattle.kn_mark.specs.Kept.{Kept as MarkerKept, started}
use Rattle.kn_mark.specs.Agree.{Agrees as MarkerAgrees, MayStart}
use Rattle.kn_collector.specs.declared.stage.Stage.TheVariants.{Marking, Marks}
use Rattle.kn_collector.specs.Kept.{Kept}
use Rattle.kn_collector.specs.Stages.{phase_word}
use Rattle.kn_collector.proofs.Allowing.{may_mark}
use Rattle.kn_collector.proofs.Agreeing.{marked_agrees}
use Rattle.kn_collector.proofs.Turning.{goes}
use Rattle.kn_collector.proofs.collector.Collector.marks.Goals as goal

pub store-requires : goal.store-requires
store-requires g c =
    let t = g.T.Steps in
    let s = c.args.steps.now in
    let e = c.phase_word.ensures ∙ ap (λ (q : Kept). phase_word q.epoch codes.Mark) c.self.view_is in
    subst (λ w. Allowed (t.stand s) (t.here s) (does K14 Phase (Stores w))) (sym e) (may_mark c.requires.agrees (t.here s) c.requires.stage)

pub returns : goal.returns
returns g c =
    let t = g.T.Steps in
    let k : Kept = c.args.self.now in
    let h = c.store.ensures in
    let i = c.self.inside in
    let e = c.phase_word.ensures ∙ ap (λ (q : Kept). phase_word q.epoch codes.Mark) c.self.view_is in
    let starts =
    subst (λ (q : Kept). (a : Stand) → MayStart q.marker q.epoch a → MarkerAgrees (started q.marker q.epoch) a) c.self.view_is
    (λ a may. subst (λ (m : MarkerKept). MarkerAgrees m a) c.start.ensures.started (c.start.ensures.agrees a may)) in
    goes t.stand t.here t.did t.moved k c.args.steps.now c.store.new.self c.requires.agrees Marks c.requires.stage
    (does K14 Phase (Stores (phase_word k.epoch codes.Mark))) h.0 refl
    (does K14 Phase (Stores c.phase_word.result)) (ap (λ w. does K14 Phase (Stores w)) e) h.1 h.2
    (λ made. marked_agrees c.requires.agrees c.requires.stage made starts) c.goes_to.new.self
    (c.goes_to.ensures
    ∙ ((λ x. record {
      by = i.by;
      epoch = i.epoch;
      stage = Marking;
      layouts = i.layouts.items;
      marker = c.start.ensures.started x;
      log = i.log.items;
    })
    ∙ ap (λ (q : Kept). record q { stage = Marking; marker = started q.marker q.epoch }) c.self.view_is)) Moved refl
