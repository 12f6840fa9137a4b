use Rattle.std.proofs.Common.{refl, sym, ap, subst}
use Rattle.kn_base.specs.declared.places.Place.TheVariants.{State}
use Rattle.kn_rule.specs.declared.steps.Action.TheVariants.{Stores}
use Rattle.kn_rule.specs.declared.steps.Kind.TheVariants.{K2}
use Rattle.kn_rule.specs.Steps.{does}
use Rattle.kn_steps.specs.Made.{Allowed}
use Rattle.kn_steps.specs.declared.turns.Turn.TheVariants.{Done}
use Rattle.kn_collector.specs.declared.stage.Stage.TheVariants.{Ends}
use Rattle.kn_collector.specs.Kept.{Kept}
use Rattle.kn_collector.proofs.Allowing.{may_end}
use Rattle.kn_collector.proofs.Agreeing.{ended_agrees}
use Rattle.kn_collector.proofs.Turning.{goes}
use Rattle.kn_collector.proofs.collector.Collector.ends.Goals as goal

pub store-requires : goal.store-requires
store-requires g c =
    let t = g.T.Steps in
    let s = c.args.steps.now in
    subst (λ n. Allowed (t.stand s) (t.here s) (does K2 (State n) (Stores 2))) (sym (ap (λ (q : Kept). q.by) c.self.view_is))
    (may_end c.requires.agrees (t.here s) c.requires.stage)

pub returns : goal.returns
returns g c =
    let t = g.T.Steps in
    let k : Kept = c.args.self.now in
    let h = c.store.ensures in
    goes t.stand t.here t.did t.moved k c.args.steps.now c.store.new.self c.requires.agrees Ends c.requires.stage (does K2 (State k.by) (Stores 2)) h.0 refl
    (does K2 (State c.self.inside.by) (Stores 2)) (ap (λ (q : Kept). does K2 (State q.by) (Stores 2)) c.self.view_is) h.1 h.2
    (λ made. ended_agrees c.requires.agrees c.requires.stage made) c.goes_to.new.self c.goes_to.ensures Done refl
