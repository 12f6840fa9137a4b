use Rattle.std.proofs.Common.{◌+◌, refl, sym, ap, ◌∙◌, subst}
use Rattle.kn_base.specs.declared.places.Place.TheVariants.{Pending}
use Rattle.kn_rule.specs.declared.steps.Action.TheVariants.{Stores}
use Rattle.kn_rule.specs.declared.steps.Kind.TheVariants.{K16}
use Rattle.kn_rule.specs.Steps.{does}
use Rattle.kn_steps.specs.Made.{Allowed}
use Rattle.kn_steps.specs.declared.turns.Turn.TheVariants.{Moved}
use Rattle.kn_collector.specs.declared.stage.Stage.TheVariants.{Begins}
use Rattle.kn_collector.specs.Kept.{Kept}
use Rattle.kn_collector.proofs.Allowing.{may_begin}
use Rattle.kn_collector.proofs.Agreeing.{begun_agrees}
use Rattle.kn_collector.proofs.Turning.{goes}
use Rattle.kn_collector.proofs.collector.Collector.begins.Goals as goal

pub store-requires : goal.store-requires
store-requires g c =
    let t = g.T.Steps in
    let s = c.args.steps.now in
    let e = c.from.ensures ∙ ap (λ (q : Kept). q.by) c.self.view_is in
    subst (λ n. Allowed (t.stand s) (t.here s) (does K16 Pending (Stores (n + 2)))) (sym e)
    (may_begin c.requires.agrees (t.here s) c.requires.stage)

pub returns : goal.returns
returns g c =
    let t = g.T.Steps in
    let k : Kept = c.args.self.now in
    let h = c.store.ensures in
    let e = c.from.ensures ∙ ap (λ (q : Kept). q.by) c.self.view_is in
    goes t.stand t.here t.did t.moved k c.args.steps.now c.store.new.self c.requires.agrees Begins c.requires.stage
    (does K16 Pending (Stores (k.by + 2))) h.0 refl
    (does K16 Pending (Stores (c.from.result + 2))) (ap (λ n. does K16 Pending (Stores (n + 2))) e) h.1 h.2
    (λ made. begun_agrees c.requires.agrees c.requires.stage made) c.goes_to.new.self c.goes_to.ensures Moved refl
