use Rattle.std.proofs.Common.{◌≡◌, ◌∙◌, ap}
use Rattle.kn_rule.specs.declared.steps.Action.TheVariants.{Stores}
use Rattle.kn_rule.specs.Decoding.{phase_of}
use Rattle.kn_rule.specs.MarkSteps.{joined_by}
use Rattle.kn_view.specs.Parts.{Part, view_with}
use Rattle.kn_view.proofs.known.Known.stores_phase.Goals as goal

pub returns : goal.returns
returns c = λ z p f few owned log.
    let v = view_with z c.args.self.now owned log in
    let kept = c.self.view_is ∙ c.keeps_phase.ensures z c.args.by v p (Stores c.args.word) f few in
    let works : c.joined-self-inside.result ≡ joined_by (phase_of c.args.word) c.args.self.now.work =
    c.joined-self-inside.ensures ∙ ap (λ (q : Part). joined_by (phase_of c.args.word) q.work) kept in
    λ t. record {
      view = view_with z (record (kept t) { work = works t }) owned log;
      history = c.tells_pause.ensures z v p (Stores c.args.word) f t;
    }
