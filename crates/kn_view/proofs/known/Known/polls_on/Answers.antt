use Rattle.std.proofs.Common.{◌≡◌, ◌∙◌, ◌&&◌, ap, false, sym, subst, true}
use Rattle.kn_base.specs.declared.places.Place.TheVariants.{Phase}
use Rattle.kn_rule.specs.declared.positions.Position.TheVariants.{Out, Entering, Waiting}
use Rattle.kn_rule.specs.declared.steps.Action.TheVariants.{LoadsFor}
use Rattle.kn_rule.specs.Decoding.{phase_of}
use Rattle.kn_rule.specs.Phases.{is_run}
use Rattle.kn_rule.specs.Steps.{found}
use Rattle.kn_rule.specs.Outcomes.{poll_at}
use Rattle.kn_view.specs.Parts.{Part, is_ready, view_with}
use Rattle.kn_view.specs.Told.{told}
use Rattle.kn_view.proofs.Polling.{entering_waits}
use Rattle.kn_view.proofs.known.Known.polls_on.Goals as goal

pub returns-then-runs : goal.returns-then-runs
returns-then-runs c = λ z next page owned log.
    let old = c.args.self.now in
    let v = view_with z old owned log in
    let f = found c.args.word page in
    let a = LoadsFor next in
    let run = is_run (phase_of c.args.word).code in
    let at : Entering ≡ old.position = sym c.in-Entering.is ∙ ap (λ (q : Part). q.position) c.self.view_is in
    let runs : run ≡ true = sym c.runs.ensures ∙ c.if-runs.true in
    let later : (run && is_ready Entering old.target) ≡ false = subst (λ q. (run && is_ready q old.target) ≡ false) (sym at) c.requires.later in
    c.waits.ensures z a page owned log
    ∙ ap (told c.args.history.now) (entering_waits z c.args.by v Phase a f next run old.target runs later
    ∙ ap (λ q. poll_at z c.args.by v Phase a f q run next) at)

pub returns-else-runs : goal.returns-else-runs
returns-else-runs c = λ z next page owned log.
    let v = view_with z c.args.self.now owned log in
    let f = found c.args.word page in
    let at : Entering ≡ c.args.self.now.position = sym c.in-Entering.is ∙ ap (λ (q : Part). q.position) c.self.view_is in
    let no : false ≡ is_run (phase_of c.args.word).code = sym c.if-runs.false ∙ c.runs.ensures in
    ap (told c.args.history.now) (c.joins.ensures z c.args.by (LoadsFor next) page owned log)
    ∙ (λ t. told c.args.history.now (poll_at z c.args.by v Phase (LoadsFor next) f (at t) (no t) next))

pub returns-in-Waiting : goal.returns-in-Waiting
returns-in-Waiting c = λ z next page owned log.
    let v = view_with z c.args.self.now owned log in
    let f = found c.args.word page in
    let at : Waiting ≡ c.args.self.now.position = sym c.in-Waiting.is ∙ ap (λ (q : Part). q.position) c.self.view_is in
    c.waits-in-Waiting.ensures z (LoadsFor next) page owned log
    ∙ (λ t. told c.args.history.now
    (poll_at z c.args.by v Phase (LoadsFor next) f (at t) (is_run (phase_of c.args.word).code) next))

pub returns-in-Out : goal.returns-in-Out
returns-in-Out c = λ z next page owned log.
    let v = view_with z c.args.self.now owned log in
    let f = found c.args.word page in
    let at : Out ≡ c.args.self.now.position = sym c.in-Out.is ∙ ap (λ (q : Part). q.position) c.self.view_is in
    ap (told c.args.history.now) (c.joins-in-Out.ensures z c.args.by (LoadsFor next) page owned log)
    ∙ (λ t. told c.args.history.now
    (poll_at z c.args.by v Phase (LoadsFor next) f (at t) (is_run (phase_of c.args.word).code) next))
