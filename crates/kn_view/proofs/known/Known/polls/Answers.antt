use Rattle.std.proofs.Common.{◌≡◌, ◌∙◌, ◌&&◌, ap, sym, true}
use Rattle.kn_base.specs.declared.places.Place.TheVariants.{Phase}
use Rattle.kn_rule.specs.declared.steps.Action.TheVariants.{LoadsFor}
use Rattle.kn_rule.specs.Decoding.{phase_of}
use Rattle.kn_rule.specs.Phases.{is_run}
use Rattle.kn_rule.specs.Steps.{found}
use Rattle.kn_view.specs.Parts.{ground_of, is_ready, view_with}
use Rattle.kn_view.specs.Told.{told}
use Rattle.kn_view.proofs.Polling.{ready_polls}
use Rattle.kn_view.proofs.known.Known.polls.Goals as goal

pub returns-then-may_begin : goal.returns-then-may_begin
returns-then-may_begin c = λ page owned log.
    let z = ground_of c.args.sizes.now c.args.layouts.now in
    let old = c.args.self.now in
    let run = is_run (phase_of c.args.word).code in
    let may : (run && is_ready old.position old.target) ≡ true = sym c.may_begin.ensures ∙ c.if-may_begin.true in
    c.begins.ensures page owned log
    ∙ ap (told c.args.history.now)
    (ready_polls z c.args.by (view_with z old owned log) Phase (LoadsFor c.args.next) (found c.args.word page) c.args.next run old.position may)
