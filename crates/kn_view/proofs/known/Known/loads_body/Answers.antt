use Rattle.std.proofs.Common.{◌≡◌, ◌∙◌, ap, sym, Some}
use Rattle.kn_rule.specs.declared.positions.Position.TheVariants.{Calling}
use Rattle.kn_rule.specs.Steps.{found}
use Rattle.kn_rule.specs.Outcomes.{load_body}
use Rattle.kn_view.specs.Parts.{Part, view_with}
use Rattle.kn_view.specs.Told.{told}
use Rattle.kn_view.proofs.Answering.{stands_at}
use Rattle.kn_view.proofs.known.Known.loads_body.Goals as goal

pub returns-in-Some : goal.returns-in-Some
returns-in-Some c = λ z p a page same owned log.
    let v = c.args.self.now in
    let at : v.position ≡ Calling c.in-Calling.call = stands_at _ v _ c.self.view_is c.in-Calling.is in
    let header : v.header ≡ Some c.in-Some.field-0 = sym (ap (λ (q : Part). q.header) c.self.view_is) ∙ c.in-Some.is in
    c.reads_field.ensures z p a page c.in-Calling.call at owned log
    ∙ sym (λ t. told c.args.history.now (load_body z c.args.by (view_with z v owned log) p a (found c.args.word page) (at t) (header t)))
