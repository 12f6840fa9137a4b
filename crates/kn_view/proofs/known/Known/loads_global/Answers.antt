use Rattle.std.proofs.Common.{◌∙◌, ap, sym}
use Rattle.kn_rule.specs.declared.positions.Position.TheVariants.{Calling}
use Rattle.kn_rule.specs.Steps.{found}
use Rattle.kn_rule.specs.Outcomes.{global_read}
use Rattle.kn_view.specs.Parts.{view_with}
use Rattle.kn_view.specs.Told.{told}
use Rattle.kn_view.proofs.Answering.{stands_at}
use Rattle.kn_view.proofs.known.Known.loads_global.Goals as goal

pub returns-in-GlobalGet : goal.returns-in-GlobalGet
returns-in-GlobalGet c = λ z p a page owned log.
    let v = view_with z c.args.self.now owned log in
    let f = found c.args.word page in
    c.reads_reference.ensures z p a f (λ _. c.args.word) owned log
    ∙ ap (told c.args.history.now)
    (sym (ap (global_read z c.args.by v p a f) (stands_at _ _ _ c.self.view_is (c.in-Calling.is ∙ ap Calling c.in-GlobalGet.is))))
