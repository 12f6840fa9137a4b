use Rattle.std.proofs.Common.{◌∙◌, ap, cond, Bool}
use Rattle.kn_base.specs.declared.places.Place.TheVariants.{Phase}
use Rattle.kn_rule.specs.Steps.{found}
use Rattle.kn_rule.specs.Outcomes.{epoch_told, waits_on}
use Rattle.kn_view.specs.Parts.{view_with}
use Rattle.kn_view.specs.Told.{told}
use Rattle.kn_view.proofs.known.Known.waits_in.Goals as goal

pub returns-then-is_done : goal.returns-then-is_done
returns-then-is_done c = λ z a page owned log.
    let v = view_with z c.args.self.now owned log in
    let f = found c.args.word page in
    c.tells.ensures z a page owned log
    ∙ ap (λ (b : Bool). told c.args.history.now (cond b (epoch_told z c.args.by v Phase a f c.args.word c.args.target) (waits_on z c.args.by v Phase a f)))
    c.if-is_done.ensures.is
