use Rattle.std.proofs.Common.{◌≡◌, ◌∙◌, ap}
use Rattle.kn_rule.specs.declared.positions.Position.TheVariants.{Between}
use Rattle.kn_rule.specs.Steps.{epoch_in, saying}
use Rattle.kn_view.specs.Parts.{view_with}
use Rattle.kn_view.specs.Told.{told}
use Rattle.kn_view.proofs.Answering.{answered, same_call, stands_at}
use Rattle.kn_view.proofs.known.Known.refuses_field.Goals as goal

pub returns-in-Calling : goal.returns-in-Calling
returns-in-Calling c = λ z call at owned log.
    let v = c.args.self.now in
    let its = c.in-Calling.call in
    let part = record v { position = Between } in
    let same : its ≡ call = same_call v.position its call (stands_at _ _ _ c.self.view_is c.in-Calling.is) at in
    answered z _ _ _ _ c.args.by its c.args.reply 0 part c.stands.ensures (c.answers.ensures z) owned log
    ∙ ap (λ k. told c.args.history.now (saying c.args.by (epoch_in (view_with z part owned log)) k c.args.reply 0 (view_with z part owned log))) same
