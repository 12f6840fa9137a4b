use Rattle.std.proofs.Common.{◌∙◌, ap, sym}
use Rattle.kn_graph.specs.declared.calls.Reply.TheVariants as replies
use Rattle.kn_rule.specs.declared.positions.Position.TheVariants.{Between}
use Rattle.kn_rule.specs.Outcomes.{store_at}
use Rattle.kn_view.specs.Parts.{view_with}
use Rattle.kn_view.specs.Told.{told}
use Rattle.kn_view.proofs.Answering.{answered, stands_at}
use Rattle.kn_view.proofs.known.Known.stores_word.Goals as goal

pub returns-in-Calling : goal.returns-in-Calling
returns-in-Calling c = λ z p a f owned log.
    let v = c.args.self.now in
    answered z _ _ _ _ c.args.by c.in-Calling.call replies.Ok 0 (record v { position = Between }) c.stands.ensures (c.answers.ensures z) owned log
    ∙ ap (told c.args.history.now)
    (sym (ap (store_at z c.args.by (view_with z v owned log) p a f) (stands_at _ _ _ c.self.view_is c.in-Calling.is)))
