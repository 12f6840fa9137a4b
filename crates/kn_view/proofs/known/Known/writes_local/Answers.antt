use Rattle.std.proofs.Common.{◌∙◌, ap, sym, slice_set}
use Rattle.kn_base.specs.declared.places.Place.TheVariants.{Local}
use Rattle.kn_graph.specs.declared.calls.Reply.TheVariants as replies
use Rattle.kn_rule.specs.declared.positions.Position.TheVariants.{Between}
use Rattle.kn_rule.specs.declared.steps.Action.TheVariants.{Stores}
use Rattle.kn_rule.specs.Outcomes.{write_at}
use Rattle.kn_view.specs.Parts.{Part, view_with}
use Rattle.kn_view.specs.Told.{told}
use Rattle.kn_view.proofs.Answering.{answered, stands_at}
use Rattle.kn_view.proofs.known.Known.writes_local.Goals as goal

pub returns-in-Calling : goal.returns-in-Calling
returns-in-Calling c = λ z f owned log.
    let v = c.args.self.now in
    answered z _ _ _ _ c.args.by c.in-Calling.call replies.Ok 0
    (record v { position = Between; locals = slice_set v.locals c.args.r c.args.word })
    (c.stands.ensures ∙ ap (λ (q : Part). record q { position = Between }) c.sets_local.ensures) (c.answers.ensures z) owned log
    ∙ ap (told c.args.history.now)
    (sym (ap (write_at z c.args.by (view_with z v owned log) (Local c.args.by c.args.r) (Stores c.args.word) f)
    (stands_at _ _ _ c.self.view_is c.in-Calling.is)))
