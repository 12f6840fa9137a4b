use Rattle.std.proofs.Common.{ap, ◌∙◌, None, slice_set}
use Rattle.kn_graph.specs.declared.calls.Reply.TheVariants as replies
use Rattle.kn_rule.specs.Steps.{saying, epoch_in}
use Rattle.kn_view.specs.Parts.{Part, view_with}
use Rattle.kn_view.specs.Told.{told}
use Rattle.kn_view.proofs.known.Known.bears.Goals as goal

pub returns : goal.returns
returns c = λ z a f layout fields owned log.
    c.answers.ensures z owned log
    ∙ ap (λ (q : Part). told c.args.history.now
    (saying c.args.by (epoch_in (view_with z q owned log)) c.args.call replies.Ok c.args.address (view_with z q owned log)))
    (c.sets_local.ensures
    ∙ ap (λ (q : Part). record q { taken = None; locals = slice_set q.locals c.args.r c.args.address }) (c.self.view_is ∙ c.stands.ensures))
