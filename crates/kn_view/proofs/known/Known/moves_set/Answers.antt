use Rattle.std.proofs.Common.{◌∙◌, ap, sym}
use Rattle.kn_rule.specs.MarkSteps.{set_after}
use Rattle.kn_view.specs.Parts.{Part}
use Rattle.kn_view.proofs.Working.{works_only}
use Rattle.kn_view.proofs.known.Known.moves_set.Goals as goal

pub returns : goal.returns
returns c = λ z by f word owned log.
    let old = c.args.self.now.work in
    let v = c.self.view_is in
    works_only z owned log v (c.moved_set-self-inside.ensures z
    ∙ ap (λ (q : Part). set_after z q.work c.args.word c.args.set c.args.act) v ∙ ap (λ n. set_after z old n c.args.set c.args.act) (sym word))
