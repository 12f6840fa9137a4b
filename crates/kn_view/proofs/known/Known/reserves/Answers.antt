use Rattle.std.proofs.Common.{◌∙◌, ap}
use Rattle.kn_rule.specs.MarkSteps.{reserved_for}
use Rattle.kn_view.specs.Parts.{Part}
use Rattle.kn_view.proofs.Working.{works_only}
use Rattle.kn_view.proofs.known.Known.reserves.Goals as goal

pub returns : goal.returns
returns c = λ z by p a f owned log.
    let old = c.args.self.now.work in
    let v = c.self.view_is in
    works_only z owned log v (c.reserved-self-inside.ensures z f.word ∙ ap (λ (q : Part). reserved_for z q.work f.word q.work.child) v)
