use Rattle.std.proofs.Common.{◌∙◌, ap, sym}
use Rattle.kn_rule.specs.MarkedHeap.{set_holds}
use Rattle.kn_rule.specs.MarkSteps.{arrived, root_read}
use Rattle.kn_view.proofs.shares.root_read.Goals as goal

pub returns-in-Set : goal.returns-in-Set
returns-in-Set c = λ z sizes same.
    let work = c.args.work in
    let n = c.args.word in
    c.arrived.ensures z n same ∙ ap (arrived z work n) c.held_in_set.ensures
    ∙ ap (λ x. arrived z work n (set_holds x c.in-Set.set n)) (sym sizes) ∙ ap (root_read z work n) (sym c.in-Set.is)
