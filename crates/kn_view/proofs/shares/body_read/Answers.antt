use Rattle.std.proofs.Common.{◌∙◌, ap, sym}
use Rattle.kn_rule.specs.MarkSteps.{arrived, body_read}
use Rattle.kn_view.proofs.shares.body_read.Goals as goal

pub returns-in-Cell : goal.returns-in-Cell
returns-in-Cell c = λ z same.
    let work = c.args.work in
    let n = c.args.word in
    c.arrived.ensures z n same ∙ ap (arrived z work n) c.held_in.ensures ∙ ap (body_read z work n) (sym c.in-Cell.is)
