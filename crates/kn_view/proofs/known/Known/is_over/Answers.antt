use Rattle.std.proofs.Common.{◌∙◌, sym}
use Rattle.kn_view.proofs.Searching.{done_but_last}
use Rattle.kn_view.proofs.known.Known.is_over.Goals as goal

pub loop-number-preserved : goal.loop-number-preserved
loop-number-preserved c =
    let v = c.args.self.now in
    done_but_last c.args.class v.seen v.refused c.area_of-from.result.0 c.loop-number.number c.loop-number-test.true
    (sym c.is_done_with.ensures ∙ c.if-not-is_done_with.false) ∙ c.loop-number.invariant
