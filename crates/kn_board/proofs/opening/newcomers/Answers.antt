use Rattle.std.proofs.Common.{[], refl, arith}
use Rattle.std.proofs.lemmas.Grind.{common_steps}
use Rattle.kn_view.specs.Parts.{ground_of}
use Rattle.kn_board.proofs.opening.newcomers.Goals as goal

pub loop-preserved : goal.loop-preserved
loop-preserved c =
    let made = c.in_ok-open.ensures (ground_of c.args.sizes.now []) refl in
    grind (arith, common_steps)
