use Rattle.kn_view.specs.Parts.{ground_of}
use Rattle.kn_board.proofs.kinds.reads.Goals as goal

pub returns : goal.returns
returns c = λ page.
    let s = c.args.step in
    c.loads_global.ensures (ground_of c.args.sizes.now c.args.layouts.now) s.place s.act page
