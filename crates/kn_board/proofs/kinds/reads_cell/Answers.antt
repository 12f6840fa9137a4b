use Rattle.std.proofs.Common.{refl}
use Rattle.kn_rule.specs.Steps.{found}
use Rattle.kn_view.specs.Parts.{ground_of}
use Rattle.kn_board.proofs.kinds.reads_cell.Goals as goal

pub returns : goal.returns
returns c = λ page.
    let z = ground_of c.args.sizes.now c.args.layouts.now in let s = c.args.step in let f = found s.word page in
    c.reads_cell.ensures z s.by s.place s.act f refl refl
