use Rattle.std.proofs.Common.{refl}
use Rattle.kn_rule.specs.Steps.{found}
use Rattle.kn_view.specs.Parts.{ground_of}
use Rattle.kn_board.proofs.ByPlace.{set_there}
use Rattle.kn_board.proofs.kinds.moves_set.Goals as goal

pub returns : goal.returns
returns c = λ page.
    let z = ground_of c.args.sizes.now c.args.layouts.now in let s = c.args.step in let f = found s.word page in
    set_there z s.by c.args.known.now c.moves_set.new.self s.place s.act f c.requires c.set_in.result c.set_in.ensures
    (c.moves_set.ensures z s.by f refl)
