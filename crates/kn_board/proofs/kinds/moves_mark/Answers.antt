use Rattle.std.proofs.Common.{refl}
use Rattle.kn_rule.specs.Steps.{found}
use Rattle.kn_view.specs.Parts.{ground_of}
use Rattle.kn_board.proofs.ByPlace.{mark_there}
use Rattle.kn_board.proofs.kinds.moves_mark.Goals as goal

pub returns : goal.returns
returns c = λ page.
    let z = ground_of c.args.sizes.now c.args.layouts.now in let s = c.args.step in let f = found s.word page in
    mark_there z s.by c.args.known.now c.moves_mark.new.self s.place s.act f c.requires c.address_in.result c.address_in.ensures
    (c.moves_mark.ensures z s.by f refl refl)
