use Rattle.std.proofs.Common.{refl}
use Rattle.kn_rule.specs.Steps.{found}
use Rattle.kn_view.specs.Parts.{ground_of}
use Rattle.kn_board.proofs.ByPlace.{gray_there}
use Rattle.kn_board.proofs.kinds.takes_gray.Goals as goal

pub returns : goal.returns
returns c = λ page.
    let z = ground_of c.args.sizes.now c.args.layouts.now in let s = c.args.step in let f = found s.word page in
    gray_there z s.by c.args.known.now c.takes_gray.new.self s.place s.act f c.requires c.address_in.result c.address_in.ensures
    (c.takes_gray.ensures z s.by s.act f refl)
