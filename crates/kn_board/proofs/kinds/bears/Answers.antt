use Rattle.kn_rule.specs.Steps.{found}
use Rattle.kn_view.specs.Parts.{ground_of}
use Rattle.kn_board.proofs.ByPlace.{born_there}
use Rattle.kn_board.proofs.kinds.bears.Goals as goal

pub returns : goal.returns
returns c = λ page.
    let z = ground_of c.args.sizes.now c.args.layouts.now in let s = c.args.step in let f = found s.word page in
    born_there z s.by c.args.known.now c.makes_object.new.self s.place s.act f _ _ c.requires.asks c.address_in.result c.address_in.ensures
    (c.makes_object.ensures z s.act f)
