use Rattle.kn_rule.specs.Steps.{found}
use Rattle.kn_view.specs.Parts.{ground_of}
use Rattle.kn_board.proofs.ByPlace.{went_there}
use Rattle.kn_board.proofs.kinds.goes.Goals as goal

pub returns : goal.returns
returns c = λ page.
    let z = ground_of c.args.sizes.now c.args.layouts.now in let s = c.args.step in let f = found s.word page in
    went_there z s.by c.args.known.now c.stores_state.new.self s.place s.act f c.requires c.stored_by.result c.stored_by.ensures
    (c.stores_state.ensures z s.by f)
