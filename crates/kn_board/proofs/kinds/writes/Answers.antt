use Rattle.kn_rule.specs.Steps.{found}
use Rattle.kn_view.specs.Parts.{ground_of}
use Rattle.kn_board.proofs.ByPlace.{written_there}
use Rattle.kn_board.proofs.kinds.writes.Goals as goal

pub returns : goal.returns
returns c = λ page.
    let z = ground_of c.args.sizes.now c.args.layouts.now in let s = c.args.step in let f = found s.word page in
    written_there z s.by c.args.known.now c.writes_local.new.self s.place s.act f _ _ c.requires.asks c.local_in.result c.stored_by.result
    c.local_in.ensures c.stored_by.ensures (c.writes_local.ensures z f)
