use Rattle.std.proofs.Common.{sym}
use Rattle.kn_rule.specs.Steps.{found}
use Rattle.kn_view.specs.Parts.{ground_of}
use Rattle.kn_board.proofs.ByPlace.{phase_there}
use Rattle.kn_board.proofs.kinds.stores_phase.Goals as goal

pub returns : goal.returns
returns c = λ page.
    let z = ground_of c.args.sizes.now c.args.layouts.now in let s = c.args.step in let f = found s.word page in
    phase_there z s.by c.args.known.now c.stores_phase.new.self s.place s.act f _ _ c.requires.asks c.stored_by.result c.stored_by.ensures
    (c.stores_phase.ensures z s.place f (sym c.requires.wide.2))
