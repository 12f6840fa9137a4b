use Rattle.std.proofs.Common.{refl}
use Rattle.kn_rule.specs.Steps.{found}
use Rattle.kn_view.specs.Parts.{ground_of}
use Rattle.kn_board.proofs.ByPlace.{state_there}
use Rattle.kn_board.proofs.kinds.loads_state.Goals as goal

pub returns : goal.returns
returns c = λ page.
    let z = ground_of c.args.sizes.now c.args.layouts.now in let s = c.args.step in let f = found s.word page in
    state_there z s.by c.args.known.now c.loads_state.new.self s.place s.act f c.requires.asks c.mutator_in.result c.mutator_in.ensures
    (c.loads_state.ensures z s.by s.act f refl)
