use Rattle.kn_rule.specs.Steps.{found}
use Rattle.kn_view.specs.Parts.{ground_of}
use Rattle.kn_board.proofs.kinds.stores.Goals as goal

pub returns-clause-field : goal.returns-clause-field
returns-clause-field c = λ page.
    let s = c.args.step in
    c.stores_word.ensures (ground_of c.args.sizes.now c.args.layouts.now) s.place s.act (found s.word page)

pub returns-clause-global : goal.returns-clause-global
returns-clause-global c = λ page.
    let s = c.args.step in
    c.stores_word.ensures (ground_of c.args.sizes.now c.args.layouts.now) s.place s.act (found s.word page)
