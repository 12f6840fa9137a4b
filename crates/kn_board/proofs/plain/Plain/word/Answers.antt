use Rattle.std.proofs.Common.{sym, subst}
use Rattle.kn_rule.specs.Places.{Within}
use Rattle.kn_board.specs.World.{World}
use Rattle.kn_board.proofs.plain.Plain.word.Goals as goal

pub index-requires : goal.index-requires
index-requires g c = let b = c.self.inside in
    (b.sizes, c.self.invariant.0.0.sizes, c.self.invariant.2, subst (λ (w : World). Within w.heap.sizes c.args.place) (sym c.self.view_is) c.requires)
