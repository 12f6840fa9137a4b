use Rattle.kn_store.specs.Search.{KeepsBest}
use Rattle.kn_store.proofs.best.best_of.Given as goal

abbrev pub invariant-loop-number : goal.invariant-loop-number
invariant-loop-number l = KeepsBest l.class l.seen l.number l.best.number l.best.rank
