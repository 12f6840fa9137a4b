use Rattle.kn_keep_heap.proofs.SmallWords.{locals_are_addresses, phases_are_small}
use Rattle.kn_keep_heap.proofs.laws.words_are_small.Goals as goal

pub returns-clause-phases : goal.returns-clause-phases
returns-clause-phases c = phases_are_small

pub returns-clause-locals : goal.returns-clause-locals
returns-clause-locals c = locals_are_addresses
