use Rattle.kn_alloc.proofs.Agreements.{opens, stays_as_pages_move, stays_while_idle}
use Rattle.kn_alloc.proofs.laws.agreement_laws.Goals as goal

pub returns : goal.returns
returns c = record { opens = opens; moves = stays_as_pages_move; outlasts = stays_while_idle }
