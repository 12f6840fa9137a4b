use Rattle.std.proofs.Common.{sym, subst}
use Rattle.kn_store.specs.Agree.{KnowsSame}
use Rattle.kn_alloc.specs.Keeps.{Keeps}
use Rattle.kn_alloc.proofs.alloc.ThreadAlloc.refuses.Goals as goal

pub returns-clause-knows : goal.returns-clause-knows
returns-clause-knows c = λ seen flags same.
    c.refuse.ensures.knows seen flags (subst (λ (m : Keeps). KnowsSame m.search seen flags) (sym c.self.view_is) same)
