use Rattle.std.proofs.Common.{slice_set, true, sym, subst}
use Rattle.kn_store.specs.Search.{Search}
use Rattle.kn_store.specs.Agree.{KnowsSame}
use Rattle.kn_store.proofs.Ends.{over_is_told}
use Rattle.kn_store.proofs.Refusals.{knows_refused}
use Rattle.kn_store.proofs.finder.Finder.refuse.Goals as goal

pub returns-clause-knows : goal.returns-clause-knows
returns-clause-knows c = λ seen flags same.
    subst (λ (m : Search). KnowsSame m seen (slice_set flags c.args.frame.0 true)) (sym c.rules_out.ensures)
    (knows_refused c.args.self.now seen flags c.args.frame.0 c.requires.area c.requires.once same)

pub returns-clause-tells : goal.returns-clause-tells
returns-clause-tells c = over_is_told c.rules_out.new.self
