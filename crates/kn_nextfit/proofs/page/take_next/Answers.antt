use Rattle.std.proofs.lemmas.Bool.{true≢false}
use Rattle.kn_nextfit.proofs.NextFit.{short_from}
use Rattle.kn_nextfit.proofs.page.take_next.Goals as goal

pub returns-in-Some-clause-none : goal.returns-in-Some-clause-none
returns-in-Some-clause-none c = (
  λ none. absurd (true≢false none),
  λ short. c.in-Some.ensures.none.1 (short_from c.args.cursor c.args.n c.args.free.now.spans short),
)
