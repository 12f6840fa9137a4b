use Rattle.std.proofs.Common.{sym, ap, ◌∙◌}
use Rattle.kn_collector.specs.Kept.{Kept}
use Rattle.kn_collector.specs.Stages.{code_at}
use Rattle.kn_collector.proofs.Allowing.{code_is}
use Rattle.kn_collector.proofs.collector.Collector.code.Goals as goal

pub returns-clause-stored : goal.returns-clause-stored
returns-clause-stored c a agrees =
    let k : Kept = c.args.self.now in
    let stage = ap (λ (x : Kept). code_at x.stage) c.self.view_is in
    code_is agrees k.stage (λ i. k.stage) ∙ (sym stage ∙ sym c.code_at.ensures)
