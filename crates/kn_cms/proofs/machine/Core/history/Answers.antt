use Rattle.std.proofs.Common.{ap, subst, ◌∙◌}
use Rattle.kn_cms.specs.declared.machine.Core.TheInside.{Inside}
use Rattle.kn_cms_lists.specs.Kept.{Kept}
use Rattle.kn_cms_rule.specs.Words.{one_framed}
use Rattle.kn_cms_rule.specs.Calls.{IsCoreHistory}
use Rattle.kn_cms.proofs.Standing.{history_told}
use Rattle.kn_cms.proofs.machine.Core.history.Goals as goal

pub returns-clause-legal : goal.returns-clause-legal
returns-clause-legal c = subst (λ (k : Kept). IsCoreHistory (one_framed k.ground) c.as_slice.result.now) c.self.view_is
    (history_told c.self.inside.lists c.self.invariant c.as_slice.result.now
    (c.as_slice.ensures ∙ ap (λ (x : Inside). x.lists.history.list) c.self-inside.view_is))
