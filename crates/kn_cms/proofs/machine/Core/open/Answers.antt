use Rattle.std.proofs.Common.{sym, subst}
use Rattle.kn_cms_rule.specs.State.{opening}
use Rattle.kn_cms.specs.Stands.{IsCore, StandsFor}
use Rattle.kn_cms_lists.specs.Kept.{Kept, calls_of_threads}
use Rattle.kn_cms.proofs.OpenedCore.{opening_is_core, opening_stands}
use Rattle.kn_cms.proofs.machine.Core.open.Goals as goal

pub invariant_of-result : goal.invariant_of-result
invariant_of-result c = subst IsCore (sym c.in_ok-lists.ensures) (opening_is_core c.args.script.now c.requires.good c.requires.calls)

pub returns-clause-opened : goal.returns-clause-opened
returns-clause-opened c = subst (λ (k : Kept). StandsFor k (opening (calls_of_threads c.args.script.now.threads))) (sym c.in_ok-lists.ensures)
    (opening_stands c.args.script.now c.requires.good c.requires.calls)
