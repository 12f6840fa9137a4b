use Rattle.std.proofs.Common.{Some, ap, subst, sym}
use Rattle.kn_graph.specs.declared.calls.Call.TheVariants.{Get}
use Rattle.kn_graph.specs.Graph.{pointers}
use Rattle.kn_graph.specs.Answers.{reads}
use Rattle.kn_cms_rule.specs.Words.{one_framed}
use Rattle.kn_cms.specs.Moves.{IsPlanOf}
use Rattle.kn_cms.proofs.CallTurns.{refusal_told}
use Rattle.kn_cms.proofs.plans.plan_get.Goals as goal

pub returns-in-Err-clause-is : goal.returns-in-Err-clause-is
returns-in-Err-clause-is c =
    let k = c.args.lists.now in let z = one_framed k.ground in
    subst (IsPlanOf k c.args.thread (Get c.args.r c.args.s c.args.field)) (sym c.told.ensures)
    (λ s h. ap (λ a. Some a) (refusal_told k s h c.args.thread c.args.s c.args.field c.in-Err.reply c.in-Err.ensures.object
    (λ n. reads z c.args.thread s.graph c.args.r (pointers s.graph n c.args.field))))
