use Rattle.std.proofs.Common.{◌≡◌, List, IfOk, ap, ◌∙◌, subst}
use Rattle.kn_graph.specs.declared.calls.Call.{Call}
use Rattle.kn_script.specs.Scripts.{Scripted}
use Rattle.kn_mutator.proofs.Opens.{calls_read}
use Rattle.kn_mutator.proofs.mutator.calls_of.Goals as goal

pub returns : goal.returns
returns c = subst (λ (l : List Call). IfOk c.from_slice.result (λ calls. calls.items ≡ l))
    (c.as_slice.ensures
    ∙ calls_read c.script.inside.threads.items c.args.script.now.threads c.from.result c.args.i c.index.result.now c.requires
    (ap (λ (s : Scripted). s.threads) c.script.view_is) c.from.ensures c.index.ensures) c.from_slice.ensures.items
