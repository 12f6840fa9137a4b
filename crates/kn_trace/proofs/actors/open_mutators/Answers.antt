use Rattle.std.proofs.Common.{◌+◌, List, sym, subst}
use Rattle.kn_mutator.specs.Mutating.{Mutating}
use Rattle.kn_trace.specs.Between.{AreNew}
use Rattle.kn_trace.proofs.Opening.{one_new}
use Rattle.kn_trace.proofs.actors.open_mutators.Goals as goal

pub loop-thread-preserved : goal.loop-thread-preserved
loop-thread-preserved c =
    let now = c.args.script.now in
    let old = c.loop-thread in
    subst (λ (x : List Mutating). AreNew now (old.thread + 1) x) (sym {A = List Mutating} c.in_ok-push.ensures.items)
    (one_new now old.thread old.mutators.items c.in_ok-open.field-0 old.invariant c.in_ok-open.ensures.new c.in_ok-open.ensures.agrees)
