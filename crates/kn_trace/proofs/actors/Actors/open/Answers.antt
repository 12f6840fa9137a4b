use Rattle.std.proofs.Common.{◌∙◌, ◌+◌, false, sym, ap, replicate, vec_len}
use Rattle.kn_script.specs.Scripts.{Scripted}
use Rattle.kn_collector.specs.Kept.{Kept}
use Rattle.kn_trace.specs.Traces.{ends}
use Rattle.kn_trace.proofs.Opening.{filled, first_counts, first_flags}
use Rattle.kn_trace.proofs.actors.Actors.open.Goals as goal

pub invariant_of-result : goal.invariant_of-result
invariant_of-result c =
    let now = c.args.script.now in
    let ms = c.in_ok-mutators.mutators.items in
    let new = c.in_ok-mutators.ensures.new in
    let threads = ap (λ (x : Scripted). x.sizes.threads) c.script.view_is in
    let each = threads ∙ sym c.requires.good.each_thread in
    let n = c.from-actors.result in (
      c.open-2.ensures.threads ∙ (each ∙ sym new.count),
      filled c.new-ended.result.items c.resize.new.self.items (vec_len c.new-ended.result) (n + 1) false c.new-ended.ensures.items
          c.new-ended.ensures.len c.in_ok-resize.ensures.items
          ∙ (ap (λ k. replicate (k + 1) false) (c.from-actors.ensures ∙ each)
          ∙ (first_flags now _ ms new
          ∙ ap (λ (k : Kept). ends ms k) (sym c.in_ok-collector.ensures.new))),
      filled c.new-answered.result.items c.resize-2.new.self.items (vec_len c.new-answered.result) (n + 1) 0 c.new-answered.ensures.items
          c.new-answered.ensures.len c.in_ok-resize-2.ensures.items
          ∙ (ap (λ k. replicate (k + 1) 0) (c.from-actors.ensures ∙ each) ∙ first_counts now _ ms new),
    )
