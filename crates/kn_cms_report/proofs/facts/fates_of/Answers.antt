use Rattle.std.proofs.Common.{◌≡◌, ◌∙◌, ◌↔◌, Bool, List, [], ◌∷◌, true, false, get_or, length, ap, subst, sym, arith}
use Rattle.std.proofs.lemmas.List.{length-append}
use Rattle.kn_graph.specs.Epochs.{WasUnreachable}
use Rattle.kn_graph.specs.Graph.{empty_graph}
use Rattle.kn_cms_rule.specs.declared.stages.Stage.TheVariants.{Finished}
use Rattle.kn_cms_rule.specs.Words.{one_framed}
use Rattle.kn_cms_report.proofs.Fates.{fate_more}
use Rattle.kn_cms_report.proofs.facts.fates_of.Goals as goal

pub loop-k-preserved : goal.loop-k-preserved
loop-k-preserved c =
    let grown = c.in_ok-push.ensures.items in
    record {
      count = ap (λ (x : List Bool). length x) grown ∙ omega (arith, c.loop-k.invariant.count, length-append c.loop-k.flags.items (c.condemned.result ∷ []));
      each = λ s h j near.
          subst (λ (x : List Bool). (get_or x j false ≡ true)
          ↔ ((s.stage ≡ Finished) × WasUnreachable (one_framed c.args.core.now.ground) empty_graph s.history j)) (sym grown)
          (fate_more (λ j. (s.stage ≡ Finished) × WasUnreachable (one_framed c.args.core.now.ground) empty_graph s.history j)
          c.loop-k.flags.items c.loop-k.k c.condemned.result c.loop-k.invariant.count (c.loop-k.invariant.each s h) (c.condemned.ensures s h) j near);
    }

pub returns : goal.returns
returns c = λ s h.
    let whole : c.loop-k.k ≡ s.graph.born = omega (arith, c.loop-k-test.false, c.loop-k.auto.k-end, c.objects-k-end.ensures, h.cells.born) in
    record {
      count = c.loop-k.invariant.count ∙ whole;
      each = λ k near. c.loop-k.invariant.each s h k (omega (arith, near, whole));
    }
