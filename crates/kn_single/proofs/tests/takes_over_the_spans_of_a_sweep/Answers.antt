use Rattle.std.proofs.Common.{ap, sym, ◌∙◌, arith}
use Rattle.kn_single.specs.SingleState.{words_behind}
use Rattle.kn_single.proofs.tests.takes_over_the_spans_of_a_sweep.Goals as goal

pub reset-requires : goal.reset-requires
reset-requires g c =
    let frame = ap (λ page. page.frame) c.in_ok-page.ensures in
    let spans = ap (λ ranges. ranges.spans) c.in_ok-swept.ensures in
    (4, omega (arith, ap (λ span. span.len) frame), spans ∙ ap (words_behind 4) (sym frame))
