use Rattle.std.proofs.Common.{◌≡◌, ◌∙◌, suc, ◌+◌, [], get_or, set, take, ap, arith}
use Rattle.std.proofs.lemmas.List.{get_or_read}
use Rattle.kn_graph.specs.Counts.{births_among}
use Rattle.kn_script.specs.Scripts.{counts_of}
use Rattle.kn_script.proofs.SizeLemmas.{counts-more}
use Rattle.kn_script.proofs.size_counts.count_births.Goals as goal

pub loop-i-preserved : goal.loop-i-preserved
loop-i-preserved c =
    let threads = c.args.threads.now in
    let i = c.loop-i.i in
    let calls : c.as_slice.result.now ≡ get_or threads i [] =
    c.as_slice.ensures ∙ get_or_read threads i _ (omega arith) c.index-threads-i.is [] in
    let next : suc i ≡ i + 1 = omega arith in
    ap (λ ns. set ns i c.births_among.result) c.loop-i.invariant
    ∙ ap (λ n. set (counts_of births_among 16 (take i threads)) i n) (c.births_among.ensures ∙ ap births_among calls)
    ∙ counts-more births_among 16 threads i (omega arith) (omega arith)
    ∙ ap (λ k. counts_of births_among 16 (take k threads)) next
