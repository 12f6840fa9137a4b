use Rattle.std.proofs.Common.{◌≡◌, ◌∙◌, suc, ◌+◌, [], length, get_or, set, take, ap, arith}
use Rattle.std.proofs.lemmas.List.{get_or_read}
use Rattle.kn_script.specs.Scripts.{counts_of}
use Rattle.kn_script.proofs.SizeLemmas.{counts-more}
use Rattle.kn_script.proofs.size_counts.count_calls.Goals as goal

pub loop-i-preserved : goal.loop-i-preserved
loop-i-preserved c =
    let threads = c.args.threads.now in
    let i = c.loop-i.i in
    let calls : c.as_slice.result.now ≡ get_or threads i [] =
    c.as_slice.ensures ∙ get_or_read threads i _ (omega arith) c.index-threads-i.is [] in
    let next : suc i ≡ i + 1 = omega arith in
    ap (λ ns. set ns i (length c.as_slice.result.now)) c.loop-i.invariant
    ∙ ap (λ cs. set (counts_of length 16 (take i threads)) i (length cs)) calls
    ∙ counts-more length 16 threads i (omega arith) (omega arith)
    ∙ ap (λ k. counts_of length 16 (take k threads)) next
