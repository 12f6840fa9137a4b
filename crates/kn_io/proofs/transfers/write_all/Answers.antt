use Rattle.std.proofs.Common.{arith}
use Rattle.kn_io.proofs.ToldLemmas.{Appends-trans, take-rest_append}
use Rattle.kn_io.proofs.transfers.write_all.Goals as goal

pub loop-done-preserved : goal.loop-done-preserved
loop-done-preserved g c =
    let more = Appends-trans _ _ _ _ _ c.loop-done.invariant.appends c.in-Ok.ensures.appends in
    record {
      within = omega (arith, c.in-Ok.ensures.within);
      appends = rw (← take-rest_append c.args.bytes.now c.loop-done.done c.in-Ok.n) more;
      without_fault = cc c.in-Ok.ensures.ok_without_fault;
    }
