use Rattle.std.proofs.Common.{◌+◌, [], take, arith}
use Rattle.kn_objects.specs.Marking.{IsHeldIn, IsHeldInRows}
use Rattle.kn_objects.proofs.Adding.{Adds-then, some-take}
use Rattle.kn_objects.proofs.marking.mark_rows.Goals as goal

pub loop-row-preserved : goal.loop-row-preserved
loop-row-preserved c =
    let rows = c.args.rows.now in
    let i = c.loop-row.row-index in
    Adds-then (IsHeldInRows (take (i + 1) rows)) (omega arith) c.loop-row.invariant c.mark_values-height.ensures
    (λ n. some-take (λ _ row. IsHeldIn row n) rows [] i (omega arith) (λ k (j, e). cc))
