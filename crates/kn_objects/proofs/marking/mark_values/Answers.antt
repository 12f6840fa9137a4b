use Rattle.std.proofs.Common.{◌≡◌, ◌+◌, Some, None, take, arith}
use Rattle.kn_objects.specs.Marking.{IsHeldIn}
use Rattle.kn_objects.proofs.Adding.{Adds-then, some-take}
use Rattle.kn_objects.proofs.marking.mark_values.Goals as goal

pub loop-value-preserved : goal.loop-value-preserved
loop-value-preserved c =
    let values = c.args.values.now in
    let i = c.loop-value.value-index in
    Adds-then (IsHeldIn (take (i + 1) values)) (omega arith) c.loop-value.invariant c.mark_value-height.ensures
    (λ n. some-take (λ _ v. v ≡ Some n) values None i (omega arith) (λ k e. cc))
