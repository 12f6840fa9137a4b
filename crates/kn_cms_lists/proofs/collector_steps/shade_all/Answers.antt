use Rattle.std.proofs.Common.{◌<◌, None, length, slice_index_or, take, ap, subst, sym, ◌∙◌}
use Rattle.std.specs.Option.{IfSome}
use Rattle.kn_cms_lists.proofs.Snapshots.{all_long}
use Rattle.kn_cms_lists.proofs.collector_steps.shade_all.Goals as goal

pub shade-requires : goal.shade-requires
shade-requires c = subst (λ l. IfSome (slice_index_or c.args.values.now c.loop-value.value-index None) (λ n. n < l))
    (sym (ap length c.loop-value.invariant ∙ all_long c.args.colours.now (take c.loop-value.value-index c.args.values.now)))
    (c.requires c.loop-value.value-index)
