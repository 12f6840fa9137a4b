use Rattle.std.proofs.Common.{[], length, slice_index_or, take, ap, subst, sym, ◌∙◌}
use Rattle.kn_cms_lists.specs.Kept.{AreBelow}
use Rattle.kn_cms_lists.proofs.Snapshots.{rows_long}
use Rattle.kn_cms_lists.proofs.collector_steps.shade_rows.Goals as goal

pub shade_all-requires : goal.shade_all-requires
shade_all-requires c = subst (λ l. AreBelow l (slice_index_or c.args.rows.now c.loop-row.row-index []))
    (sym (ap length c.loop-row.invariant ∙ rows_long c.args.colours.now (take c.loop-row.row-index c.args.rows.now)))
    (c.requires c.loop-row.row-index)
