use Rattle.std.proofs.Common.{◌≡◌, take}
use Rattle.kn_cms_lists.specs.Kept.{rows_shaded}
use Rattle.kn_cms_lists.proofs.collector_steps.shade_rows.Given as goal

abbrev pub invariant-loop-row : goal.invariant-loop-row
invariant-loop-row l = l.colours ≡ rows_shaded l.initial.colours (take l.row-index l.rows)
