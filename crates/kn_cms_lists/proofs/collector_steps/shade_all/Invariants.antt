use Rattle.std.proofs.Common.{◌≡◌, take}
use Rattle.kn_cms_lists.specs.Kept.{all_shaded}
use Rattle.kn_cms_lists.proofs.collector_steps.shade_all.Given as goal

abbrev pub invariant-loop-value : goal.invariant-loop-value
invariant-loop-value l = l.colours ≡ all_shaded l.initial.colours (take l.value-index l.values)
