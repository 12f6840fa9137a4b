use Rattle.std.proofs.Common.{◌≢◌, ℕ, ◌<◌, ◌≤◌, slice_index_or}
use Rattle.kn_cms_rule.specs.declared.stages.Colour.TheVariants.{Gray, White}
use Rattle.kn_cms_lists.proofs.colours.first_gray.Given as goal

abbrev pub invariant-loop-n : goal.invariant-loop-n
invariant-loop-n l = (m : ℕ) → l.from ≤ m → m < l.n → slice_index_or l.list m White ≢ Gray
