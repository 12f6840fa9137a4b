use Rattle.std.proofs.Common.{◌≡◌, ◌≢◌, ℕ, ◌*◌, ◌<◌, length, slice_index_or}
use Rattle.kn_cms_rule.specs.declared.stages.Colour.TheVariants.{Gray, White}
use Rattle.kn_cms_lists.specs.Flags.{AreFlagged}
use Rattle.kn_cms_lists.proofs.colours.Colours.least_gray.Given as goal

abbrev pub invariant-loop-block : goal.invariant-loop-block
invariant-loop-block l = record {
  same : l.self-inside.list.items ≡ l.fn.self;
  flags : AreFlagged l.self-inside.list.items l.self-inside.flags.items;
  long : length l.self-inside.flags.items ≡ l.block-end;
  before : (m : ℕ) → m < 128 * l.block → slice_index_or l.self-inside.list.items m White ≢ Gray;
}
