-- The flags of blocks of objects: which of them may have a gray object.
use Rattle.std.specs.Prelude.{◌≡◌, ℕ, ◌+◌, ◌/◌, ◌<◌, ◌^◌, Bool, true, false, List, length, slice_index_or}
use Rattle.kn_cms_rule.specs.declared.stages.Colour.{Colour}
use Rattle.kn_cms_rule.specs.declared.stages.Colour.TheVariants.{White, Gray}

-- each block of 128 objects has a flag, and the flag of a gray object's block is set
pub record AreFlagged (colours : List Colour) (flags : List Bool) : Type 0 where
  pub short : length colours < 2 ^ 32
  pub long : length flags ≡ length colours / 128 + 1
  pub flagged : (n : ℕ) → slice_index_or colours n White ≡ Gray → slice_index_or flags (n / 128) false ≡ true
