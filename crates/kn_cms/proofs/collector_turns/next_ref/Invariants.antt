use Rattle.std.proofs.Common.{◌≢◌, ℕ, ◌<◌, ◌≤◌, Some}
use Rattle.kn_layout.specs.declared.layouts.FieldKind.TheVariants.{Ref as of_ref}
use Rattle.kn_cms_lists.specs.Kept.{kept_kind}
use Rattle.kn_cms.proofs.collector_turns.next_ref.Given as goal

abbrev pub invariant-loop-field : goal.invariant-loop-field
invariant-loop-field l = (m : ℕ) → l.from ≤ m → m < l.field → kept_kind l.lists l.n m ≢ Some of_ref
