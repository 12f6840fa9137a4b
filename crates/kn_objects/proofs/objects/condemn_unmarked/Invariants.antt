use Rattle.std.proofs.Common.{◌≡◌, ℕ, ◌<◌, ◌≤◌, false, slice_get, slice_index_or, vec_len}
use Rattle.std.specs.Option.{option_map}
use Rattle.kn_objects.specs.Kept.{condemned_unless}
use Rattle.kn_objects.proofs.objects.condemn_unmarked.Given as goal

abbrev pub invariant-loop-n : goal.invariant-loop-n
invariant-loop-n l = record {
  passed : (k : ℕ) → k < l.n → slice_get l.kept.items k ≡ option_map (condemned_unless (slice_index_or l.marks k false))
      (slice_get l.initial.kept.items k);
  ahead : (k : ℕ) → l.n ≤ k → slice_get l.kept.items k ≡ slice_get l.initial.kept.items k;
  len : vec_len l.kept ≡ vec_len l.initial.kept;
}
