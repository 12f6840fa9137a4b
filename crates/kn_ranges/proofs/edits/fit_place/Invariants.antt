use Rattle.std.proofs.Common.{◌<◌, ◌⊎◌, take}
use Rattle.std.specs.List.{AllByRecursion}
use Rattle.kn_ranges.proofs.edits.fit_place.Given as goal

abbrev pub invariant-loop-place : goal.invariant-loop-place
invariant-loop-place l = AllByRecursion (λ span. (span.start < l.low) ⊎ (span.len < l.n)) (take l.place l.spans)
