-- How many free spans lie between two places.
use Rattle.std.proofs.Common.{ℕ, ◌+◌, ◌*◌, ◌≤◌, List, [], ◌∷◌, length, arith}
use Rattle.kn_base.specs.declared.numbers.Span.{Span}
use Rattle.kn_base.specs.Spans.{end_of}
use Rattle.kn_base.specs.SpanLists.{StandApart}
use Rattle.kn_holds.specs.Holds.{FreeListsAreShort}

-- each takes two words at least, its own and the one behind it
pub two_each : (low high : ℕ) (spans : List Span) → low ≤ high → StandApart low high spans → low + 2 * length spans ≤ high
two_each low high [] h a = omega arith
two_each low high (s ∷ spans) h a =
    let rest = two_each (end_of s + 1) high spans (omega (arith, a.2)) a.3 in
    omega (arith, a.0, a.1, rest)

-- a free list of a frame of two words or more has fewer spans than the frame has words
pub short_lists : FreeListsAreShort
short_lists frame free two list =
    let each = two_each frame.start (end_of frame + 1) free (omega arith) list in
    omega (arith, each)
