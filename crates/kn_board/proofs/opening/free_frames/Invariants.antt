use Rattle.std.proofs.Common.{◌≡◌, ℕ, ◌<◌, length}
use Rattle.kn_rule.specs.FrameSpans.{frame_span}
use Rattle.kn_board.specs.Stored.{hold_at, nobody}
use Rattle.kn_board.proofs.opening.free_frames.Given as goal

abbrev pub invariant-loop-number : goal.invariant-loop-number
invariant-loop-number l =
    (length l.holds.items ≡ l.number) × ((p : ℕ) → p < l.number → hold_at l.holds.items p ≡ nobody (frame_span l.sizes p).len)
