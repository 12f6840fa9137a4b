-- The words of a frame, and the frame of a word.
use Rattle.std.specs.Prelude.{ℕ, zero, suc, cond, nat_le, Option, Some, None}
use Rattle.kn_base.specs.declared.numbers.Span.{Span}
use Rattle.kn_base.specs.declared.heap.Sizes.{Sizes}
use Rattle.kn_base.specs.Sizes.{frame_count, span_of_frame}

abbrev pub span_or : Option Span → Span
span_or None = record { start = 0; len = 0 }
span_or (Some span) = span

-- the words of frame p; no word past the last frame
abbrev pub frame_span : Sizes → ℕ → Span
frame_span z p = span_or (span_of_frame z p)

-- the last of the first n frames that begins at or before an address
abbrev pub frame_before : Sizes → ℕ → ℕ → ℕ
frame_before z a zero = 0
frame_before z a (suc n) = cond (nat_le (frame_span z n).start a) n (frame_before z a n)

-- the frame that an address lies in
abbrev pub frame_at : Sizes → ℕ → ℕ
frame_at z a = frame_before z a (frame_count z)
