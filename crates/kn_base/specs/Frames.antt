-- Where the frames of a heap lie.
use Rattle.std.specs.Prelude.{◌≡◌, ℕ, ◌+◌, ◌<◌, ◌≤◌, List, [], ◌∷◌, ◌++◌, Some, None, IsSome, slice_get}
use Rattle.std.specs.List.{repeat}
use Rattle.kn_base.specs.declared.numbers.Span.{Span}
use Rattle.kn_base.specs.declared.heap.Sizes.{Sizes}
use Rattle.kn_base.specs.Sizes.{frame_count, word_count, span_of_frame}
use Rattle.kn_base.specs.Spans.{IsSpan, end_of}

-- the words of each frame, in the order of their numbers: small ones, then large ones, then extra ones
abbrev pub frame_lengths : Sizes → List ℕ
frame_lengths z = repeat z.small (z.small_words ∷ []) ++ (repeat z.large (z.large_words ∷ []) ++ repeat z.extra (z.extra_words ∷ []))

-- spans of these lengths, the first one from an address on and each other one from the end of the one before
abbrev pub laid_from : ℕ → List ℕ → List Span
laid_from start [] = []
laid_from start (len ∷ lengths) = record { start = start; len = len } ∷ laid_from (start + len) lengths

-- the frames in the order of their numbers, from address 1 on
abbrev pub frame_spans : Sizes → List Span
frame_spans z = laid_from 1 (frame_lengths z)

-- a frame has a word, and its words are words of the heap
abbrev pub LiesInHeap : Sizes → Span → Type 0
LiesInHeap z frame = (0 < frame.len) × (1 ≤ frame.start) × (end_of frame ≤ 1 + word_count z)

-- each number below the number of frames has its frame and no other has one; the frames are those laid one after another, apart,
-- and within the words of the heap
pub record FramesLie (z : Sizes) : Type 0 where
  pub laid : (p : ℕ) → span_of_frame z p ≡ slice_get (frame_spans z) p
  pub some : (p : ℕ) → p < frame_count z → IsSome (span_of_frame z p)
  pub none : (p : ℕ) → frame_count z ≤ p → span_of_frame z p ≡ None
  pub span : (p : ℕ) (frame : Span) → span_of_frame z p ≡ Some frame → IsSpan frame
  pub next : (p : ℕ) (frame behind : Span) → span_of_frame z p ≡ Some frame → span_of_frame z (p + 1) ≡ Some behind → behind.start ≡ end_of frame
  pub apart : (p q : ℕ) (frame later : Span) → p < q → span_of_frame z p ≡ Some frame → span_of_frame z q ≡ Some later →
      end_of frame ≤ later.start
  pub within : (p : ℕ) (frame : Span) → span_of_frame z p ≡ Some frame → LiesInHeap z frame
