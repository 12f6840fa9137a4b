-- Frames lie one after another.
use Rattle.std.proofs.Common.{◌≡◌, ℕ, zero, suc, ◌+◌, ◌-◌, ◌*◌, ◌<◌, ◌≤◌, List, [], ◌∷◌, ◌++◌, append-nil, Option, Some}
use Rattle.std.proofs.Common.{None, sym, ap, ◌∙◌, subst, inl, inr, refl, arith}
use Rattle.std.specs.Prelude.{IfSome, IsSome, slice_get}
use Rattle.std.specs.List.{repeat}
use Rattle.std.proofs.Math.Nat.{mul-le-mul_right}
use Rattle.std.proofs.lemmas.Bool.{lt-ltb, le-ltb, cases_lt}
use Rattle.kn_base.specs.declared.numbers.Span.{Span}
use Rattle.kn_base.specs.declared.heap.Sizes.{Sizes}
use Rattle.kn_base.specs.Spans.{IsSpan, end_of}
use Rattle.kn_base.specs.Sizes.{IsGood, frame_count, nth_span, span_of_extra, span_of_large, span_of_frame}
use Rattle.kn_base.specs.Frames.{FramesLie, LiesInHeap, frame_lengths, frame_spans, laid_from}

-- what holds of an element that is there
of_found : (P : Span → Type 0) (found : Option Span) (span : Span) → found ≡ Some span → IfSome found P → P span
of_found P found span e h = subst (λ o. IfSome o P) e h

-- a weaker fact of an element that is there
weaker : (P Q : Span → Type 0) (found : Option Span) → ((span : Span) → P span → Q span) → IfSome found P → IfSome found Q
weaker P Q None f h = tt
weaker P Q (Some span) f h = f span h

-- spans of one length, and others behind them
module _ (len : ℕ) where
  starts_at : (start next : ℕ) → start ≡ next →
      ◌≡◌ {A = Option Span} (Some (record { start = start; len = len })) (Some (record { start = next; len = len }))
  starts_at start next e = ap (λ s. let span : Span = record { start = s; len = len } in Some span) e

  -- one of those
  laid-here : (start n : ℕ) (behind : List ℕ) (p : ℕ) → p < n →
      slice_get (laid_from start (repeat n (len ∷ []) ++ behind)) p ≡ Some (nth_span start len p)
  laid-here start zero behind p h = absurd (omega arith)
  laid-here start (suc n) behind zero h = starts_at start (start + 0 * len) (omega arith)
  laid-here start (suc n) behind (suc p) h = laid-here (start + len) n behind p (omega arith)
      ∙ starts_at (start + len + p * len) (start + suc p * len) (grind arith)

  -- one of the others
  laid-past : (start n : ℕ) (behind : List ℕ) (p : ℕ) → n ≤ p
      → slice_get (laid_from start (repeat n (len ∷ []) ++ behind)) p ≡ slice_get (laid_from (start + n * len) behind) (p - n)
  laid-past start zero behind p h =
      let first : start ≡ start + 0 * len = omega arith in
      let place : p ≡ p - 0 = omega arith in
      ap (λ s. slice_get (laid_from s behind) p) first ∙ ap (slice_get (laid_from (start + 0 * len) behind)) place
  laid-past start (suc n) behind zero h = absurd (omega arith)
  laid-past start (suc n) behind (suc p) h =
      let first : start + len + n * len ≡ start + suc n * len = grind arith in
      let place : p - n ≡ suc p - suc n = omega arith in
      laid-past (start + len) n behind p (omega arith) ∙ ap (λ s. slice_get (laid_from s behind) (p - n)) first
      ∙ ap (slice_get (laid_from (start + suc n * len) behind)) place

-- no span that is laid from an address on begins before it
laid_behind : (start : ℕ) (lengths : List ℕ) (p : ℕ) → IfSome (slice_get (laid_from start lengths) p) (λ span. start ≤ span.start)
laid_behind start [] p = tt
laid_behind start (len ∷ lengths) zero = omega arith
laid_behind start (len ∷ lengths) (suc p) =
    weaker (λ span. start + len ≤ span.start) (λ span. start ≤ span.start) (slice_get (laid_from (start + len) lengths) p) (λ span h. omega arith)
    (laid_behind (start + len) lengths p)

-- each begins where the one before ends
laid_next : (start : ℕ) (lengths : List ℕ) (p : ℕ)
    → IfSome (slice_get (laid_from start lengths) p) (λ span. IfSome (slice_get (laid_from start lengths) (suc p)) (λ behind. behind.start ≡ end_of span))
laid_next start [] p = tt
laid_next start (len ∷ []) zero = tt
laid_next start (len ∷ next ∷ lengths) zero = refl
laid_next start (len ∷ lengths) (suc p) = laid_next (start + len) lengths p

-- each ends before each later one begins
laid_apart : (start : ℕ) (lengths : List ℕ) (p q : ℕ) → p < q
    → IfSome (slice_get (laid_from start lengths) p) (λ span. IfSome (slice_get (laid_from start lengths) q) (λ later. end_of span ≤ later.start))
laid_apart start [] p q h = tt
laid_apart start (len ∷ lengths) p zero h = absurd (omega arith)
laid_apart start (len ∷ lengths) zero (suc q) h = laid_behind (start + len) lengths q
laid_apart start (len ∷ lengths) (suc p) (suc q) h = laid_apart (start + len) lengths p q (omega arith)

-- one of several frames of an area ends within the area
nth_within : (words count n : ℕ) → n < count → n * words + words ≤ count * words
nth_within words count n h =
    let rows : (n + 1) * words ≤ count * words = mul-le-mul_right words (let l : n + 1 ≤ count = omega arith in l) in
    omega arith

module _ (z : Sizes) where
  -- an extra frame, as the last row
  extra_laid : (start n : ℕ) → start ≡ 1 + z.small * z.small_words + z.large * z.large_words
      → span_of_extra z n ≡ slice_get (laid_from start (repeat z.extra (z.extra_words ∷ []))) n
  extra_laid start n e =
      let extra = repeat z.extra (z.extra_words ∷ []) in
      let row : extra ++ [] ≡ extra = append-nil extra in
      subst (λ s. span_of_extra z n ≡ slice_get (laid_from s extra) n) (sym e)
      (subst (λ r. span_of_extra z n ≡ slice_get (laid_from (1 + z.small * z.small_words + z.large * z.large_words) r) n) row (
      elim (cases_lt n z.extra) [
        | inl here ↦ rw (lt-ltb n z.extra here) (sym (laid-here z.extra_words (1 + z.small * z.small_words + z.large * z.large_words) z.extra [] n here))
        | inr past ↦ rw (le-ltb n z.extra past) (sym (laid-past z.extra_words (1 + z.small * z.small_words + z.large * z.large_words) z.extra [] n past))
      ]
      ))

  -- the frames are those that are laid one after another
  frame_laid : (p : ℕ) → span_of_frame z p ≡ slice_get (frame_spans z) p
  frame_laid p =
      let large = repeat z.large (z.large_words ∷ []) in
      let extra = repeat z.extra (z.extra_words ∷ []) in
      elim (cases_lt p z.small) [
        | inl small ↦ rw (lt-ltb p z.small small) (sym (laid-here z.small_words 1 z.small (large ++ extra) p small))
        | inr more ↦
            rw (le-ltb p z.small more, laid-past z.small_words 1 z.small (large ++ extra) p more) (elim (cases_lt (p - z.small) z.large) [
              | inl here ↦ rw (lt-ltb (p - z.small) z.large here)
                  (sym (laid-here z.large_words (1 + z.small * z.small_words) z.large extra (p - z.small) here))
              | inr most ↦
                  rw (le-ltb (p - z.small) z.large most, laid-past z.large_words (1 + z.small * z.small_words) z.large extra (p - z.small) most)
                  (extra_laid (1 + z.small * z.small_words + z.large * z.large_words) (p - z.small - z.large) refl)
            ])
      ]

  -- each number below the number of frames has a frame
  frame_below : (p : ℕ) → p < frame_count z → IsSome (span_of_frame z p)
  frame_below p h =
      elim (cases_lt p z.small) [
        | inl small ↦ rw (lt-ltb p z.small small) refl
        | inr more ↦ rw (le-ltb p z.small more) (elim (cases_lt (p - z.small) z.large) [
          | inl large ↦ rw (lt-ltb (p - z.small) z.large large) refl
          | inr most ↦ rw (le-ltb (p - z.small) z.large most, lt-ltb (p - z.small - z.large) z.extra (omega arith)) refl
        ])
      ]

  -- and no other number has one
  pub frame_past : (p : ℕ) → frame_count z ≤ p → span_of_frame z p ≡ None
  frame_past p h = rw (le-ltb p z.small (omega arith), le-ltb (p - z.small) z.large (omega arith), le-ltb (p - z.small - z.large) z.extra (omega arith)) refl

  -- a frame has a word, and lies among the words of the heap
  module _ (g : IsGood z) where
    extra_in_heap : (n : ℕ) → IfSome (span_of_extra z n) (LiesInHeap z)
    extra_in_heap n =
        elim (cases_lt n z.extra) [
          | inl h ↦ rw (lt-ltb n z.extra h) (omega (arith, g.of_frames.extra_words.0), omega arith, omega (arith, nth_within z.extra_words z.extra n h))
          | inr h ↦ rw (le-ltb n z.extra h) tt
        ]

    large_in_heap : (n : ℕ) → IfSome (span_of_large z n) (LiesInHeap z)
    large_in_heap n =
        elim (cases_lt n z.large) [
          | inl h ↦ rw (lt-ltb n z.large h) (omega (arith, g.of_frames.large_words.0), omega arith, omega (arith, nth_within z.large_words z.large n h))
          | inr h ↦ rw (le-ltb n z.large h) (extra_in_heap (n - z.large))
        ]

    frame_in_heap : (p : ℕ) → IfSome (span_of_frame z p) (LiesInHeap z)
    frame_in_heap p =
        elim (cases_lt p z.small) [
          | inl h ↦ rw (lt-ltb p z.small h) (omega (arith, g.of_frames.small_words.0), omega arith, omega (arith, nth_within z.small_words z.small p h))
          | inr h ↦ rw (le-ltb p z.small h) (large_in_heap (p - z.small))
        ]

    -- so it is a span
    pub frame_is_span : (p : ℕ) → IfSome (span_of_frame z p) IsSpan
    frame_is_span p = weaker (LiesInHeap z) IsSpan (span_of_frame z p) (λ span h. (h.0, omega (arith, h.2, g.of_frames.words.1))) (frame_in_heap p)

    pub frames_lie_so : FramesLie z
    frames_lie_so = record {
      laid = frame_laid;
      some = frame_below;
      none = frame_past;
      span = λ p frame e. of_found IsSpan (span_of_frame z p) frame e (frame_is_span p);
      next = λ p frame behind e f.
          let later : suc p ≡ p + 1 = omega arith in
          let found = of_found (λ span. IfSome (slice_get (frame_spans z) (suc p)) (λ behind. behind.start ≡ end_of span)) (slice_get (frame_spans z) p)
          frame (sym (frame_laid p) ∙ e) (laid_next 1 (frame_lengths z) p) in
          of_found (λ behind. behind.start ≡ end_of frame) (slice_get (frame_spans z) (suc p)) behind
          (ap (slice_get (frame_spans z)) later ∙ sym (frame_laid (p + 1)) ∙ f) found;
      apart = λ p q frame later h e f.
          let found = of_found (λ span. IfSome (slice_get (frame_spans z) q) (λ later. end_of span ≤ later.start)) (slice_get (frame_spans z) p) frame
          (sym (frame_laid p) ∙ e) (laid_apart 1 (frame_lengths z) p q h) in
          of_found (λ later. end_of frame ≤ later.start) (slice_get (frame_spans z) q) later (sym (frame_laid q) ∙ f) found;
      within = λ p frame e. of_found (LiesInHeap z) (span_of_frame z p) frame e (frame_in_heap p);
    }
