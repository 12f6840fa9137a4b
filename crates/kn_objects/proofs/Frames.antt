-- Which frame has a word.
use Rattle.std.proofs.Common.{◌≡◌, ℕ, suc, ◌+◌, ◌-◌, ◌*◌, ◌/◌, ◌<◌, ◌≤◌, ◌⊎◌, inl, inr, cond, Some, ap, sym, ◌∙◌}
use Rattle.std.proofs.Common.{arith}
use Rattle.std.proofs.lemmas.Nat.{div-mul-add, mul-add-lt, row_fits}
use Rattle.std.proofs.lemmas.Option.{same_Some}
use Rattle.std.proofs.lemmas.Bool.Decides.{leb_tells}
use Rattle.kn_base.specs.declared.numbers.Span.{Span}
use Rattle.kn_base.specs.declared.heap.Sizes.{Sizes}
use Rattle.kn_base.specs.Spans.{end_of}
use Rattle.kn_base.specs.Sizes.{nth_span, span_of_extra, span_of_frame, span_of_large, word_count}

-- the place of a word among equal frames tells which one has it
pub frame_at : (p count each first word : ℕ) → p < count → first + p * each ≤ word → word < first + p * each + each → (p ≡ (word - first) / each)
    × (word - first < count * each)
frame_at p count each first word h low high =
    let place : word - first ≡ p * each + (word - first - p * each) = omega arith in
    let div : (word - first) / each ≡ p = ap (λ n. n / each) place ∙ div-mul-add p each (word - first - p * each) (omega arith) in
    (sym div, omega (arith, mul-add-lt p each (word - first - p * each) count h (omega arith)))

-- the frame that has a word is told by the place of the word
pub frame_number : (z : Sizes) (word p : ℕ) (words : Span) → p < z.small + z.large → span_of_frame z p ≡ Some words → words.start ≤ word →
    word < end_of words →
    ((p ≡ (word - 1) / z.small_words) × (word - 1 < z.small * z.small_words))
    ⊎ ((p ≡ z.small + (word - 1 - z.small * z.small_words) / z.large_words) × (z.small * z.small_words ≤ word - 1))
frame_number z word p words h is low high = elim (leb_tells (suc p) z.small) [
  | inl t ↦
      let same : nth_span 1 z.small_words p ≡ words = same_Some _ words
      (sym (ap (λ b. cond b (Some (nth_span 1 z.small_words p)) (span_of_large z (p - z.small))) t.0) ∙ is) in
      let start = ap (λ (s : Span). s.start) same in
      let len = ap (λ (s : Span). s.len) same in
      inl (frame_at p z.small z.small_words 1 word t.1 (omega arith) (omega arith))
  | inr t ↦
      let large : span_of_large z (p - z.small) ≡ Some words = sym (ap
      (λ b. cond b (Some (nth_span 1 z.small_words p)) (span_of_large z (p - z.small))) t.0) ∙ is in
      elim (leb_tells (suc (p - z.small)) z.large) [
        | inl u ↦
            let first : ℕ = 1 + z.small * z.small_words in
            let rest = span_of_extra z (p - z.small - z.large) in
            let same : nth_span first z.large_words (p - z.small) ≡ words =
            same_Some _ words (sym (ap (λ b. cond b (Some (nth_span first z.large_words (p - z.small))) rest) u.0) ∙ large) in
            let start = ap (λ (s : Span). s.start) same in
            let len = ap (λ (s : Span). s.len) same in
            let at = frame_at (p - z.small) z.large z.large_words first word u.1 (omega arith) (omega arith) in
            let place : word - first ≡ word - 1 - z.small * z.small_words = omega arith in
            let number : p - z.small ≡ (word - 1 - z.small * z.small_words) / z.large_words = at.0 ∙ ap (λ n. n / z.large_words) place in
            inr (omega (arith, number, t.1), omega (arith, start))
        | inr u ↦ absurd (omega (arith, t.1, u.1))
      ]
]

-- a small or large frame lies in the heap
pub frame_within : (z : Sizes) (p : ℕ) (words : Span) → p < z.small + z.large → span_of_frame z p ≡ Some words → end_of words ≤ 1 + word_count z
frame_within z p words h is = elim (leb_tells (suc p) z.small) [
  | inl t ↦
      let same : nth_span 1 z.small_words p ≡ words = same_Some _ words
      (sym (ap (λ b. cond b (Some (nth_span 1 z.small_words p)) (span_of_large z (p - z.small))) t.0) ∙ is) in
      let start = ap (λ (s : Span). s.start) same in
      let len = ap (λ (s : Span). s.len) same in
      omega (arith, start, len, row_fits p z.small_words z.small z.small_words t.1 (omega arith))
  | inr t ↦
      let large : span_of_large z (p - z.small) ≡ Some words = sym (ap
      (λ b. cond b (Some (nth_span 1 z.small_words p)) (span_of_large z (p - z.small))) t.0) ∙ is in
      elim (leb_tells (suc (p - z.small)) z.large) [
        | inl u ↦
            let first : ℕ = 1 + z.small * z.small_words in
            let rest = span_of_extra z (p - z.small - z.large) in
            let same : nth_span first z.large_words (p - z.small) ≡ words =
            same_Some _ words (sym (ap (λ b. cond b (Some (nth_span first z.large_words (p - z.small))) rest) u.0) ∙ large) in
            let start = ap (λ (s : Span). s.start) same in
            let len = ap (λ (s : Span). s.len) same in
            omega (arith, start, len, row_fits (p - z.small) z.large_words z.large z.large_words u.1 (omega arith))
        | inr u ↦ absurd (omega (arith, t.1, u.1))
      ]
]
