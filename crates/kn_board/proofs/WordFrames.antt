-- The frame of a word, by division.
use Rattle.std.proofs.Common.{◌≡◌, ℕ, ◌+◌, ◌-◌, ◌*◌, ◌/◌, ◌<◌, ◌≤◌, inl, inr, refl, ap, ◌∙◌, subst, arith}
use Rattle.std.proofs.Math.Nat.{mul-le-mul_right}
use Rattle.std.proofs.lemmas.Bool.{lt-ltb, le-ltb, cases_lt}
use Rattle.std.proofs.lemmas.Nat.{div-mul-add}
use Rattle.kn_base.specs.declared.numbers.Span.{Span}
use Rattle.kn_base.specs.declared.heap.Sizes.{Sizes}
use Rattle.kn_base.specs.Sizes.{IsGood, frame_count, nth_span}
use Rattle.kn_base.specs.SpanLists.{HasWord}
use Rattle.kn_rule.specs.FrameSpans.{frame_span}

-- the number of the row of a number
row_of : (w q x : ℕ) → q * w ≤ x → x < q * w + w → x / w ≡ q
row_of w q x low high =
    let e : x ≡ q * w + (x - q * w) = omega arith in
    ap (λ y. y / w) e ∙ div-mul-add q w (x - q * w) (omega arith)

-- row q of n rows ends within them
row_within : (w q n : ℕ) → q < n → q * w + w ≤ n * w
row_within w q n h =
    let rows : (q + 1) * w ≤ n * w = mul-le-mul_right w (let l : q + 1 ≤ n = omega arith in l) in
    omega arith

module _ (z : Sizes) where
  abbrev small : ℕ
  small = z.small * z.small_words

  abbrev large : ℕ
  large = z.large * z.large_words

  small_span : (p : ℕ) → p < z.small → frame_span z p ≡ nth_span 1 z.small_words p
  small_span p h = rw (lt-ltb p z.small h) refl

  large_span : (p : ℕ) → z.small ≤ p → p - z.small < z.large → frame_span z p ≡ nth_span (1 + small) z.large_words (p - z.small)
  large_span p h l = rw (le-ltb p z.small h, lt-ltb (p - z.small) z.large l) refl

  extra_span : (p : ℕ) → z.small ≤ p → z.large ≤ p - z.small → p - z.small - z.large < z.extra →
      frame_span z p ≡ nth_span (1 + small + large) z.extra_words (p - z.small - z.large)
  extra_span p h l x = rw (le-ltb p z.small h, le-ltb (p - z.small) z.large l, lt-ltb (p - z.small - z.large) z.extra x) refl

  -- a frame has two words or more
  pub two_words : IsGood z → (p : ℕ) → p < frame_count z → 2 ≤ (frame_span z p).len
  two_words good p near = elim (cases_lt p z.small) [
    | inl s ↦ rw (small_span p s) (omega (arith, good.of_frames.small_words.0))
    | inr s ↦ elim (cases_lt (p - z.small) z.large) [
      | inl m ↦ rw (large_span p s m) (omega (arith, good.of_frames.large_words.0))
      | inr m ↦ rw (extra_span p s m (omega arith)) (omega (arith, good.of_frames.extra_words.0))
    ]
  ]

  module _ (a p : ℕ) (near : p < frame_count z) (h : HasWord (frame_span z p) a) where
    abbrev word : ℕ
    word = a - 1

    here : (span : Span) → frame_span z p ≡ span → HasWord span a
    here span e = subst (λ s. HasWord s a) e h

    pub small_frame : word < small → word / z.small_words ≡ p
    small_frame l = elim (cases_lt p z.small) [
      | inl s ↦ let i = here (nth_span 1 z.small_words p) (small_span p s) in let i0 = i.0 in let i1 = i.1 in
          row_of z.small_words p word (omega arith) (omega arith)
      | inr s ↦ elim (cases_lt (p - z.small) z.large) [
        | inl m ↦ let i = here (nth_span (1 + small) z.large_words (p - z.small)) (large_span p s m) in let i0 = i.0 in absurd (omega arith)
        | inr m ↦
            let i = here (nth_span (1 + small + large) z.extra_words (p - z.small - z.large)) (extra_span p s m (omega arith)) in
            let i0 = i.0 in absurd (omega arith)
      ]
    ]

    pub large_frame : small ≤ word → word - small < large → z.small + (word - small) / z.large_words ≡ p
    large_frame g l = elim (cases_lt p z.small) [
      | inl s ↦ let i = here (nth_span 1 z.small_words p) (small_span p s) in let i1 = i.1 in let r = row_within z.small_words p z.small s in
          absurd (omega arith)
      | inr s ↦ elim (cases_lt (p - z.small) z.large) [
        | inl m ↦
            let i = here (nth_span (1 + small) z.large_words (p - z.small)) (large_span p s m) in let i0 = i.0 in let i1 = i.1 in
            let e = row_of z.large_words (p - z.small) (word - small) (omega arith) (omega arith) in omega arith
        | inr m ↦
            let i = here (nth_span (1 + small + large) z.extra_words (p - z.small - z.large)) (extra_span p s m (omega arith)) in
            let i0 = i.0 in absurd (omega arith)
      ]
    ]

    pub extra_frame : small ≤ word → large ≤ word - small → z.small + z.large + (word - small - large) / z.extra_words ≡ p
    extra_frame g l = elim (cases_lt p z.small) [
      | inl s ↦ let i = here (nth_span 1 z.small_words p) (small_span p s) in let i1 = i.1 in let r = row_within z.small_words p z.small s in
          absurd (omega arith)
      | inr s ↦ elim (cases_lt (p - z.small) z.large) [
        | inl m ↦
            let i = here (nth_span (1 + small) z.large_words (p - z.small)) (large_span p s m) in let i1 = i.1 in
            let r = row_within z.large_words (p - z.small) z.large m in absurd (omega arith)
        | inr m ↦
            let i = here (nth_span (1 + small + large) z.extra_words (p - z.small - z.large)) (extra_span p s m (omega arith)) in
            let i0 = i.0 in let i1 = i.1 in
            let e = row_of z.extra_words (p - z.small - z.large) (word - small - large) (omega arith) (omega arith) in omega arith
      ]
    ]
